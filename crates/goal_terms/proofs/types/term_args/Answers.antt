use Rattle.std.proofs.Common.{ap, ◌∙◌}
use Rattle.goal_terms.specs.Words.{leading_args}
use Rattle.goal_terms.specs.Own.{term_of, parts_read}
use Rattle.goal_terms.proofs.ReadBack.{args_back}
use Rattle.goal_terms.proofs.types.term_args.Goals as goal

pub returns-clause-is : goal.returns-clause-is
returns-clause-is c = λ xs. args_back c.in_ok-args.args (term_of c.args.from.now) xs
    (c.in_ok-args.ensures ∙ ap (λ ps. leading_args (parts_read ps)) c.deref.ensures.value ∙ ap leading_args c.in_ok-parts.ensures)
