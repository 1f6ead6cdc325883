use Rattle.std.proofs.Common.{sym, ◌∙◌}
use Rattle.goal_terms.specs.Words.{sub_absent}
use Rattle.goal_terms.specs.Own.{term_of}
use Rattle.goal_terms.proofs.binding.with_binding.Goals as goal

pub returns-then-not-stands_in : goal.returns-then-not-stands_in
returns-then-not-stands_in c =
    sym (sub_absent c.args.binding.now.hole (term_of c.args.binding.now.term) (term_of c.args.term) (sym c.stands_in.ensures ∙ c.if-not-stands_in.true))
