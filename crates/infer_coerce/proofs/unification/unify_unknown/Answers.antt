use Rattle.std.proofs.Common.{sym, subst, ◌∙◌}
use Rattle.infer_coerce.specs.Words.{given_of, scope_in, AreFinePairs}
use Rattle.infer_coerce.proofs.Unified.{all_decided}
use Rattle.infer_coerce.proofs.unification.unify_unknown.Goals as goal

pub unify_each-requires-clause-fine : goal.unify_each-requires-clause-fine
unify_each-requires-clause-fine c = subst (λ ps. AreFinePairs (scope_in c.args.given.now) c.args.context.now.goals.table ps) (sym (c.as_slice.ensures.value ∙ c.in_ok-pairs.ensures)) c.requires.sound.pairs

pub returns : goal.returns
returns c =
    let done = c.in_ok-unify_each.ensures in
    record {
      binds = done.binds;
      decided = all_decided (given_of c.args.given.now) c.args.context.now c.unify_each.new.context c.as_slice.result.now c.requires.sound.kept (c.as_slice.ensures.value ∙ c.in_ok-pairs.ensures) done.binds done.decided;
    }
