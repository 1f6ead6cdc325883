use Rattle.infer_coerce.specs.Words.{given_of}
use Rattle.infer_coerce.proofs.Unified.{EachSoFar}
use Rattle.infer_coerce.proofs.unification.unify_each.Given as goal

abbrev pub invariant-loop-pair : goal.invariant-loop-pair
invariant-loop-pair l = EachSoFar (given_of l.given) l.pairs l.initial.context l.context l.pair-index
