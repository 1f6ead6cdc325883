use Rattle.infer_coerce.specs.Words.{given_of}
use Rattle.infer_coerce.proofs.KnownPairs.{KnownSoFar}
use Rattle.infer_coerce.proofs.unification.unify_known.Given as goal

abbrev pub invariant-loop : goal.invariant-loop
invariant-loop l = KnownSoFar (given_of l.given) l.counter l.initial.context l.context
