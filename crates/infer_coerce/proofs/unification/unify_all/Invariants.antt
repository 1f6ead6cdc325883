use Rattle.infer_coerce.specs.Words.{given_of}
use Rattle.infer_coerce.proofs.Settled.{AtUnify}
use Rattle.infer_coerce.proofs.unification.unify_all.Given as goal

abbrev pub invariant-loop-i : goal.invariant-loop-i
invariant-loop-i l = AtUnify (given_of l.given) l.tys l.others l.i l.fn.context l.context
