use Rattle.infer_tuples.specs.Words.{given_of, schedule_of}
use Rattle.infer_tuples.proofs.Tuples.{AtElement}
use Rattle.infer_tuples.proofs.tuple.infer_elements.Given as goal

abbrev pub invariant-loop-i : goal.invariant-loop-i
invariant-loop-i t l = AtElement (given_of l.given) (schedule_of l.given) l.fn.tgt_expr l.exprs l.i l.tys l.fn.context l.context
