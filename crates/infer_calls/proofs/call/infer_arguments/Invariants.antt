use Rattle.infer_calls.specs.Words.{given_of, schedule_of}
use Rattle.infer_calls.proofs.Loose.{AtLoose}
use Rattle.infer_calls.proofs.call.infer_arguments.Given as goal

abbrev pub invariant-loop-i : goal.invariant-loop-i
invariant-loop-i g l = AtLoose (given_of l.given) (schedule_of l.given) l.fn.call_expr l.args l.inputs l.i l.fn.context l.context
