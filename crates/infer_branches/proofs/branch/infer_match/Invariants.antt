use Rattle.infer_branches.specs.Words.{given_of, schedule_of}
use Rattle.infer_branches.proofs.PatternWalk.{PatternWalk}
use Rattle.infer_branches.proofs.branch.infer_match.Given as goal

abbrev pub invariant-loop-i : goal.invariant-loop-i
invariant-loop-i g l = PatternWalk (given_of l.given) (schedule_of l.given) l.fn.tgt_expr l.fn.scrutinee l.arms l.i l.input_ty l.fn.context l.context
