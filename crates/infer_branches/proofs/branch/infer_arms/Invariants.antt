use Rattle.infer_branches.specs.Words.{given_of, schedule_of, expected_type}
use Rattle.infer_branches.proofs.ArmWalk.{ArmWalk}
use Rattle.infer_branches.proofs.branch.infer_arms.Given as goal

abbrev pub invariant-loop-i : goal.invariant-loop-i
invariant-loop-i g l = ArmWalk (given_of l.given) (schedule_of l.given) l.fn.tgt_expr l.arms (expected_type l.expected) l.i l.common l.initial.context l.context
