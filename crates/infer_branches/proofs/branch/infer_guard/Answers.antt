use Rattle.infer_branches.proofs.ArmWalk.{comes_to_guard_expr, guard_typed, guard_missing}
use Rattle.infer_branches.proofs.branch.infer_guard.Goals as goal

pub infer_expr_coerce-requires-clause-before : goal.infer_expr_coerce-requires-clause-before
infer_expr_coerce-requires-clause-before g c = comes_to_guard_expr _ _ _ _ _ _ c.in-Some.is c.requires.before

pub returns-in-None : goal.returns-in-None
returns-in-None g c = guard_missing _ _ _ _ _ c.in-None.is c.requires.before

pub returns-in_ok-infer_expr_coerce-in-Some : goal.returns-in_ok-infer_expr_coerce-in-Some
returns-in_ok-infer_expr_coerce-in-Some g c = guard_typed _ _ _ _ _ _ _ _ c.in-Some.is c.requires.before c.in_ok-infer_expr_coerce-in-Some.ensures
