use Rattle.infer_branches.proofs.BranchWalk.{else_before, else_typed, else_missing}
use Rattle.infer_branches.proofs.branch.infer_else.Goals as goal

pub infer_alternative-requires-clause-before : goal.infer_alternative-requires-clause-before
infer_alternative-requires-clause-before g c = else_before _ _ _ _ _ _ _ _ c.in-Some.is c.requires.before

pub returns-in_ok-infer_alternative-in-Some : goal.returns-in_ok-infer_alternative-in-Some
returns-in_ok-infer_alternative-in-Some g c = else_typed _ _ _ _ _ _ _ _ _ _ c.in-Some.is c.in_ok-infer_alternative-in-Some.ensures

pub returns-in_ok-coerce_forced_unit-in-None : goal.returns-in_ok-coerce_forced_unit-in-None
returns-in_ok-coerce_forced_unit-in-None g c = else_missing _ _ _ _ _ _ _ _ _ c.in-None.is c.in_ok-coerce_forced_unit-in-None.ensures
