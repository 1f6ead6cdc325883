use Rattle.std.proofs.Common.{◌≡◌, ◌++◌, map, take}
use Rattle.goal_select.specs.Own.{only_goal}
use Rattle.goal_select.proofs.parts.push_goals.Given as goal

abbrev pub invariant-loop-ty : goal.invariant-loop-ty
invariant-loop-ty l = l.goals.items ≡ l.fn.goals.items ++ map (only_goal l.id) (take l.ty-index l.tys)
