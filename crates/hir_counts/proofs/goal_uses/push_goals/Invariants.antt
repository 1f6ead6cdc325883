use Rattle.std.proofs.Common.{◌≡◌, ◌++◌, take}
use Rattle.std.specs.Prelude.{flat_map}
use Rattle.hir_counts.specs.Words.{goal_uses}
use Rattle.hir_counts.proofs.goal_uses.push_goals.Given as goal

abbrev pub invariant-loop-goal : goal.invariant-loop-goal
invariant-loop-goal l = l.out.items ≡ l.fn.out.items ++ flat_map goal_uses (take l.goal-index l.goals)
