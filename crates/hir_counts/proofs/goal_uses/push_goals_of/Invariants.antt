use Rattle.std.proofs.Common.{◌≡◌, ◌++◌, take}
use Rattle.std.specs.Prelude.{flat_map}
use Rattle.hir_counts.specs.Words.{goals_uses}
use Rattle.hir_counts.proofs.goal_uses.push_goals_of.Given as goal

abbrev pub invariant-loop-item : goal.invariant-loop-item
invariant-loop-item g l = l.out.items ≡ l.fn.out.items ++ flat_map (λ x. goals_uses (g.T.HasGoals.goals x)) (take l.item-index l.items)
