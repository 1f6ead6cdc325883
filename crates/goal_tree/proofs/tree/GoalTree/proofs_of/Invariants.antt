use Rattle.std.proofs.Common.{◌-◌}
use Rattle.goal_tree.specs.Own.{AreProved}
use Rattle.goal_tree.proofs.tree.GoalTree.proofs_of.Given as goal

abbrev pub invariant-loop-at : goal.invariant-loop-at
invariant-loop-at l = AreProved l.self.standings.items l.first (l.at - l.first) l.numbers
