use Rattle.std.proofs.Common.{◌≡◌, take}
use Rattle.goal_tree.proofs.tree.GoalTree.standings.Given as goal

abbrev pub invariant-loop-standing : goal.invariant-loop-standing
invariant-loop-standing l = l.copies.items ≡ take l.standing-index l.self.standings.items
