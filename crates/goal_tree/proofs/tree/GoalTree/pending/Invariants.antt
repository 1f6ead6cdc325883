use Rattle.std.proofs.Common.{◌≡◌, take}
use Rattle.goal_tree.specs.Own.{pending_of}
use Rattle.goal_tree.proofs.tree.GoalTree.pending.Given as goal

abbrev pub invariant-loop-at : goal.invariant-loop-at
invariant-loop-at l = l.pending.items ≡ pending_of (take l.at l.self.obligations.items) (take l.at l.self.standings.items)
