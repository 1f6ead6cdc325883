use Rattle.std.proofs.Common.{◌≡◌, take}
use Rattle.goal_tree.proofs.tree.GoalTree.obligations.Given as goal

abbrev pub invariant-loop-obligation : goal.invariant-loop-obligation
invariant-loop-obligation l = l.copies.items ≡ take l.obligation-index l.self.obligations.items
