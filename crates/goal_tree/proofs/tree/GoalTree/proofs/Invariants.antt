use Rattle.std.proofs.Common.{◌≡◌, take}
use Rattle.goal_tree.proofs.tree.GoalTree.proofs.Given as goal

abbrev pub invariant-loop-proof : goal.invariant-loop-proof
invariant-loop-proof l = l.copies.items ≡ take l.proof-index l.self.proofs.items
