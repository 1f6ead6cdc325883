use Rattle.hir_plain.proofs.UsersOf.{AreUnmarked}
use Rattle.hir_plain.proofs.spread.unmarked_nodes.Given as goal

abbrev pub invariant-loop-node : goal.invariant-loop-node
invariant-loop-node l = AreUnmarked l.marks l.node l.nodes.items
