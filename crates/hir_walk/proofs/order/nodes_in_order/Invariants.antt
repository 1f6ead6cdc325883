use Rattle.hir_walk.specs.Words.{RawBody, IsSchedule}
use Rattle.hir_walk.proofs.Numbers.{NumberedSoFar}
use Rattle.hir_walk.proofs.order.nodes_in_order.Given as goal

abbrev pub invariant-loop-node : goal.invariant-loop-node
invariant-loop-node l = (b : RawBody) → IsSchedule b l.schedule → NumberedSoFar b l.schedule l.node l.order.items
