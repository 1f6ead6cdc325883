use Rattle.std.proofs.Common.{◌+◌, ◌*◌, length}
use Rattle.hir_schedule.specs.Own.{visited_by, unseen}
use Rattle.hir_schedule.proofs.Walking.{Walking}
use Rattle.hir_schedule.proofs.graph.number_graph.Given as goal

abbrev pub invariant-loop-node : goal.invariant-loop-node
invariant-loop-node l = Walking l.kids l.root (visited_by l.walk)

abbrev pub decreases-loop-node : goal.decreases-loop-node
decreases-loop-node l = 2 * unseen l.walk.seen.items + length l.walk.stack.items
