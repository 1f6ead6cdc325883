use Rattle.std.proofs.Common.{◌+◌, length}
use Rattle.hir_plain.specs.Own.{marks_of}
use Rattle.hir_plain.proofs.Spreading.{Spreading, marked_count}
use Rattle.hir_plain.proofs.spread.good_nodes.Given as goal

abbrev pub invariant-loop-node : goal.invariant-loop-node
invariant-loop-node l = Spreading l.kids l.fine (marks_of l.spread)

abbrev pub decreases-loop-node : goal.decreases-loop-node
decreases-loop-node l = marked_count l.spread.good.items + length l.spread.waiting.items
