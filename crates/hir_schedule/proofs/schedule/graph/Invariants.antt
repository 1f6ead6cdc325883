use Rattle.std.proofs.Common.{◌≡◌, take, map}
use Rattle.hir_schedule.specs.Own.{positions}
use Rattle.hir_schedule.proofs.schedule.graph.Given as goal

abbrev pub invariant-loop-nodes : goal.invariant-loop-nodes
invariant-loop-nodes l = l.kids ≡ map (positions l.body) (take l.nodes-index l.nodes-items)
