use Rattle.std.proofs.Common.{◌≡◌, take}
use Rattle.hir_schedule.specs.Own.{positions}
use Rattle.hir_schedule.proofs.schedule.positions_of.Given as goal

abbrev pub invariant-loop-node : goal.invariant-loop-node
invariant-loop-node l = l.out ≡ positions l.body (take l.node-index l.nodes)
