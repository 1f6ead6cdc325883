use Rattle.std.proofs.Common.{take}
use Rattle.hir_plain.specs.Own.{AddsUser}
use Rattle.hir_plain.proofs.spread.add_users.Given as goal

abbrev pub invariant-loop-node : goal.invariant-loop-node
invariant-loop-node l = AddsUser l.fn.users.items l.users.items l.user (take l.node-index l.used)
