use Rattle.hir_plain.specs.Own.{AreUsers}
use Rattle.hir_plain.proofs.spread.users_of.Given as goal

abbrev pub invariant-loop-node : goal.invariant-loop-node
invariant-loop-node l = AreUsers l.kids l.node l.users.items
