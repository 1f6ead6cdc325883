use Rattle.hir_laws.specs.Own.{AreAssigned}
use Rattle.hir_laws.proofs.targets.have_targets.Given as goal

abbrev pub invariant-loop-number : goal.invariant-loop-number
invariant-loop-number l = AreAssigned l.body l.schedule l.number l.assigned
