use Rattle.hir_laws.proofs.Scoping.{ScheduledSoFar}
use Rattle.hir_laws.proofs.scopes.schedules_of.Given as goal

abbrev pub invariant-loop-body : goal.invariant-loop-body
invariant-loop-body l = ScheduledSoFar l.bodies l.body-index l.schedules
