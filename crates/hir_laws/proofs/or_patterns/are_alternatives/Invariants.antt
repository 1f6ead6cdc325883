use Rattle.hir_laws.specs.Own.{IsWalked}
use Rattle.hir_laws.proofs.or_patterns.are_alternatives.Given as goal

abbrev pub invariant-loop-number : goal.invariant-loop-number
invariant-loop-number l = IsWalked l.body l.schedule l.number l.walked
