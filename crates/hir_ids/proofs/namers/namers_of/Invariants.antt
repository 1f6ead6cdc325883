use Rattle.hir_ids.specs.Own.{AreNamers}
use Rattle.hir_ids.proofs.namers.namers_of.Given as goal

abbrev pub invariant-loop-k : goal.invariant-loop-k
invariant-loop-k l = AreNamers l.targets l.k l.count l.namers.items
