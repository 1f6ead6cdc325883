use Rattle.hir_laws.specs.Own.{ArePlaces}
use Rattle.hir_laws.proofs.labels.places_of.Given as goal

abbrev pub invariant-loop-said : goal.invariant-loop-said
invariant-loop-said l = ArePlaces l.said l.said-index l.places.items
