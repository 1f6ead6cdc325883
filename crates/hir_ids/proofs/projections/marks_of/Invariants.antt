use Rattle.hir_ids.specs.Own.{AreMarked}
use Rattle.hir_ids.proofs.projections.marks_of.Given as goal

abbrev pub invariant-loop-ty : goal.invariant-loop-ty
invariant-loop-ty l = AreMarked l.types l.ty-index l.marks.items
