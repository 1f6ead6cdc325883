use Rattle.std.specs.Prelude.{slice_index}
use Rattle.hir_counts.proofs.Measured.{Summed}
use Rattle.hir_counts.proofs.sizes.sum_of.Given as goal

abbrev pub invariant-loop-part : goal.invariant-loop-part
invariant-loop-part l = Summed 4097 (λ t. slice_index l.sizes t.0) l.parts l.part-index l.sum
