use Rattle.std.specs.Prelude.{slice_index}
use Rattle.hir_counts.proofs.Measured.{Greatest}
use Rattle.hir_counts.proofs.sizes.most_of.Given as goal

abbrev pub invariant-loop-part : goal.invariant-loop-part
invariant-loop-part l = Greatest (λ t. slice_index l.depths t.0) l.parts l.part-index l.most
