use Rattle.std.specs.Prelude.{slice_index}
use Rattle.hir_counts.proofs.Measured.{greatest_none, greatest_more, greatest_all}
use Rattle.hir_counts.proofs.sizes.most_of.Goals as goal

pub loop-part-init : goal.loop-part-init
loop-part-init c = greatest_none (λ t. slice_index c.args.depths.now t.0) c.args.parts.now

pub loop-part-preserved : goal.loop-part-preserved
loop-part-preserved c = greatest_more (λ t. slice_index c.args.depths.now t.0) c.args.parts.now c.loop-part.part-index c.loop-part.most c.larger-most.result _ c.loop-part.invariant c.loop-part-test.true c.larger-most.ensures

pub returns : goal.returns
returns c = greatest_all (λ t. slice_index c.args.depths.now t.0) c.args.parts.now c.loop-part.part-index c.loop-part.most c.loop-part.invariant c.loop-part-test.false
