use Rattle.std.specs.Prelude.{slice_index}
use Rattle.hir_counts.proofs.Measured.{summed_none, summed_more, summed_all}
use Rattle.hir_counts.proofs.sizes.sum_of.Goals as goal

pub loop-part-init : goal.loop-part-init
loop-part-init c = summed_none 4097 (λ t. slice_index c.args.sizes.now t.0) c.args.parts.now

pub loop-part-preserved : goal.loop-part-preserved
loop-part-preserved c = summed_more 4097 (λ t. slice_index c.args.sizes.now t.0) c.args.parts.now c.loop-part.part-index c.loop-part.sum c.capped_sum-sum.result _ c.loop-part.invariant c.loop-part-test.true c.capped_sum-sum.ensures

pub returns : goal.returns
returns c = summed_all 4097 (λ t. slice_index c.args.sizes.now t.0) c.args.parts.now c.loop-part.part-index c.loop-part.sum c.loop-part.invariant c.loop-part-test.false
