use Rattle.hir_counts.specs.Words.{variant_uses}
use Rattle.hir_counts.proofs.Words.{gathered_after}
use Rattle.hir_counts.proofs.uses.push_variants.Goals as goal

pub loop-variant-preserved : goal.loop-variant-preserved
loop-variant-preserved c = gathered_after variant_uses c.args.variants.now c.loop-variant.variant-index c.variant-item.result c.args.out.now.items c.loop-variant.out.items c.push_fields.new.out.items c.loop-variant-test.true c.variant-item.is c.loop-variant.invariant (rw c.as_slice.ensures at c.in_ok-push_fields.ensures)
