use Rattle.hir_ids.specs.Words.{adt_variants}
use Rattle.hir_ids.proofs.Uses.{gathered_more}
use Rattle.hir_ids.proofs.adt_ids.listed_variants.Goals as goal

pub loop-adt-preserved : goal.loop-adt-preserved
loop-adt-preserved c = gathered_more adt_variants c.args.adts.now c.loop-adt.adt-index c.adt-item.result c.loop-adt.out.items c.push_variants.new.out.items c.loop-adt-test.true c.adt-item.is c.loop-adt.invariant (rw c.as_slice.ensures at c.in_ok-push_variants.ensures)
