use Rattle.hir_ids.specs.Words.{trait_aliases}
use Rattle.hir_ids.proofs.Uses.{gathered_more}
use Rattle.hir_ids.proofs.goal_ids.listed_aliases.Goals as goal

pub loop-item-preserved : goal.loop-item-preserved
loop-item-preserved c = gathered_more trait_aliases c.args.traits.now c.loop-item.item-index c.item-item.result c.loop-item.out.items c.push_aliases.new.out.items c.loop-item-test.true c.item-item.is c.loop-item.invariant (rw c.as_slice.ensures at c.in_ok-push_aliases.ensures)
