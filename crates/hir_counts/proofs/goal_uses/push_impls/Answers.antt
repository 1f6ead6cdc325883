use Rattle.hir_counts.specs.Words.{impl_uses}
use Rattle.hir_counts.proofs.Words.{gathered_after}
use Rattle.hir_counts.proofs.goal_uses.push_impls.Goals as goal

pub loop-item-preserved : goal.loop-item-preserved
loop-item-preserved c = gathered_after impl_uses c.args.impls.now c.loop-item.item-index c.item-item.result c.args.out.now.items c.loop-item.out.items c.push_impl.new.out.items c.loop-item-test.true c.item-item.is c.loop-item.invariant c.in_ok-push_impl.ensures
