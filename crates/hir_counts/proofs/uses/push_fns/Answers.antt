use Rattle.hir_counts.specs.Words.{fn_uses}
use Rattle.hir_counts.proofs.Words.{gathered_after}
use Rattle.hir_counts.proofs.uses.push_fns.Goals as goal

pub loop-function-preserved : goal.loop-function-preserved
loop-function-preserved c = gathered_after fn_uses c.args.fns.now c.loop-function.function-index c.function-item.result c.args.out.now.items c.loop-function.out.items c.push_fn.new.out.items c.loop-function-test.true c.function-item.is c.loop-function.invariant c.in_ok-push_fn.ensures
