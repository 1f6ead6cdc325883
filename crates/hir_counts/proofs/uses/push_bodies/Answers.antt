use Rattle.hir_counts.specs.Words.{body_uses}
use Rattle.hir_counts.proofs.Words.{gathered_after}
use Rattle.hir_counts.proofs.uses.push_bodies.Goals as goal

pub loop-body-preserved : goal.loop-body-preserved
loop-body-preserved c = gathered_after body_uses c.args.bodies.now c.loop-body.body-index c.body-item.result c.args.out.now.items c.loop-body.out.items c.push_body.new.out.items c.loop-body-test.true c.body-item.is c.loop-body.invariant c.in_ok-push_body.ensures
