use Rattle.hir_schedule.proofs.NodeLists.{arms_pushed}
use Rattle.hir_schedule.proofs.parts.push_arms.Goals as goal

pub loop-arm-preserved : goal.loop-arm-preserved
loop-arm-preserved c =
    arms_pushed c.args.out.now.items c.loop-arm.out.items c.push_arm.new.out.items c.args.arms.now c.loop-arm.arm-index _ c.loop-arm-test.true c.loop-arm.invariant (c.in_ok-push_arm.ensures 0)
