use Rattle.hir_schedule.proofs.NodeLists.{arguments_pushed}
use Rattle.hir_schedule.proofs.later_parts.push_arguments_from.Goals as goal

pub loop-arg-preserved : goal.loop-arg-preserved
loop-arg-preserved c =
    arguments_pushed c.args.body.now c.args.closures c.args.out.now.items c.loop-arg.out.items c.push_if_closure.new.out.items c.args.args.now c.loop-arg.arg-index _ c.loop-arg-test.true c.loop-arg.invariant (c.in_ok-push_if_closure.ensures 0)
