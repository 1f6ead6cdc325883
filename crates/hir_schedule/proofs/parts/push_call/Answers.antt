use Rattle.hir_schedule.proofs.NodeLists.{call_pushed}
use Rattle.hir_schedule.proofs.parts.push_call.Goals as goal

pub returns : goal.returns
returns c =
    call_pushed c.args.body.now c.args.callee c.args.args.now c.args.out.now.items c.push.new.self.items c.push_arguments.new.out.items c.in_ok-push.ensures.items c.in_ok-push_arguments.ensures
