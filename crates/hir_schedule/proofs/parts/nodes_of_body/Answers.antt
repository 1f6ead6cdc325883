use Rattle.hir_schedule.proofs.NodeLists.{body_pushed}
use Rattle.hir_schedule.proofs.parts.nodes_of_body.Goals as goal

pub returns : goal.returns
returns c =
    body_pushed c.args.body.now c.new-out.result.items c.push_pats.new.out.items c.push.new.self.items c.as_slice.result.now c.new-out.ensures.items c.as_slice.ensures c.in_ok-push_pats.ensures c.in_ok-push.ensures.items
