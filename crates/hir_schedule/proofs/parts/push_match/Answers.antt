use Rattle.hir_schedule.proofs.NodeLists.{match_pushed}
use Rattle.hir_schedule.proofs.parts.push_match.Goals as goal

pub returns : goal.returns
returns c b =
    match_pushed b c.args.scrutinee c.args.arms.now c.args.out.now.items c.push.new.self.items c.push_arm_pats.new.out.items c.push_arms.new.out.items c.in_ok-push.ensures.items c.in_ok-push_arm_pats.ensures c.in_ok-push_arms.ensures
