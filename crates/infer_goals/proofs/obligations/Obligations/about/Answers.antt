use Rattle.infer_goals.specs.Words.{system}
use Rattle.infer_goals.specs.Own.{IsListedPending}
use Rattle.infer_goals.proofs.SelfTy.{all_after}
use Rattle.infer_goals.proofs.obligations.Obligations.about.Goals as goal

pub loop-at-preserved : goal.loop-at-preserved
loop-at-preserved c =
    let L = IsListedPending (system c.args.sources.now.sources) c.args.sources.now.facts.limits.goal_depth c.args.table.now c.args.hole.now c.args.self.now.tree in
    all_after L c.loop-at.at c.loop-at.found.items c.add_pending.new.found.items c.loop-at.invariant c.in_ok-add_pending.ensures
