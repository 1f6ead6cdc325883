use Rattle.std.proofs.Common.{sym, ◌∙◌}
use Rattle.infer_goals.specs.Words.{system}
use Rattle.infer_goals.proofs.SelfTy.{pending_adds, other_adds}
use Rattle.infer_goals.proofs.obligations.Obligations.add_pending.Goals as goal

pub returns-then-not-is_pending : goal.returns-then-not-is_pending
returns-then-not-is_pending c =
    other_adds (system c.args.sources.now.sources) c.args.sources.now.facts.limits.goal_depth c.args.table.now c.args.hole.now c.args.self.now.tree c.args.at c.obligation.result.now c.standing-standing.result.now c.args.found.now.items
    c.obligation.ensures c.standing-standing.ensures (sym c.is_pending.ensures ∙ c.if-not-is_pending.true)

pub returns : goal.returns
returns c =
    pending_adds (system c.args.sources.now.sources) c.args.sources.now.facts.limits.goal_depth c.args.table.now c.args.hole.now c.args.self.now.tree c.args.at c.obligation.result.now c.standing-standing.result.now c.args.found.now.items c.add_listed.new.found.items
    c.obligation.ensures c.standing-standing.ensures (sym c.is_pending.ensures ∙ c.if-not-is_pending.false) c.in_ok-add_listed.ensures
