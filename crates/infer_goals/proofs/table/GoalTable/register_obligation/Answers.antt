use Rattle.std.proofs.Common.{◌≡◌, ap, ◌∙◌, arith}
use Rattle.infer_goals.specs.Words.{system, registered}
use Rattle.infer_goals.proofs.Kept.{kept_asked}
use Rattle.infer_goals.proofs.table.GoalTable.register_obligation.Goals as goal

pub returns-clause-kept : goal.returns-clause-kept
returns-clause-kept c =
    let raw = c.args.self.now.sources.facts in
    let same : c.raw.result.now ≡ raw = c.raw.ensures.value ∙ c.facts.ensures in
    let depth : c.raw.result.now.limits.goal_depth ≡ raw.limits.goal_depth = ap (λ r. r.limits.goal_depth) same in
    kept_asked raw (system c.args.self.now.sources.sources) c.args.self.now.table c.args.self.now.obligations c.register.new.self (registered c.args.goal c.args.node c.raw.result.now.limits.goal_depth)
    c.in_ok-register.ensures.tree c.in_ok-register.ensures.asked c.requires.goal (omega (arith, depth)) c.in_ok-register.ensures.selected c.requires.kept
