use Rattle.std.proofs.Common.{ap, ◌∙◌}
use Rattle.infer_goals.specs.Words.{asked_of, asked_goal}
use Rattle.infer_goals.proofs.Sleeping.{asleep_one}
use Rattle.infer_goals.proofs.obligations.sleep_one.Goals as goal

pub returns : goal.returns
returns c =
    asleep_one c.args.table.now c.args.tree.now c.args.at c.obligation.result.now (asked_of c.in_ok-known.known) c.args.asleep.now c.sleep.new.self c.obligation.ensures (c.in_ok-known.ensures.is ∙ ap asked_goal c.in_ok-goal.ensures)
    c.in_ok-sleep.ensures.kept c.in_ok-sleep.ensures.listed c.in_ok-sleep.ensures.asleep c.sleep.ensures.seen
