use Rattle.goal_facts.specs.Words.{asked_list}
use Rattle.std.proofs.Common.{ap}
use Rattle.goal_facts.proofs.Systems.{stated_by}
use Rattle.goal_facts.proofs.environment.stated.Goals as goal

pub returns : goal.returns
returns c =
    stated_by c.args.facts.now c.raw-raw.result.now c.args.item c.generic_params-count.result c.in_ok-args.args c.env_preds.result.now
    (asked_list c.new-made.result.items) (asked_list c.add_own.new.made.items) (asked_list c.add_goals.new.made.items)
    c.raw-raw.ensures.value c.generic_params-count.ensures c.in_ok-args.ensures c.env_preds.ensures (ap asked_list c.new-made.ensures.items) c.in_ok-add_own.ensures c.in_ok-add_goals.ensures
