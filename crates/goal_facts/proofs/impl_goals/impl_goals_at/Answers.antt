use Rattle.std.proofs.Common.{refl, ◌∙◌, ap, map}
use Rattle.goal_facts.specs.Own.{goal_at}
use Rattle.goal_facts.proofs.impl_goals.impl_goals_at.Goals as goal

pub returns : goal.returns
returns c = record {
  source = refl;
  args = refl;
  head = c.in_ok-head.ensures;
  preds = c.in_ok-preds.ensures ∙ ap (map (goal_at c.args.facts.now c.args.args)) c.as_slice.ensures;
}
