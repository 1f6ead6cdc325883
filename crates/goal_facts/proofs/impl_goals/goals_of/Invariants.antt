use Rattle.std.proofs.Common.{◌≡◌, map, take}
use Rattle.goal_facts.specs.Own.{goal_at, asked_goal}
use Rattle.goal_facts.proofs.impl_goals.goals_of.Given as goal

abbrev pub invariant-loop-goal : goal.invariant-loop-goal
invariant-loop-goal l = map asked_goal l.made.items ≡ map (goal_at l.facts l.args) (take l.goal-index l.goals)
