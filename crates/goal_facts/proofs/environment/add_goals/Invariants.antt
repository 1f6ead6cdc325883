use Rattle.std.proofs.Common.{◌≡◌}
use Rattle.goal_facts.specs.Words.{asked_list}
use Rattle.goal_facts.specs.Own.{goal_at, Adds, SomeSaysBefore}
use Rattle.goal_facts.proofs.environment.add_goals.Given as goal

abbrev pub invariant-loop-goal : goal.invariant-loop-goal
invariant-loop-goal l = Adds (SomeSaysBefore (λ i g d. d ≡ goal_at l.facts l.args g) l.goals l.goal-index) (asked_list l.fn.made.items) (asked_list l.made.items)
