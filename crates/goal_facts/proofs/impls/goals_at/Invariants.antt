use Rattle.std.proofs.Common.{◌≡◌, map, take}
use Rattle.goal_facts.specs.Words.{Each, HasHeads, asked_list}
use Rattle.goal_facts.specs.Own.{goal_at}
use Rattle.goal_facts.proofs.impls.goals_at.Given as goal

abbrev pub invariant-loop-goal : goal.invariant-loop-goal
invariant-loop-goal l = (asked_list l.made.items ≡ map (goal_at l.facts l.args) (take l.goal-index l.goals)) × Each (λ q. HasHeads q.parts) (asked_list l.made.items)
