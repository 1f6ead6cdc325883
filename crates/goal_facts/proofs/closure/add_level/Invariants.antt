use Rattle.std.proofs.Common.{◌≤◌}
use Rattle.goal_facts.specs.Words.{asked_list}
use Rattle.goal_facts.specs.Own.{Adds, SomeSuper}
use Rattle.goal_facts.proofs.closure.add_level.Given as goal

abbrev pub invariant-loop-place : goal.invariant-loop-place
invariant-loop-place l = (l.from ≤ l.place) × Adds (SomeSuper l.facts l.from l.place (asked_list l.fn.goals.items)) (asked_list l.fn.goals.items) (asked_list l.goals.items)
