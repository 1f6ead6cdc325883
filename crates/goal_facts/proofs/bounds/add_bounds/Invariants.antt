use Rattle.goal_facts.specs.Words.{asked_list}
use Rattle.goal_facts.specs.Own.{Adds, SomeSaysBefore, BoundSays}
use Rattle.goal_facts.proofs.bounds.add_bounds.Given as goal

abbrev pub invariant-loop-bound : goal.invariant-loop-bound
invariant-loop-bound l = Adds (SomeSaysBefore (λ i g. BoundSays l.facts l.alias l.args g) l.bounds l.bound-index) (asked_list l.fn.made.items) (asked_list l.made.items)
