use Rattle.goal_facts.specs.Words.{asked_list}
use Rattle.goal_facts.specs.Own.{Has, IsLevel}
use Rattle.goal_facts.proofs.closure.close.Given as goal

abbrev pub invariant-loop : goal.invariant-loop
invariant-loop l = IsLevel l.facts (Has (asked_list l.fn.goals.items)) l.counter l.from (asked_list l.goals.items)
