use Rattle.std.specs.Prelude.{[]}
use Rattle.goal_facts.specs.Words.{asked_list}
use Rattle.goal_facts.specs.Own.{Adds, SomeSaysBefore, AliasLists}
use Rattle.goal_facts.proofs.bounds.listed.Given as goal

abbrev pub invariant-loop-place : goal.invariant-loop-place
invariant-loop-place l = Adds (SomeSaysBefore (AliasLists l.facts) l.aliases l.place) [] (asked_list l.made.items)
