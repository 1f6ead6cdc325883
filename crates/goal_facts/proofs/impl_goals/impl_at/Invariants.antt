use Rattle.std.proofs.Common.{◌≡◌, ◌+◌}
use Rattle.goal_facts.specs.Own.{rules_of_first}
use Rattle.goal_facts.proofs.impl_goals.impl_at.Given as goal

abbrev pub invariant-loop-number : goal.invariant-loop-number
invariant-loop-number l = l.place ≡ rules_of_first l.facts l.number + l.rest
