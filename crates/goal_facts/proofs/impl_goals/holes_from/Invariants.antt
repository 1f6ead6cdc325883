use Rattle.std.proofs.Common.{◌≡◌}
use Rattle.goal_facts.specs.Own.{holes_from}
use Rattle.goal_facts.proofs.impl_goals.holes_from.Given as goal

abbrev pub invariant-loop-number : goal.invariant-loop-number
invariant-loop-number l = l.made ≡ holes_from l.first l.number
