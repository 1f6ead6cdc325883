use Rattle.std.proofs.Common.{◌≡◌}
use Rattle.goal_facts.specs.Own.{holes}
use Rattle.goal_facts.proofs.arguments.holes.Given as goal

abbrev pub invariant-loop-number : goal.invariant-loop-number
invariant-loop-number l = l.made ≡ holes l.number
