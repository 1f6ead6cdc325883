use Rattle.std.proofs.Common.{◌≡◌}
use Rattle.goal_facts.specs.Own.{own_params}
use Rattle.goal_facts.proofs.arguments.own_params.Given as goal

abbrev pub invariant-loop-number : goal.invariant-loop-number
invariant-loop-number l = l.made ≡ own_params l.number
