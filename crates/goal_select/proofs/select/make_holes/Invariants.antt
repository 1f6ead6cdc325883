use Rattle.std.proofs.Common.{◌≡◌}
use Rattle.goal_select.specs.Own.{with_type_holes}
use Rattle.goal_select.proofs.select.make_holes.Given as goal

abbrev pub invariant-loop : goal.invariant-loop
invariant-loop l = l.table ≡ with_type_holes l.fn.table l.counter
