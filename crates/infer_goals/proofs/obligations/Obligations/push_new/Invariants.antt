use Rattle.std.proofs.Common.{◌≡◌, ◌++◌, ◌-◌}
use Rattle.std.specs.List.{range_with_len}
use Rattle.infer_goals.proofs.obligations.Obligations.push_new.Given as goal

abbrev pub invariant-loop-number : goal.invariant-loop-number
invariant-loop-number l = l.below.items ≡ l.initial.below.items ++ range_with_len l.first (l.number - l.first)
