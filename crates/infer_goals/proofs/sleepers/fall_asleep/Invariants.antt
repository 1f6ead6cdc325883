use Rattle.std.proofs.Common.{◌+◌, ◌-◌, length}
use Rattle.infer_goals.proofs.Waking.{IsLonger}
use Rattle.infer_goals.proofs.sleepers.fall_asleep.Given as goal

abbrev pub invariant-grow : goal.invariant-grow
invariant-grow l = IsLonger l.fn.asleep.items l.at l.asleep.items

abbrev pub decreases-grow : goal.decreases-grow
decreases-grow l = l.at + 1 - length l.asleep.items
