use Rattle.std.proofs.Common.{◌≡◌, ℕ, ◌+◌, ◌-◌, [], length, get_or}
use Rattle.infer_goals.proofs.sleepers.make_room.Given as goal

abbrev pub invariant-grow : goal.invariant-grow
invariant-grow l = (m : ℕ) → get_or l.lists.items m [] ≡ get_or l.fn.lists.items m []

abbrev pub decreases-grow : goal.decreases-grow
decreases-grow l = l.hole + 1 - length l.lists.items
