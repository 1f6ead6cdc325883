use Rattle.std.proofs.Common.{◌≡◌, take}
use Rattle.infer_goals.proofs.sleepers.Sleepers.lists.Given as goal

abbrev pub invariant-loop-list : goal.invariant-loop-list
invariant-loop-list l = l.copies.items ≡ take l.list-index l.self.by_hole.items
