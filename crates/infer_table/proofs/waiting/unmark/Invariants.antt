use Rattle.std.proofs.Common.{◌≡◌, take}
use Rattle.infer_table.specs.Own.{AreMarked, pairs_of}
use Rattle.infer_table.proofs.waiting.unmark.Given as goal

abbrev pub invariant-loop-taken : goal.invariant-loop-taken
invariant-loop-taken l =
    record { marked : AreMarked l.entries l.taken.items; pairs : pairs_of l.entries ≡ pairs_of l.fn.entries; trail : take l.keep l.taken.items ≡ take l.keep l.fn.taken.items }

abbrev pub decreases-loop-taken : goal.decreases-loop-taken
decreases-loop-taken l = l.taken.len
