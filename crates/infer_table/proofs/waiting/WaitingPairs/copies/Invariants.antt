use Rattle.std.proofs.Common.{◌≡◌, take}
use Rattle.infer_table.specs.Own.{left_from}
use Rattle.infer_table.proofs.waiting.WaitingPairs.copies.Given as goal

abbrev pub invariant-loop-entry : goal.invariant-loop-entry
invariant-loop-entry l = l.pairs.items ≡ left_from l.self.taken 0 (take l.entry-index l.self.made)
