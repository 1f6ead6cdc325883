use Rattle.std.proofs.Common.{◌≡◌, take}
use Rattle.infer_goals.proofs.table.GoalTable.uses.Given as goal

abbrev pub invariant-loop-entry : goal.invariant-loop-entry
invariant-loop-entry l = l.uses.items ≡ take l.entry-index l.entry-items
