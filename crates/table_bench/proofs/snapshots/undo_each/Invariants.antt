use Rattle.table_bench.specs.Words.{IsBack}
use Rattle.table_bench.proofs.snapshots.undo_each.Given as goal

abbrev pub invariant-loop-step : goal.invariant-loop-step
invariant-loop-step l = IsBack l.initial.table l.table
