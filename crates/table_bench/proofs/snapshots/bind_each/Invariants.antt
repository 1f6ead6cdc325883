use Rattle.table_bench.specs.Words.{Grew}
use Rattle.table_bench.proofs.snapshots.bind_each.Given as goal

abbrev pub invariant-loop-hole : goal.invariant-loop-hole
invariant-loop-hole l = Grew l.initial.table l.table
