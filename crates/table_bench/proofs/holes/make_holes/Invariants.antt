use Rattle.table_bench.specs.Words.{Grew}
use Rattle.table_bench.proofs.holes.make_holes.Given as goal

abbrev pub invariant-loop-made : goal.invariant-loop-made
invariant-loop-made l = Grew l.initial.table l.table
