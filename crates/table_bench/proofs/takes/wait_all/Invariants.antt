use Rattle.table_bench.specs.Words.{Grew}
use Rattle.table_bench.proofs.takes.wait_all.Given as goal

abbrev pub invariant-loop-source : goal.invariant-loop-source
invariant-loop-source l = Grew l.initial.table l.table
