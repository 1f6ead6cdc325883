use Rattle.table_bench.specs.Words.{Grew}
use Rattle.table_bench.proofs.pairs.unify_all.Given as goal

abbrev pub invariant-loop-first : goal.invariant-loop-first
invariant-loop-first l = Grew l.initial.table l.table
