use Rattle.table_bench.specs.Words.{Grew}
use Rattle.table_bench.proofs.chain.link.Given as goal

abbrev pub invariant-loop-next : goal.invariant-loop-next
invariant-loop-next l = Grew l.initial.table l.table
