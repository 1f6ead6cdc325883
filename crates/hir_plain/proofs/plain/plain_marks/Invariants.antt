use Rattle.hir_plain.proofs.FnMarks.{FnsMarked}
use Rattle.hir_plain.proofs.plain.plain_marks.Given as goal

abbrev pub invariant-loop-at : goal.invariant-loop-at
invariant-loop-at l = FnsMarked l.raw l.at l.fns
