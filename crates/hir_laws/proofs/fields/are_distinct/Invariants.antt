use Rattle.hir_laws.specs.Own.{IsNew}
use Rattle.hir_laws.proofs.Words.{Passed}
use Rattle.hir_laws.proofs.fields.are_distinct.Given as goal

abbrev pub invariant-loop-at : goal.invariant-loop-at
invariant-loop-at l = Passed (IsNew l.fields) l.fields l.fields l.at
