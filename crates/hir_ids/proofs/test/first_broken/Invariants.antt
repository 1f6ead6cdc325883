use Rattle.hir_ids.proofs.Words.{Passed}
use Rattle.hir_ids.proofs.test.first_broken.Given as goal

abbrev pub invariant-loop-at : goal.invariant-loop-at
invariant-loop-at g l = Passed (g.T.Test.holds l.raw) l.items (g.T.Test.listed l.raw) l.at
