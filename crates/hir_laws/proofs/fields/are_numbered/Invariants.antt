use Rattle.std.proofs.Common.{◌≡◌}
use Rattle.std.specs.Fmt.{decimal}
use Rattle.hir_laws.proofs.Words.{Passed}
use Rattle.hir_laws.proofs.fields.are_numbered.Given as goal

abbrev pub invariant-loop-at : goal.invariant-loop-at
invariant-loop-at l = Passed (λ i f. f.name ≡ decimal i) l.fields l.fields l.at
