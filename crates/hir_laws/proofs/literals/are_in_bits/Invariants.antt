use Rattle.std.specs.Prelude.{slice_index_or}
use Rattle.hir_laws.specs.Words.hir_ids.declared.namers.Namers.TheVariants.{Nobody}
use Rattle.hir_laws.specs.Own.{ExprIsInBits}
use Rattle.hir_laws.proofs.Words.{Passed}
use Rattle.hir_laws.proofs.literals.are_in_bits.Given as goal

abbrev pub invariant-loop-e : goal.invariant-loop-e
invariant-loop-e l = Passed (λ e x. ExprIsInBits (slice_index_or l.firsts e Nobody) (slice_index_or l.lasts e Nobody) x) l.expr-items l.body.exprs l.e
