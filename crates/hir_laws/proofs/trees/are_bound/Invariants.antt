use Rattle.std.proofs.Common.{ℕ, ◌<◌}
use Rattle.std.specs.Prelude.{IsTrue, slice_index_or}
use Rattle.hir_laws.specs.Words.hir_ids.declared.namers.Namers.TheVariants.{Nobody}
use Rattle.hir_laws.specs.Own.{is_self, is_bound}
use Rattle.hir_laws.proofs.trees.are_bound.Given as goal

abbrev pub invariant-loop-v : goal.invariant-loop-v
invariant-loop-v l = (v : ℕ) → v < l.v → IsTrue (is_bound (is_self l.body.self_ v) (slice_index_or l.binders v Nobody))
