use Rattle.hir_counts.specs.Own.{own_of, AreMosts}
use Rattle.hir_counts.proofs.standing.mosts_of.Given as goal

abbrev pub invariant-loop-ty : goal.invariant-loop-ty
invariant-loop-ty l = AreMosts (own_of l.raw l.sought) l.types l.ty-index l.mosts.items
