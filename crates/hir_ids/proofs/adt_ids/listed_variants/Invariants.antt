use Rattle.std.proofs.Common.{◌≡◌, take}
use Rattle.hir_ids.specs.Words.{listed_variants}
use Rattle.hir_ids.proofs.adt_ids.listed_variants.Given as goal

abbrev pub invariant-loop-adt : goal.invariant-loop-adt
invariant-loop-adt l = l.out.items ≡ listed_variants (take l.adt-index l.adts)
