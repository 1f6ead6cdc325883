use Rattle.std.proofs.Common.{◌≡◌, ◌++◌, Some, take, map}
use Rattle.hir_ids.proofs.adt_ids.push_variants.Given as goal

abbrev pub invariant-loop-variant : goal.invariant-loop-variant
invariant-loop-variant l = l.out.items ≡ l.fn.out.items ++ map (λ v. Some v.0) (take l.variant-index l.variants)
