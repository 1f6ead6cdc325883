use Rattle.std.proofs.Common.{◌≡◌, take}
use Rattle.std.specs.Prelude.{slice_get, flat_map}
use Rattle.hir_plain.specs.Own.{field_ids}
use Rattle.hir_plain.proofs.plain.children_of_adt.Given as goal

abbrev pub invariant-loop-variant : goal.invariant-loop-variant
invariant-loop-variant l = l.out.items ≡ flat_map (λ v. field_ids (slice_get l.variants v.0)) (take l.variant-index l.variant-items)
