use Rattle.std.proofs.Common.{◌≡◌, ◌++◌, take}
use Rattle.hir_types.specs.Own.{auto_parts, part_terms}
use Rattle.hir_types.proofs.outline.push_autos.Given as goal

abbrev pub invariant-loop-auto_trait : goal.invariant-loop-auto_trait
invariant-loop-auto_trait l = part_terms l.parts.items ≡ part_terms l.initial.parts.items ++ auto_parts (take l.auto_trait-index l.auto_traits)
