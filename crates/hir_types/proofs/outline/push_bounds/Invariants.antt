use Rattle.std.proofs.Common.{◌≡◌, ◌++◌, take}
use Rattle.std.specs.List.{flat_map}
use Rattle.hir_types.specs.Own.{bound_parts, part_terms}
use Rattle.hir_types.proofs.outline.push_bounds.Given as goal

abbrev pub invariant-loop-bound : goal.invariant-loop-bound
invariant-loop-bound l = part_terms l.parts.items ≡ part_terms l.initial.parts.items ++ flat_map bound_parts (take l.bound-index l.bounds)
