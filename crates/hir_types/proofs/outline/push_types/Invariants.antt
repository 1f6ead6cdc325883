use Rattle.std.proofs.Common.{◌≡◌, ◌++◌, take}
use Rattle.hir_types.specs.Own.{parts_of_types, part_terms}
use Rattle.hir_types.proofs.outline.push_types.Given as goal

abbrev pub invariant-loop-ty : goal.invariant-loop-ty
invariant-loop-ty l = part_terms l.parts.items ≡ part_terms l.initial.parts.items ++ parts_of_types (take l.ty-index l.tys)
