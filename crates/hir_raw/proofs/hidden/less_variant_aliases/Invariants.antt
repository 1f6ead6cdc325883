use Rattle.std.proofs.Common.{◌≡◌, length, drop}
use Rattle.hir_raw.specs.Own.{aliases_in, field_refs, less}
use Rattle.hir_raw.proofs.hidden.less_variant_aliases.Given as goal

-- what is left is for those that are left
abbrev pub invariant-loop-field : goal.invariant-loop-field
invariant-loop-field l = less l.left (length (aliases_in l.types (drop l.field-index (field_refs l.field-items)))) ≡ less l.fn.count (length (aliases_in l.types (field_refs l.field-items)))
