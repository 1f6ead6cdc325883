use Rattle.std.proofs.Common.{◌≡◌, ◌++◌, take}
use Rattle.std.specs.Prelude.{flat_map}
use Rattle.hir_raw.specs.Own.{aliases_at}
use Rattle.hir_raw.proofs.hidden.push_fields.Given as goal

abbrev pub invariant-loop-field : goal.invariant-loop-field
invariant-loop-field l = l.found.items ≡ l.fn.found.items ++ flat_map (λ f. aliases_at l.types f.type_.0) (take l.field-index l.fields)
