use Rattle.std.proofs.Common.{◌+◌, length, drop, ap, sym, ◌∙◌}
use Rattle.std.specs.Option.{option_and_then}
use Rattle.hir_raw.specs.Own.{aliases_in, field_refs, less}
use Rattle.hir_raw.proofs.Aliases.{less_field}
use Rattle.hir_raw.proofs.hidden.less_variant_aliases.Goals as goal

pub returns-in-None : goal.returns-in-None
returns-in-None c =
    let types = c.args.types.now in
    let fields = c.as_slice-field-items.result.now in
    ap (option_and_then (λ m. less m (length (aliases_in types (drop (c.loop-field.field-index + 1) (field_refs fields)))))) c.in-None.ensures
    ∙ (sym (less_field types fields c.loop-field.field-index c.field-item.result c.loop-field.left c.loop-field-test.true c.field-item.is)
    ∙ (c.loop-field.invariant ∙ ap (λ fs. less c.args.count (length (aliases_in types (field_refs fs)))) c.as_slice-field-items.ensures))

pub loop-field-preserved : goal.loop-field-preserved
loop-field-preserved c =
    let types = c.args.types.now in
    let fields = c.as_slice-field-items.result.now in
    ap (option_and_then (λ m. less m (length (aliases_in types (drop (c.loop-field.field-index + 1) (field_refs fields)))))) c.in-Some.ensures
    ∙ (sym (less_field types fields c.loop-field.field-index c.field-item.result c.loop-field.left c.loop-field-test.true c.field-item.is) ∙ c.loop-field.invariant)
