use Rattle.std.proofs.Common.{◌++◌, ap, arith, ◌∙◌}
use Rattle.hir_raw.proofs.Aliases.{of_fields}
use Rattle.hir_raw.proofs.hidden.push_fields.Goals as goal

pub returns : goal.returns
returns c =
    c.loop-field.invariant
    ∙ ap (λ ks. c.args.found.now.items ++ ks) (of_fields c.args.types.now c.args.fields.now c.loop-field.field-index (omega (arith, c.loop-field-test.false)))
