use Rattle.std.proofs.Common.{length, ap, sym, ◌∙◌}
use Rattle.std.specs.Option.{option_and_then}
use Rattle.hir_raw.specs.Own.{aliases_at, aliases_in, less}
use Rattle.hir_raw.proofs.Aliases.{less_then}
use Rattle.hir_raw.proofs.hidden.less_fn_aliases.Goals as goal

pub returns-in-Some : goal.returns-in-Some
returns-in-Some c =
    let left = c.in-Some.ensures ∙ ap (λ ws. less c.args.count (length (aliases_in c.args.types.now ws))) c.as_slice.ensures in
    c.less_aliases.ensures
    ∙ (ap (option_and_then (λ m. less m (length (aliases_at c.args.types.now c.args.function.now.output.0)))) left ∙ sym (less_then c.args.types.now c.args.function.now c.args.count))

pub returns-in-None : goal.returns-in-None
returns-in-None c =
    let none = c.in-None.ensures ∙ ap (λ ws. less c.args.count (length (aliases_in c.args.types.now ws))) c.as_slice.ensures in
    ap (option_and_then (λ m. less m (length (aliases_at c.args.types.now c.args.function.now.output.0)))) none ∙ sym (less_then c.args.types.now c.args.function.now c.args.count)
