use Rattle.std.proofs.Common.{length, option_map, ap, ◌∙◌}
use Rattle.hir_raw.specs.Own.{RawAdt, has_params, variant_arity, variant_aliases, less}
use Rattle.hir_raw.proofs.Aliases.{counted_less}
use Rattle.hir_raw.proofs.scope.ctor_has_params.Goals as goal

pub returns-in-Some : goal.returns-in-Some
returns-in-Some c =
    let types = c.args.raw.now.types in
    let x = c.args.variant.now in
    let a = c.in-Some.adt.now in
    let left = c.less_variant_aliases-left.ensures ∙ ap (λ l. less c.args.count (length (variant_aliases l x))) c.as_slice.ensures in
    c.has_params.ensures
    ∙ ((λ i. has_params (left i) (c.len.ensures i))
    ∙ (counted_less c.args.count (length (variant_aliases types x)) (length a.params)
    ∙ ap (λ o. has_params (option_map (variant_arity types x) (option_map (λ (b : RawAdt). length b.params) o)) c.args.count) c.in-Some.ensures.value))
