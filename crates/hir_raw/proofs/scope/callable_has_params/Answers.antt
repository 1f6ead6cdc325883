use Rattle.std.proofs.Common.{length, option_map, ap, sym, ◌∙◌}
use Rattle.hir_raw.specs.Own.{callable_params, has_params, fn_arity, fn_aliases, less}
use Rattle.hir_raw.proofs.Aliases.{counted_less}
use Rattle.hir_raw.proofs.scope.callable_has_params.Goals as goal

pub returns-in-Some : goal.returns-in-Some
returns-in-Some c =
    let types = c.args.raw.now.types in
    let f = c.in-Some.function.now in
    let left = c.less_fn_aliases-left.ensures ∙ ap (λ l. less c.args.count (length (fn_aliases l f))) c.as_slice.ensures in
    c.has_params.ensures
    ∙ ((λ i. has_params (left i) (c.len.ensures i))
    ∙ (counted_less c.args.count (length (fn_aliases types f)) (length f.params)
    ∙ (ap (λ o. has_params (option_map (fn_arity types) o) c.args.count) c.in-Some.ensures.value ∙ ap (λ id. has_params (callable_params c.args.raw.now id) c.args.count) (sym c.in-FunctionId.is))))
