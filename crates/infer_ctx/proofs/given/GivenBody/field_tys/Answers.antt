use Rattle.std.proofs.Common.{◌≡◌, ◌∙◌, Some, sym, subst, map}
use Rattle.std.proofs.lemmas.List.{take_all}
use Rattle.infer_ctx.specs.Words.{RawVariant, opened, variant_aliases, variant_types}
use Rattle.infer_ctx.specs.Own.{field_at}
use Rattle.infer_ctx.proofs.given.GivenBody.field_tys.Goals as goal

pub returns : goal.returns
returns c x at =
    let types = c.args.self.now.facts.now.types in
    let item = c.variant-item.result.now in
    let xs = c.args.args.now in
    let same : item ≡ x = (let both : Some item ≡ Some x = sym c.variant-item.ensures ∙ at in cc) in
    let aliases = c.in_ok-aliases.ensures ∙ (λ i. variant_aliases (c.types.ensures i) item) in
    let all = take_all c.loop-field.field-index c.as_slice-field-items.result.now c.loop-field-test.false in
    subst (λ (y : RawVariant). c.loop-field.tys ≡ map (field_at (variant_types types c.args.params y) xs) y.fields) same
    (c.loop-field.invariant ∙ (λ i. map (field_at (opened c.args.params (aliases i) types) xs) ((all ∙ c.as_slice-field-items.ensures) i)))
