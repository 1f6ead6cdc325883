use Rattle.std.proofs.Common.{◌≡◌, ◌∙◌, ap, ap₂}
use Rattle.std.proofs.lemmas.Result.{IfOk-weaker}
use Rattle.goal_facts.specs.Words.{pair, projects, term_of, rule_of}
use Rattle.goal_facts.specs.Own.{type_at, impl_holes, impl_args, impl_rule, assoc_rule}
use Rattle.goal_facts.proofs.impls.assoc_rule.Goals as goal

pub returns-clause-is : goal.returns-clause-is
returns-clause-is c =
    let raw = c.args.facts.now in
    let item = c.args.item.now in
    let x = c.args.given in
    let parts : term_of c.in_ok-join.field-0 ≡ pair (impl_args raw item c.args.trait_ref.now) (type_at raw (impl_holes item) x.ty) =
    c.in_ok-join.ensures.is ∙ ap₂ pair c.in_ok-args.ensures.is (c.in_ok-ty.ensures.is ∙ ap (λ xs. type_at raw xs x.ty) c.requires) in
    IfOk-weaker c.impl_rule.result (λ made. rule_of made ≡ impl_rule raw item (record { kind = projects x.alias; parts = term_of c.in_ok-join.field-0 })) (λ made. rule_of made ≡ assoc_rule raw item c.args.trait_ref.now x)
    (λ made is. is ∙ (λ i. impl_rule raw item (record { kind = projects x.alias; parts = parts i })))
    c.impl_rule.ensures.is
