use Rattle.std.proofs.Common.{sym, subst}
use Rattle.std.proofs.lemmas.Result.{IfOk-weaker}
use Rattle.goal_facts.specs.Words.{Rule, IsTraitKind}
use Rattle.goal_facts.specs.Own.{trait_rule, ImplHasRule, AreGoalsOf}
use Rattle.goal_facts.proofs.RulePlaces.{trait_rule_is, trait_is_said}
use Rattle.goal_facts.proofs.impl_goals.goals_of_impl.Goals as goal

pub goals_for-requires-clause-said : goal.goals_for-requires-clause-said
goals_for-requires-clause-said c =
    let q = c.requires in
    trait_is_said c.args.facts.now c.args.source c.impl_-item.result.now c.in-Some.trait_ref q.0 c.impl_-item.ensures c.in-Some.is q.1 q.2

pub returns : goal.returns
returns c =
    let raw = c.args.facts.now in
    let id = c.args.source in
    let item = c.impl_-item.result.now in
    IfOk-weaker c.goals_for.result
    (λ made. AreGoalsOf raw c.args.first (trait_rule raw item c.in-Some.trait_ref) made)
    (λ made. (r : Rule) → ImplHasRule raw id r → IsTraitKind r.head.kind → AreGoalsOf raw c.args.first r made)
    (λ made h r has kind. subst (λ x. AreGoalsOf raw c.args.first x made) (sym (trait_rule_is raw id item c.in-Some.trait_ref r c.impl_-item.ensures c.in-Some.is has kind)) h)
    c.goals_for.ensures
