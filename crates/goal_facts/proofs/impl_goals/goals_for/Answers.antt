use Rattle.std.proofs.Common.{◌≡◌, Some, slice_get, sym, ◌∙◌, ap, subst, map}
use Rattle.std.proofs.lemmas.Result.{IfOk-weaker}
use Rattle.goal_facts.specs.Words.{ImplId}
use Rattle.goal_facts.specs.Own.{goal_at, trait_rule, holes_from, head_at, AreGoalsOf, AreGoalsAt}
use Rattle.goal_facts.proofs.FreshGoals.{are_goals}
use Rattle.goal_facts.proofs.impl_goals.goals_for.Goals as goal

pub returns : goal.returns
returns c =
    let raw = c.args.facts.now in
    let p = c.args.item.now in
    let r = c.args.trait_ref.now in
    IfOk-weaker c.impl_goals_at.result (AreGoalsAt raw c.args.source c.in_ok-args.args p r) (AreGoalsOf raw c.args.first (trait_rule raw p r))
    (λ made h. are_goals raw c.args.first p r made
    (subst (λ (id : ImplId). slice_get raw.impls id.0 ≡ Some p) (sym h.source) c.requires.item)
    c.requires.said
    (h.args ∙ c.in_ok-args.ensures ∙ ap (holes_from c.args.first) c.len.ensures)
    (h.head ∙ ap (λ xs. head_at raw xs p r) (sym h.args))
    (h.preds ∙ ap (λ xs. map (goal_at raw xs) p.preds) (sym h.args)))
    c.impl_goals_at.ensures
