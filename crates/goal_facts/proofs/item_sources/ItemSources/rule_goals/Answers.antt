use Rattle.std.proofs.Common.{◌≡◌, sym, subst}
use Rattle.std.specs.Prelude.{slice_get, Some}
use Rattle.std.proofs.lemmas.Result.{IfOk-weaker}
use Rattle.goal_facts.specs.Words.{Rule, IsTraitKind, system}
use Rattle.goal_facts.specs.Own.{ImplHasRule, ComesFrom, AreGoalsOf}
use Rattle.goal_facts.proofs.Following.{entry_at}
use Rattle.goal_facts.proofs.RulePlaces.{not_bound}
use Rattle.goal_facts.proofs.item_sources.ItemSources.rule_goals.Goals as goal

pub unreachable-requires : goal.unreachable-requires
unreachable-requires c =
    let raw = c.args.self.now.facts in
    let entry = entry_at (system c.args.self.now.sources).rules c.args.place c.requires.within in
    not_bound raw entry.0 (subst (ComesFrom raw entry.0) c.in_default.is (c.in_ok-source.ensures entry.0 entry.1)) (c.requires.kind entry.0 entry.1) (c.requires.concrete entry.0 entry.1)

pub goals_of_impl-requires : goal.goals_of_impl-requires
goals_of_impl-requires c =
    let raw = c.args.self.now.facts in
    let entry = entry_at (system c.args.self.now.sources).rules c.args.place c.requires.within in
    let has : ImplHasRule raw c.in-Some.source entry.0 = subst (ComesFrom raw entry.0) c.in-Some.is (c.in_ok-source.ensures entry.0 entry.1) in
    (entry.0, subst (λ x. ImplHasRule x c.in-Some.source entry.0) (sym c.facts.ensures) has, c.requires.kind entry.0 entry.1)

pub returns : goal.returns
returns c =
    let raw = c.args.self.now.facts in
    let rs = (system c.args.self.now.sources).rules in
    IfOk-weaker c.goals_of_impl.result
    (λ made. (r : Rule) → ImplHasRule raw c.in-Some.source r → IsTraitKind r.head.kind → AreGoalsOf raw c.args.first r made)
    (λ made. (r : Rule) → slice_get rs c.args.place ≡ Some r → AreGoalsOf raw c.args.first r made)
    (λ made h r at. h r (subst (ComesFrom raw r) c.in-Some.is (c.in_ok-source.ensures r at)) (c.requires.kind r at))
    (rw c.facts.ensures at c.goals_of_impl.ensures)
