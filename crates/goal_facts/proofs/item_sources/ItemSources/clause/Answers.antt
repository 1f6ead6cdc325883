use Rattle.std.proofs.Common.{◌≡◌, sym, ap, ◌∙◌, subst, slice_get, Some}
use Rattle.goal_facts.specs.Words.{rule_of, rules_of, system}
use Rattle.goal_facts.proofs.Typed.{clause_goal, entry_is}
use Rattle.goal_facts.proofs.item_sources.ItemSources.clause.Goals as goal

pub returns : goal.returns
returns c = λ r at.
    let inside = c.self.inside in
    let clauses = inside.sources.clauses.items in
    let rule = c.index-as_slice-place.result in
    let there : slice_get (rules_of clauses) c.args.place ≡ Some r = subst (λ q. slice_get (system q.sources).clauses c.args.place ≡ Some r) (sym c.self.view_is) at in
    let same : rule_of rule ≡ r = entry_is rule_of clauses c.args.place rule r (rw c.as_slice.ensures.value at c.index-as_slice-place.is) there in
    let asked = clause_goal inside.facts.now inside.item (rules_of clauses) c.self.invariant.0.clauses c.args.place r there in
    c.in_ok-goal.ensures asked.0 (asked.1 ∙ sym (ap (λ x. x.head) same)) ∙ ap (λ x. x.head) same
