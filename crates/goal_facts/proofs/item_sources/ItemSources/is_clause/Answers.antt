use Rattle.std.proofs.Common.{◌≡◌, ◌↔◌, IsTrue, subst}
use Rattle.goal_facts.specs.Words.{Rule, SomeOf, asked_of, rules_of, system}
use Rattle.goal_facts.specs.Own.{asked_goal}
use Rattle.goal_facts.proofs.item_sources.ItemSources.is_clause.Goals as goal

pub returns : goal.returns
returns c =
    let found = c.is_head_of.result in
    let wanted = asked_goal c.args.goal.now in
    let clauses = c.self.inside.sources.clauses.items in
    subst (λ q. IsTrue found ↔ SomeOf (λ (r : Rule). r.head ≡ wanted) (system q.sources).clauses) c.self.view_is
    (subst (λ g. IsTrue found ↔ SomeOf (λ (r : Rule). r.head ≡ g) (rules_of clauses)) c.in_ok-goal.ensures.is
    (subst (λ xs. IsTrue found ↔ SomeOf (λ (r : Rule). r.head ≡ asked_of c.in_ok-goal.goal) (rules_of xs)) c.as_slice.ensures.value c.is_head_of.ensures))
