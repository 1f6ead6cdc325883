use Rattle.std.proofs.Common.{◌≡◌, sym, ap, ◌∙◌, subst}
use Rattle.goal_select.specs.Words.{implements, projects, asked_goal, AreUnifiedIf, system}
use Rattle.goal_facts.specs.declared.proof.ProofSource.TheVariants as source
use Rattle.goal_select.specs.Own.{goal_type}
use Rattle.goal_select.proofs.Known.{goal_type_of, known_of, known_stays}
use Rattle.goal_select.proofs.ClauseChoices.{found, clause_is, head_none, clause_met, clause_selected}
use Rattle.goal_select.proofs.select.by_clause.Goals as goal

pub unreachable-requires : goal.unreachable-requires
unreachable-requires c =
    let raw = c.args.sources.now.facts in
    let f = system c.args.sources.now.sources in
    let n = c.requires.chosen.0 in
    let selects = c.requires.chosen.2 in
    let is = clause_is raw c.args.sources.now.item f c.lawful.ensures.clauses n c.args.goal.now c.args.place selects c.in_ok-clause.clause c.in_ok-clause.ensures in
    let kind = (found raw c.args.sources.now.item f c.lawful.ensures.clauses n c.args.goal.now c.args.place selects).kind in
    let clash : projects c.in_default.field-0 ≡ implements c.args.goal.now.id = ap (λ x. x.kind) (sym (ap asked_goal c.in_default.is) ∙ is) ∙ kind in
    cc

pub meet-requires-clause-goal : goal.meet-requires-clause-goal
meet-requires-clause-goal c =
    let k = c.args.goal.now in
    let s = c.args.table.now in
    let g = c.requires.known in
    goal_type_of s.substitution.kinds k (known_of s g.0 k g.2 c.lawful-2.ensures.made g.1)

pub meet-requires-clause-head : goal.meet-requires-clause-head
meet-requires-clause-head c =
    let raw = c.args.sources.now.facts in
    let f = system c.args.sources.now.sources in
    let n = c.requires.chosen.0 in
    let selects = c.requires.chosen.2 in
    let h = c.in-Trait.head in
    let is = sym (ap asked_goal c.in-Trait.is) ∙ clause_is raw c.args.sources.now.item f c.lawful.ensures.clauses n c.args.goal.now c.args.place selects c.in_ok-clause.clause c.in_ok-clause.ensures in
    let none = head_none raw c.args.sources.now.item f c.lawful.ensures.clauses n c.args.goal.now c.args.place selects h is in
    goal_type_of c.args.table.now.substitution.kinds h (λ j o. absurd (none j o))

pub unreachable-requires-then-not-branch : goal.unreachable-requires-then-not-branch
unreachable-requires-then-not-branch c =
    let raw = c.args.sources.now.facts in
    let f = system c.args.sources.now.sources in
    let n = c.requires.chosen.0 in
    let selects = c.requires.chosen.2 in
    let k = c.args.goal.now in
    let h = c.in-Trait.head in
    let s = c.args.table.now in
    let g = c.requires.known in
    let acyclic = c.lawful-2.ensures.acyclic in
    let is = sym (ap asked_goal c.in-Trait.is) ∙ clause_is raw c.args.sources.now.item f c.lawful.ensures.clauses n k c.args.place selects c.in_ok-clause.clause c.in_ok-clause.ensures in
    let refused = subst (λ b. AreUnifiedIf b s c.meet.new.table (goal_type k) (goal_type h)) c.if-not-branch.true c.in_ok-meet.ensures in
    clause_met raw c.args.sources.now.item f c.lawful.ensures.clauses n k c.args.place selects h is s acyclic (known_stays s g.0 k g.2 acyclic) refused.impossible

pub returns : goal.returns
returns c n below selects g of known =
    let raw = c.args.sources.now.facts in
    let f = system c.args.sources.now.sources in
    let k = c.args.goal.now in
    let h = c.in-Trait.head in
    let s = c.args.table.now in
    let acyclic = c.lawful-2.ensures.acyclic in
    let is = sym (ap asked_goal c.in-Trait.is) ∙ clause_is raw c.args.sources.now.item f c.lawful.ensures.clauses n k c.args.place selects c.in_ok-clause.clause c.in_ok-clause.ensures in
    let met = subst (λ b. AreUnifiedIf b s c.meet.new.table (goal_type k) (goal_type h)) c.if-not-branch.false c.in_ok-meet.ensures in
    clause_selected raw c.args.sources.now.item f c.lawful.ensures.clauses n k c.args.place selects h is below s c.meet.new.table acyclic met g known
    (record { source = source.Clause c.in_ok-clause.clause; preds = c.new.result })
    (ap source.Clause c.in-Trait.is) c.new.ensures.items
