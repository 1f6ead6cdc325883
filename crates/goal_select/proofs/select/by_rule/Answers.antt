use Rattle.std.proofs.Common.{◌≡◌, refl, sym, ap, ◌∙◌, subst, length, map}
use Rattle.std.specs.List.{range_with_len}
use Rattle.hir_types.specs.declared.head.HoleKind.TheVariants as kind
use Rattle.goal_select.specs.Words.{are_of_more, AreOf, HolesAreOf, hole_count, CanBeEqual, AreUnified, AreUnifiedIf, implements, projects, system, trait_goal, asked_goal}
use Rattle.goal_facts.specs.declared.proof.ProofSource.TheVariants as source
use Rattle.goal_facts.specs.ImplGoals.{AreGoalsOf}
use Rattle.goal_select.proofs.Words.{entry_at}
use Rattle.goal_select.specs.Own.{goal_type, with_type_holes}
use Rattle.goal_select.proofs.Known.{goal_type_of, known_of}
use Rattle.goal_select.proofs.Params.{params_length, fresh_of}
use Rattle.goal_select.proofs.RuleChoices.{rule_within, rule_for, rule_trait, params}
use Rattle.goal_select.proofs.RuleSelected.{rule_met, rule_selected}
use Rattle.goal_select.proofs.RuleProofs.{rule_loses_nothing}
use Rattle.goal_select.proofs.select.by_rule.Goals as goal

pub rule_goals-requires-clause-kind : goal.rule_goals-requires-clause-kind
rule_goals-requires-clause-kind c r at =
    rule_trait (system c.args.sources.now.sources) c.requires.chosen.0 (trait_goal c.args.goal.now) c.args.place c.requires.chosen.2 r at

pub unreachable-requires : goal.unreachable-requires
unreachable-requires c =
    let f = system c.args.sources.now.sources in
    let k = c.args.goal.now in
    let n = c.requires.chosen.0 in
    let selects = c.requires.chosen.2 in
    let r = entry_at f.rules c.args.place (rule_within f n (trait_goal k) c.args.place selects) in
    let are = c.in_ok-rule.ensures r.0 r.1 in
    let kind = (rule_for f n (trait_goal k) c.args.place selects r.0 r.1).kind in
    let clash : projects c.in_default.field-0 ≡ implements k.id = ap (λ x. x.kind) (sym (ap asked_goal c.in_default.is) ∙ are.head) ∙ kind in
    cc

pub meet-requires-clause-goal : goal.meet-requires-clause-goal
meet-requires-clause-goal c =
    let k = c.args.goal.now in
    let s = c.args.table.now in
    let g = c.requires.known in
    let kinds = s.substitution.kinds in
    let types = map (λ j. kind.Ty) (range_with_len 0 c.len.result) in
    subst (λ t. HolesAreOf t (goal_type k)) (sym c.in_ok-make_holes.ensures)
    (goal_type_of (with_type_holes s c.len.result).substitution.kinds k (are_of_more kinds types (trait_goal k).parts (known_of s g.0 k g.2 c.lawful.ensures.made g.1)))

pub meet-requires-clause-head : goal.meet-requires-clause-head
meet-requires-clause-head c =
    let raw = c.args.sources.now.facts in
    let f = system c.args.sources.now.sources in
    let k = c.args.goal.now in
    let h = c.in-Trait.head in
    let s = c.args.table.now in
    let n = c.requires.chosen.0 in
    let r = entry_at f.rules c.args.place (rule_within f n (trait_goal k) c.args.place c.requires.chosen.2) in
    let are = subst (λ m. AreGoalsOf raw m r.0 c.in_ok-rule.rule) c.hole_count.ensures (c.in_ok-rule.ensures r.0 r.1) in
    let many = params raw s r.0 c.in_ok-rule.rule are in
    let all = c.in_ok-make_holes.ensures ∙ ap (with_type_holes s) (c.len.ensures ∙ ap length are.args ∙ params_length (hole_count s) many) in
    let is = ap (λ x. x.parts) (sym (ap asked_goal c.in-Trait.is) ∙ are.head) in
    let mid = with_type_holes s many in
    subst (λ t. HolesAreOf t (goal_type h)) (sym all)
    (goal_type_of mid.substitution.kinds h (subst (AreOf mid.substitution.kinds) (sym is) (fresh_of s.substitution.kinds many r.0.head.parts are.head_holes)))

pub unreachable-requires-then-not-branch : goal.unreachable-requires-then-not-branch
unreachable-requires-then-not-branch c =
    let raw = c.args.sources.now.facts in
    let f = system c.args.sources.now.sources in
    let k = c.args.goal.now in
    let h = c.in-Trait.head in
    let s = c.args.table.now in
    let g = c.requires.known in
    let n = c.requires.chosen.0 in
    let selects = c.requires.chosen.2 in
    let r = entry_at f.rules c.args.place (rule_within f n (trait_goal k) c.args.place selects) in
    let are = subst (λ m. AreGoalsOf raw m r.0 c.in_ok-rule.rule) c.hole_count.ensures (c.in_ok-rule.ensures r.0 r.1) in
    let many = params raw s r.0 c.in_ok-rule.rule are in
    let all = c.in_ok-make_holes.ensures ∙ ap (with_type_holes s) (c.len.ensures ∙ ap length are.args ∙ params_length (hole_count s) many) in
    let refused = subst (λ b. AreUnifiedIf b c.make_holes.new.table c.meet.new.table (goal_type k) (goal_type h)) c.if-not-branch.true c.in_ok-meet.ensures in
    rule_met raw f n k c.args.place selects s c.lawful.ensures.acyclic c.lawful.ensures.made g.0 g.1 g.2 r.0 r.1 c.in_ok-rule.rule are h c.in-Trait.is
    (subst (λ t. CanBeEqual t (goal_type k) (goal_type h) → ⊥) all refused.impossible)

pub returns : goal.returns
returns c n below selects g of known =
    let raw = c.args.sources.now.facts in
    let f = system c.args.sources.now.sources in
    let k = c.args.goal.now in
    let h = c.in-Trait.head in
    let s = c.args.table.now in
    let after = c.meet.new.table in
    let r = entry_at f.rules c.args.place (rule_within f n (trait_goal k) c.args.place selects) in
    let are = subst (λ m. AreGoalsOf raw m r.0 c.in_ok-rule.rule) c.hole_count.ensures (c.in_ok-rule.ensures r.0 r.1) in
    let many = params raw s r.0 c.in_ok-rule.rule are in
    let all = c.in_ok-make_holes.ensures ∙ ap (with_type_holes s) (c.len.ensures ∙ ap length are.args ∙ params_length (hole_count s) many) in
    let united = subst (λ b. AreUnifiedIf b c.make_holes.new.table after (goal_type k) (goal_type h)) c.if-not-branch.false c.in_ok-meet.ensures in
    let met = subst (λ t. AreUnified t after (goal_type k) (goal_type h)) all united in
    rule_selected raw f n k c.args.place selects s c.lawful.ensures.acyclic c.lawful.ensures.made g of known r.0 r.1 c.in_ok-rule.rule are h c.in-Trait.is below after met
    (record { source = source.Impl c.in_ok-rule.rule.source c.in_ok-rule.rule.args; preds = c.in_ok-rule.rule.preds }) refl refl
    (rule_loses_nothing raw f n k c.args.place selects s c.lawful.ensures.acyclic c.lawful.ensures.made g of known r.0 r.1 c.in_ok-rule.rule are h c.in-Trait.is after met)
