-- A goal that is selected by a rule.
use Rattle.std.specs.Prelude.{option_map}
use Rattle.std.proofs.Common.{◌≡◌, ◌<◌, inl, ℕ, Bool, true, false, refl, sym, ap, ap₂, ◌∙◌, subst, List, [], ◌∷◌, length, map, slice_get, Some}
use Rattle.hir_types.specs.declared.ids.GenericDefId.TheVariants as generic
use Rattle.goal_select.specs.Words.{HoleKind, map_twice, apply, RawFacts, RawImpl, count_or_none, generic_params, AreOf, are_of_more, State, hole_count, Grew, Fill, Asked, Rule, System, asked_at, is_among, OneIf, Each, RuleIsRefuted, answers, known_below, by_rule, IsConcrete, IsTraitKind, IsOnlySource, SizeIsBy, IsDeep, Selects, RuleGoals, asked_goal, fresh, holes_from, HasHolesBelow, filled_goal, args_fill}
use Rattle.goal_select.proofs.Words.{each_map}
use Rattle.goal_facts.specs.ImplGoals.{AreGoalsOf}
use Rattle.goal_select.specs.Own.{GoalIsOf, with_type_holes}
use Rattle.goal_select.proofs.Choices.{same_kind}
use Rattle.goal_select.proofs.PartChoices.{each_from_map}
use Rattle.goal_select.proofs.Params.{params_length, at_params, with_types, fresh_of}

-- ---- the rule that is chosen

-- that the rule is one of a size's is never said
abbrev IsBy : System → ℕ → Asked → ℕ → Bool → Type 0
IsBy f n g i b = OneIf b ((answers f n).Yes g × SizeIsBy f (answers f n).Alias (known_below f n) g.kind g.parts (by_rule i)) (IsDeep n × IsOnlySource f (answers f n).Alias (known_below f n) g.kind g.parts (by_rule i))

pub rule_only : (f : System) (n : ℕ) (g : Asked) (i : ℕ) → Selects f n g (by_rule i) → (is_among f.sized g.kind ≡ false) × IsOnlySource f (answers f n).Alias (known_below f n) g.kind g.parts (by_rule i)
rule_only f n g i selects = by_kind (is_among f.sized g.kind) refl selects.source
  where
    by_kind : (b : Bool) → is_among f.sized g.kind ≡ b → IsBy f n g i b → (is_among f.sized g.kind ≡ false) × IsOnlySource f (answers f n).Alias (known_below f n) g.kind g.parts (by_rule i)
    by_kind true e h = absurd h.1
    by_kind false e h = (e, h.1)

pub rule_within : (f : System) (n : ℕ) (g : Asked) (i : ℕ) → Selects f n g (by_rule i) → i < length f.rules
rule_within f n g i selects = (rule_only f n g i selects).1.2.within

-- it is of the goal's kind, concrete, and not refuted
pub record IsRuleFor (f : System) (n : ℕ) (g : Asked) (i : ℕ) (r : Rule) : Type 0 where
  pub kind : r.head.kind ≡ g.kind
  pub concrete : IsConcrete r.head.parts
  pub remains : RuleIsRefuted (answers f n).Alias (known_below f n) g.kind g.parts r → ⊥

pub rule_for : (f : System) (n : ℕ) (g : Asked) (i : ℕ) → Selects f n g (by_rule i) → (r : Rule) → slice_get f.rules i ≡ Some r → IsRuleFor f n g i r
rule_for f n g i selects r at =
    let only = (rule_only f n g i selects).1 in
    record {
      kind = same_kind g.kind r.head.kind selects.selectable.trait_ (λ other. only.2.remains r at (inl other));
      concrete = only.3 r at;
      remains = only.2.remains r at;
    }

pub rule_trait : (f : System) (n : ℕ) (g : Asked) (i : ℕ) → Selects f n g (by_rule i) → (r : Rule) → slice_get f.rules i ≡ Some r → IsTraitKind r.head.kind
rule_trait f n g i selects r at = subst IsTraitKind (sym (rule_for f n g i selects r at).kind) selects.selectable.trait_

-- ---- what it asks for

preds_at : (t : Fill) (first n : ℕ) (qs : List Asked) → Each (λ q. HasHolesBelow n q.parts) qs → map (asked_at t) (map (asked_at (fresh first)) qs) ≡ map (asked_at (args_fill t (holes_from first n))) qs
preds_at t first n [] h = refl
preds_at t first n (q ∷ qs) h =
    ap₂ (λ x xs. x ∷ xs) (λ i. record { kind = q.kind; parts = sym (at_params t first n q.parts h.0) i }) (preds_at t first n qs h.1)

fresh_preds_of : (kinds : List HoleKind) (n : ℕ) (qs : List Asked) → Each (λ q. HasHolesBelow n q.parts) qs → Each (λ q. AreOf (with_types kinds n) q.parts) (map (asked_at (fresh (length kinds))) qs)
fresh_preds_of kinds n [] h = tt
fresh_preds_of kinds n (q ∷ qs) h = (fresh_of kinds n q.parts h.0, fresh_preds_of kinds n qs h.1)

module _ (raw : RawFacts) (s : State) (r : Rule) (made : RuleGoals) (are : AreGoalsOf raw (hole_count s) r made) where
  abbrev pub params : ℕ
  params = generic_params raw (generic.ImplId made.source)

  -- one for each parameter of the impl
  pub args_counted : length made.args ≡ length are.source.0.params
  args_counted =
      ap length are.args ∙ (params_length (hole_count s) params ∙ ap (λ o. count_or_none (option_map (λ (x : RawImpl). length x.params) o)) are.source.1)

  -- as at the arguments
  pub preds_filled : (t : Fill) → map (filled_goal t) made.preds.items ≡ map (asked_at (args_fill t made.args)) r.preds
  preds_filled t =
      sym (map_twice (asked_at t) asked_goal made.preds.items) ∙ ap (map (asked_at t)) are.preds
      ∙ preds_at t (hole_count s) params r.preds are.pred_holes ∙ ap (λ xs. map (asked_at (args_fill t xs)) r.preds) (sym are.args)

  pub head_filled : (t : Fill) → apply (args_fill t made.args) r.head.parts ≡ apply t (apply (fresh (hole_count s)) r.head.parts)
  head_filled t = ap (λ xs. apply (args_fill t xs) r.head.parts) are.args ∙ at_params t (hole_count s) params r.head.parts are.head_holes

  -- what the table made it has made afterwards
  later_of : (after : State) → Grew (with_type_holes s params) after → (q : Asked) → AreOf (with_types s.substitution.kinds params) q.parts → AreOf after.substitution.kinds q.parts
  later_of after grew q h =
      let kinds = with_types s.substitution.kinds params in
      subst (λ ks. AreOf ks q.parts) (sym grew.kinds.1) (are_of_more kinds grew.kinds.0 q.parts h)

  -- the table made their holes
  pub preds_of : (after : State) → Grew (with_type_holes s params) after → Each (GoalIsOf after) made.preds.items
  preds_of after grew =
      let kinds = s.substitution.kinds in
      let P : Asked → Type 0 = λ q. AreOf after.substitution.kinds q.parts in
      let all = each_map (later_of after grew) (map (asked_at (fresh (length kinds))) r.preds) (fresh_preds_of kinds params r.preds are.pred_holes) in
      each_from_map P asked_goal made.preds.items (subst (Each P) (sym are.preds) all)
