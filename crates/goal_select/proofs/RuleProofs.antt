-- The proofs that a goal has where a rule selects it.
use Rattle.std.proofs.Common.{◌≡◌, inl, inr, ℕ, zero, suc, true, sym, ap, ◌∙◌, subst, List, [], ◌∷◌, map, slice_get, Option, Some, None, true≢false}
use Rattle.std.proofs.lemmas.Bool.{or_cases, or_left, or_right}
use Rattle.std.proofs.lemmas.Option.{same_Some}
use Rattle.goal_select.specs.Words.{TypeAliasId, Hole, Goal, TraitRef, Term, apply, occurs, RawFacts, RawGoal, RawImpl, RawTraitRef, AllOf, Triangular, State, bindings, hole_count, Meets, AreUnified, Fill, IsRead, IsFilling, Aliases, Asked, Rule, System, asked_at, Each, IsOne, HasProof, Says, by_rule, Selects, HasHeads, concrete_read, concrete_reads, RuleGoals, goal_at, impl_holes, trait_rule, assoc_rule, rules_for, said_trait, trait_goal, asked_goal, fresh, HasHolesBelow, filled_goal}
use Rattle.hir_types.specs.declared.goal.Goal.TheVariants as goal
use Rattle.goal_select.specs.Words.goal_answers.Proofs.{IsSource}
use Rattle.goal_select.proofs.Words.{read_filled, read_reads, AliasIsRead, selected_is_the_source, get_in_map}
use Rattle.goal_facts.specs.ImplGoals.{AreGoalsOf}
use Rattle.goal_select.specs.Own.{known_goal, goal_type, GoalIsOf, with_type_holes, IsTableOf, SameBelow, LosesNothing}
use Rattle.goal_select.proofs.Known.{log, known_of, known_stays, known_filled}
use Rattle.goal_select.proofs.TypeHeads.{goal_heads}
use Rattle.goal_select.proofs.ReadFills.{IsReadAt, read_of_read, read_of_reads, IsReadBy, proof_by, same_by, some_has, read_fill, fill_read, fill_reads}
use Rattle.goal_select.proofs.Fills.{joined, joined_below, joined_fresh, joined_filling}
use Rattle.goal_select.proofs.PartChoices.{each_from_map}
use Rattle.goal_select.proofs.RuleSteps.{rule_unites}
use Rattle.goal_select.proofs.RuleChoices.{IsRuleFor, rule_only, rule_for, params}

-- ---- the predicates of an impl's rules are written

abbrev HaveHeads : List Asked → Type 0
HaveHeads = Each (λ q. HasHeads q.parts)

written_heads : (raw : RawFacts) (p : RawImpl) (gs : List RawGoal) → HaveHeads (map (goal_at raw (impl_holes p)) gs)
written_heads raw p [] = tt
written_heads raw p (g ∷ gs) = (goal_heads raw (impl_holes p) g, written_heads raw p gs)

rules_heads : (raw : RawFacts) (p : RawImpl) (o : Option RawTraitRef) (i : ℕ) (r : Rule) → slice_get (rules_for raw p o) i ≡ Some r → HaveHeads r.preds
rules_heads raw p None i r e = cc
rules_heads raw p (Some t) zero r e = subst (λ x. HaveHeads x.preds) (same_Some (trait_rule raw p t) r e) (written_heads raw p p.preds)
rules_heads raw p (Some t) (suc i) r e =
    let q = get_in_map (assoc_rule raw p t) p.types i r e in
    subst (λ x. HaveHeads x.preds) q.2 (written_heads raw p p.preds)

-- ---- what stands for the holes

module _ (f : System) (P : Aliases) (one : IsOne P) (reads : AliasIsRead P) (at : Fill) (height : ℕ) where
  abbrev Proved : Asked → Type 0
  Proved = HasProof f P height

  proved_reads : (m : ℕ) (q : Asked) → HasHeads q.parts → HasProof f P m (asked_at at q) → (k : Hole) → occurs k q.parts ≡ true → IsReadAt P at k
  proved_reads zero q h proof k o = absurd proof
  proved_reads (suc m) q h proof k o = read_of_reads P one reads at q.parts proof.0 h proof.1 k o

  preds_read : (qs : List Asked) → HaveHeads qs → Each (λ q. Proved (asked_at at q)) qs → (k : Hole) → some_has (map (λ q. q.parts) qs) k ≡ true → IsReadAt P at k
  preds_read [] h proofs k o = absurd (true≢false (sym o))
  preds_read (q ∷ qs) h proofs k o = elim (or_cases (occurs k q.parts) (some_has (map (λ q. q.parts) qs) k) o) [
    | inl e ↦ proved_reads height q h.0 proofs.0 k e
    | inr e ↦ preds_read qs h.1 proofs.1 k e
  ]

  preds_by : (v : Fill) (qs : List Asked) → HaveHeads qs → ((k : Hole) → some_has (map (λ q. q.parts) qs) k ≡ true → IsReadBy P one reads at v k) → Each (λ q. Proved (asked_at at q)) qs → Each (λ q. Proved (asked_at v q)) qs
  preds_by v [] h is proofs = tt
  preds_by v (q ∷ qs) h is proofs = (
    proof_by P one reads at v f height q h.0 (λ k o. is k (or_left (occurs k q.parts) (some_has (map (λ q. q.parts) qs) k) o)) proofs.0,
    preds_by v qs h.1 (λ k o. is k (or_right (occurs k q.parts) (some_has (map (λ q. q.parts) qs) k) o)) proofs.1,
  )

  module _ (r : Rule) (read : IsRead (apply at r.head.parts)) (heads : HaveHeads r.preds) (proofs : Each (λ q. Proved (asked_at at q)) r.preds) where
    abbrev pub terms : List Term
    terms = r.head.parts ∷ map (λ q. q.parts) r.preds

    pub hole_read : (k : Hole) → some_has terms k ≡ true → IsReadAt P at k
    hole_read k o = elim (or_cases (occurs k r.head.parts) (some_has (map (λ q. q.parts) r.preds) k) o) [
      | inl e ↦ let here = read_of_read at r.head.parts read k e in record { term = at k; reads = read_reads P (at k) here; read = here }
      | inr e ↦ preds_read r.preds heads proofs k e
    ]

    abbrev pub rule_fill : Fill
    rule_fill = read_fill P at terms hole_read

    pub rule_fill_read : (k : Hole) → IsRead (rule_fill k)
    rule_fill_read = fill_read P at terms hole_read

    is_by : (k : Hole) → some_has terms k ≡ true → IsReadBy P one reads at rule_fill k
    is_by k o = (fill_reads P at terms hole_read k o, rule_fill_read k)

    pub rule_fill_head : apply rule_fill r.head.parts ≡ apply at r.head.parts
    rule_fill_head = same_by P one reads at rule_fill r.head.parts read (λ k o. is_by k (or_left (occurs k r.head.parts) (some_has (map (λ q. q.parts) r.preds) k) o))

    pub rule_fill_preds : Each (λ q. Proved (asked_at rule_fill q)) r.preds
    rule_fill_preds = preds_by rule_fill r.preds heads (λ k o. is_by k (or_right (occurs k r.head.parts) (some_has (map (λ q. q.parts) r.preds) k) o)) proofs

-- ---- nothing is lost

fresh_preds : (Proved : Asked → Type 0) (n m : ℕ) (s v : Fill) (qs : List Asked) → Each (λ q. HasHolesBelow m q.parts) qs → Each (λ q. Proved (asked_at v q)) qs → Each (λ q. Proved (asked_at (joined n s v) q)) (map (asked_at (fresh n)) qs)
fresh_preds Proved n m s v [] holes h = tt
fresh_preds Proved n m s v (q ∷ qs) holes h = (
  subst Proved (λ i. record { kind = q.kind; parts = sym (joined_fresh n m s v q.parts holes.0) i }) h.0,
  fresh_preds Proved n m s v qs holes.1 h.1,
)

module _ (raw : RawFacts) (f : System) (n : ℕ) (k : TraitRef) (i : ℕ) (selects : Selects f n (trait_goal k) (by_rule i)) (before : State) (acyclic : Triangular (log before)) (made_holes : AllOf before.substitution.kinds (bindings before))
    (g : Goal) (of : GoalIsOf before g) (known : known_goal before g ≡ goal.Trait k) (r : Rule) (at : slice_get f.rules i ≡ Some r) (goals : RuleGoals) (are : AreGoalsOf raw (hole_count before) r goals) (h : TraitRef) (head : goals.head ≡ goal.Trait h)
    (after : State) (met : AreUnified (with_type_holes before (params raw before r goals are)) after (goal_type k) (goal_type h)) where
  rule : IsRuleFor f n (trait_goal k) i r
  rule = rule_for f n (trait_goal k) i selects r at

  is : trait_goal h ≡ asked_at (fresh (hole_count before)) r.head
  is = ap asked_goal (sym head) ∙ are.head

  heads : HaveHeads r.preds
  heads = rules_heads raw are.source.0 (said_trait raw are.source.0.trait_) are.source.2.0 r are.source.2.1

  module _ (table : TypeAliasId → Term → Option Term) (of_table : IsTableOf f n table) (s : Fill) (filling : IsFilling s) (meets : Meets s before) (height : ℕ) (proof : HasProof f (Says table) (suc height) (filled_goal s g)) where
    abbrev P : Aliases
    P = Says table

    one : IsOne P
    one k w u u' a b = same_Some u u' (sym a ∙ b)

    from : IsSource P (HasProof f P height) (trait_goal k).kind (apply s (trait_goal k).parts) r
    from =
        let here = subst (HasProof f P (suc height)) (known_filled before g k known s meets) proof in
        let through = selected_is_the_source f n table of_table.agrees (trait_goal k) (by_rule i) selects (rule_only f n (trait_goal k) i selects).0 s filling height here in
        subst (IsSource P (HasProof f P height) (trait_goal k).kind (apply s (trait_goal k).parts)) (same_Some through.0 r (sym through.1 ∙ at)) through.2

    head_is : apply s (trait_goal k).parts ≡ apply from.at r.head.parts
    head_is = concrete_reads P from.at r.head.parts (apply s (trait_goal k).parts) rule.concrete from.head

    head_read : IsRead (apply from.at r.head.parts)
    head_read = subst IsRead head_is (read_filled s filling (trait_goal k).parts (concrete_read (trait_goal k).parts selects.selectable.concrete))

    abbrev v : Fill
    v = rule_fill f P one of_table.read from.at height r head_read heads from.preds

    pub lost_nothing : (t : Fill) × IsFilling t × SameBelow (hole_count before) s t × Meets t after × Each (λ q. HasProof f P height (filled_goal t q)) goals.preds.items
    lost_nothing =
        let first = hole_count before in
        let t = joined first s v in
        let proofs = fresh_preds (HasProof f P height) first (params raw before r goals are) s v r.preds are.pred_holes (rule_fill_preds f P one of_table.read from.at height r head_read heads from.preds) in (
          t,
          joined_filling first s v filling (rule_fill_read f P one of_table.read from.at height r head_read heads from.preds),
          joined_below first s v,
          rule_unites before acyclic made_holes k (known_stays before g k known acyclic) (known_of before g k known made_holes of) selects.selectable.concrete (params raw before r goals are) r.head.parts rule.concrete are.head_holes h (ap (λ x. x.parts) is) after met s v meets
              (head_is ∙ sym (rule_fill_head f P one of_table.read from.at height r head_read heads from.preds)),
          each_from_map (λ q. HasProof f P height (asked_at t q)) asked_goal goals.preds.items (subst (Each (λ q. HasProof f P height (asked_at t q))) (sym are.preds) proofs),
        )

  pub rule_loses_nothing : LosesNothing f n before after g goals.preds.items
  rule_loses_nothing table of_table s filling meets height proof = lost_nothing table of_table s filling meets height proof
