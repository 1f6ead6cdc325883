-- The alternatives of a node, one of which gives it its value, and their common type.
use Rattle.std.proofs.Common.{inl, inr, List, [], ◌∷◌, Option, Some, None, refl, ◌++◌, ℕ, ◌<◌, ◌≡◌, length, sym, ◌∙◌, subst, ◌⊎◌, Bool, true, false, ap}
use Rattle.std.proofs.lemmas.Option.{slice_get_within}
use Rattle.infer_branches.specs.Words.{ExprId, Ty, erased, Role, then_branch, else_branch, arm, inner, RawBody, IsCarriedType, same_carried, Schedule, InferenceResult, Given, IsAt, StandsAt, IsBefore, AsksOfAlternative, AsksOf, Demand, HasMismatch, AnyMismatch, HasTy, mismatch, IsOfBody, TypeMismatch, IsMisfit, Extends, IsCarriedTable, Walks, Owed, OwedByAlternatives, expr_end, PaidBy, IsCarriedExpectation, Found, with_mismatch, OwnWalked, CoerceMany, common_of, MergesInto, CompletesAs, IsCoercedIf}
use Rattle.hir_types.specs.declared.ids.ExprOrPatId.TheVariants as node
use Rattle.infer_branches.proofs.Words.{is_at_kept, any_kept, walks_paid, noted_extends, noted_walks, noted_has}
use Rattle.infer_branches.specs.Words.infer_coerce.declared.coerce_many.CoerceMany.TheVariants as common
use Rattle.infer_branches.specs.Own.{AllAtType, IsCommonFrom, AreMerged}
use Rattle.infer_branches.specs.Words.infer_result.Columns as column

-- ---- what is judged stays so
module _ (g : Given) (a b : InferenceResult) (x : Extends a b) where
  all_at_kept : (es : List ExprId) (t : Ty) → AllAtType a es t → AllAtType b es t
  all_at_kept [] t h = tt
  all_at_kept (e ∷ es) t h = (is_at_kept g a b x e t h.0, all_at_kept es t h.1)

  common_kept : (es : List ExprId) (o : Option Ty) (t : Ty) → IsCommonFrom a es o t → IsCommonFrom b es o t
  common_kept es (Some u) t h = h
  common_kept [] None t h = absurd h
  common_kept (e ∷ es) None t h = x.columns column.type_of_expr e.0 t h

  pub merged_kept : (es : List ExprId) (o : Option Ty) (m : CoerceMany) → AreMerged a es o m → AreMerged b es o m
  merged_kept es o common.Nothing h = h
  merged_kept es o (common.Is t) h = (elim h.0 [ inl k ↦ inl (all_at_kept es t k) | inr k ↦ inr (any_kept g a b x es k) ], common_kept es o t h.1)
  merged_kept es o common.Unknown h = any_kept g a b x es h

-- none is typed yet
pub none_merged : (r : InferenceResult) (x : Option Ty) → AreMerged r [] x (common_of x)
none_merged r None = (refl, refl)
none_merged r (Some u) = (inl tt, refl)

-- ---- one more
module _ (r : InferenceResult) where
  all_at_more : (es : List ExprId) (e : ExprId) (t : Ty) → AllAtType r es t → IsAt r e t → AllAtType r (es ++ e ∷ []) t
  all_at_more [] e t h k = (k, tt)
  all_at_more (i ∷ es) e t h k = (h.0, all_at_more es e t h.1 k)

  common_more : (es : List ExprId) (e : ExprId) (o : Option Ty) (t : Ty) → IsCommonFrom r es o t → IsCommonFrom r (es ++ e ∷ []) o t
  common_more es e (Some u) t h = h
  common_more [] e None t h = absurd h
  common_more (i ∷ es) e None t h = h

  any_more : (es : List ExprId) (e : ExprId) → AnyMismatch r es → AnyMismatch r (es ++ e ∷ [])
  any_more [] e h = absurd h
  any_more (i ∷ es) e (inl h) = inl h
  any_more (i ∷ es) e (inr h) = inr (any_more es e h)

  any_last : (es : List ExprId) (e : ExprId) → HasMismatch r e → AnyMismatch r (es ++ e ∷ [])
  any_last [] e h = inl h
  any_last (i ∷ es) e h = inr (any_last es e h)

-- ---- what is asked of an alternative

-- the branch of an `if`, or the arm of a `match`
abbrev pub IsAlternative : Role → Type 0
IsAlternative then_branch = Unit {0}
IsAlternative else_branch = Unit {0}
IsAlternative (arm i) = Unit {0}
IsAlternative _ = ⊥

-- the expression is the part of the node n in this role
abbrev pub StandsAs : RawBody → ExprId → Role → ExprId → Type 0
StandsAs b n role e = (k : ℕ) × StandsAt b (node.ExprId e) (inner (node.ExprId n)) k role

-- the first of the alternatives es, where there is one, comes before that in this role
abbrev pub FirstBefore : RawBody → ExprId → Role → List ExprId → Type 0
FirstBefore b n role [] = Unit {0}
FirstBefore b n role (e ∷ es) = (other : Role) × StandsAs b n other e × IsBefore other role

asks_of_alternative : (g : Given) (r : InferenceResult) (n : ExprId) (role : Role) (t : Ty) → IsAlternative role → AsksOfAlternative g r n role t → AsksOf g r n role t
asks_of_alternative g r n then_branch t is h = h
asks_of_alternative g r n else_branch t is h = h
asks_of_alternative g r n (arm i) t is h = h
asks_of_alternative g r n _ t is h = absurd is

alternative_demand : (g : Given) (r : InferenceResult) (n : ExprId) (role : Role) (e : ExprId) (t : Ty) → StandsAs g.body n role e → IsAlternative role → AsksOfAlternative g r n role t → Demand g r e t
alternative_demand g r n role e t at is h =
    inl (record { parent = inner (node.ExprId n); at_part = at.0; role = role; stands = at.1; asks = asks_of_alternative g r n role t is h })

-- what has a type is an expression of the body
pub has_within : (g : Given) (r : InferenceResult) (e : ExprId) (t : Ty) → IsOfBody g.body r → HasTy r e t → e.0 < length r.expr_mismatches
has_within g r e t h has = rw (h.long column.expr_mismatches ∙ sym (h.long column.type_of_expr)) (slice_get_within r.type_of_expr e.0 (Some t) has)

-- ---- the common type

-- it is of a carried kind
pub common_carried : (r : InferenceResult) (es : List ExprId) (x : Option Ty) (t : Ty) → IsCarriedTable r → IsCarriedExpectation x → IsCommonFrom r es x t → IsCarriedType t
common_carried r es (Some u) t c k h = subst (λ v. IsCarriedType v) (sym h) k
common_carried r [] None t c k h = absurd h
common_carried r (e ∷ es) None t c k h = c.each column.type_of_expr e.0 t h

module _ (g : Given) (s : Schedule) (n : ExprId) (role : Role) (e : ExprId) (x : Option Ty) (stands : StandsAs g.body n role e) (is_alternative : IsAlternative role) (expected : IsCarriedExpectation x) where
  -- once the node has the type that is expected of e, it asks for that
  asked_by_node : (u : Ty) (r : InferenceResult) → HasTy r n u → Demand g r e u
  asked_by_node u r has = alternative_demand g r n role e u stands is_alternative (inl has)

  own_owed : (y : Option Ty) → x ≡ y → (a : ExprId) (m : TypeMismatch) → Owed e y a m → OwedByAlternatives g n x a m
  own_owed None is a m o = absurd o
  own_owed (Some u) is a m o = (u, is, λ r has. subst (λ b. Demand g r b m.expected) (sym o.0) (subst (λ v. Demand g r e v) (sym o.1) (asked_by_node u r has)))

  -- the common type of those before it is asked of e, by the first of them or by the node
  common_asked : (r : InferenceResult) (es : List ExprId) (y : Option Ty) (u : Ty) (m : TypeMismatch) → x ≡ y → FirstBefore g.body n role es → IsCommonFrom r es y u → m.expected ≡ u → Demand g r e m.expected ⊎ OwedByAlternatives g n x e m
  common_asked r es (Some v) u m is first h at = inr (v, is, λ q has. subst (λ w. Demand g q e w) (sym (at ∙ h)) (asked_by_node v q has))
  common_asked r [] None u m is first h at = absurd h
  common_asked r (i ∷ es) None u m is first h at =
      inl (subst (λ w. Demand g r e w) (sym at) (alternative_demand g r n role e u stands is_alternative (inr (
      record { other = first.0; expr = i; at_part = first.1.0; stands = first.1.1.part; is_before = first.2; has = h }
      ))))

  abbrev pub Taken : List ExprId → CoerceMany → Found → Found → Type 0
  Taken es m old new = Walks g s (OwedByAlternatives g n x) old new × (new.clock ≡ expr_end g.body s e) × AreMerged new.result (es ++ e ∷ []) x m

  module _ (es : List ExprId) (t : Ty) (old mid new : Found) (first : FirstBefore g.body n role es) (d : OwnWalked g s e x t old mid) where
    own_walks : Walks g s (OwedByAlternatives g n x) old mid
    own_walks = walks_paid g s (Owed e x) (OwedByAlternatives g n x) old mid (λ a m o. inr (own_owed x refl a m o)) d.walks

    -- where it is put at the common type, or nothing is known of that
    fits : (m : CoerceMany) → AreMerged mid.result (es ++ e ∷ []) x m → new ≡ mid → Taken es m old new
    fits m h is = subst (λ c. Taken es m old c) (sym is) (own_walks, d.clock, h)

    misfits : (m : CoerceMany) (u : Ty) → IsCommonFrom mid.result es x u → (u ≡ t → ⊥) → new ≡ with_mismatch mid e (mismatch u t) → (AnyMismatch (with_mismatch mid e (mismatch u t)).result (es ++ e ∷ []) → AreMerged (with_mismatch mid e (mismatch u t)).result (es ++ e ∷ []) x m) → Taken es m old new
    misfits m u h differ is merged =
        let carried : IsCarriedTable mid.result = d.walks.state.carried in
        let here : IsCarriedType t = carried.each column.type_of_expr e.0 t d.type_is in
        let there : IsCarriedType u = common_carried mid.result es x u carried expected h in
        let misfit : IsMisfit g mid.result e (mismatch u t) = record { differ = λ same. differ (same_carried u t there here same); actual = inl d.type_is } in
        let long : e.0 < length mid.result.expr_mismatches = has_within g mid.result e t d.walks.state.of_body d.type_is in
        subst (λ c. Taken es m old c) (sym is) (
          noted_walks g s (OwedByAlternatives g n x) old mid e (mismatch u t) there here misfit (common_asked mid.result es x u (mismatch u t) refl first h refl) own_walks,
          d.clock,
          merged (any_last (with_mismatch mid e (mismatch u t)).result es e (noted_has mid e (mismatch u t) long)),
        )

    -- the first one of all gives the common type
    first_taken : (es ≡ []) × (x ≡ None) → AreMerged mid.result (es ++ e ∷ []) x (common.Is t)
    first_taken h =
        let only : AreMerged mid.result (e ∷ []) None (common.Is t) = (inl ((t, d.type_is, refl), tt), d.type_is) in
        subst (λ l. AreMerged mid.result (l ++ e ∷ []) x (common.Is t)) (sym h.0) (
        subst (λ o. AreMerged mid.result (e ∷ []) o (common.Is t)) (sym h.1) only
        )

    -- the common type stays
    kept : (u : Ty) → AreMerged mid.result es x (common.Is u) → (coerced : Bool) → IsCoercedIf coerced e t u mid new → Taken es (common.Is u) old new
    kept u q true k =
        let here : IsAt mid.result e u = (t, d.type_is, ap erased k.0) in
        fits (common.Is u) (
          elim q.0 [ inl y ↦ inl (all_at_more mid.result es e u y here) | inr y ↦ inr (any_more mid.result es e y) ],
          common_more mid.result es e x u q.1,
        ) k.1
    kept u q false k =
        let m : TypeMismatch = mismatch u t in
        misfits (common.Is u) u q.1 k.0 k.1 (λ any. (inr any, common_more (with_mismatch mid e m).result es e x u (common_kept g mid.result (with_mismatch mid e m).result (noted_extends mid e m) es x u q.1)))

    pub taken : (m after : CoerceMany) → AreMerged old.result es x m → MergesInto e t m after mid new → Taken es after old new
    taken common.Nothing after h k =
        subst (λ l. Taken es l old new) (sym k.0) (fits (common.Is t) (first_taken h) k.1)
    taken (common.Is u) after h (inl k) =
        let q = merged_kept g old.result mid.result d.walks.extends es x (common.Is u) h in
        subst (λ l. Taken es l old new) (sym k.0) (kept u q k.1.0 k.1.1)
    taken (common.Is u) after h (inr k) =
        let q = merged_kept g old.result mid.result d.walks.extends es x (common.Is u) h in
        subst (λ l. Taken es l old new) (sym k.0) (misfits common.Unknown u q.1 k.1.0 k.1.1 (λ any. any))
    taken common.Unknown after h k =
        let q = merged_kept g old.result mid.result d.walks.extends es x common.Unknown h in
        subst (λ l. Taken es l old new) (sym k.0) (fits common.Unknown (any_more mid.result es e q) k.1)

-- the alternatives es of the node n, of which x is expected, are typed, m is what they have in common, and beside them K holds
pub record Alternatives (g : Given) (s : Schedule) (n : ExprId) (es : List ExprId) (x : Option Ty) (m : CoerceMany) (K : InferenceResult → Type 0) (mid c : Found) : Type 0 where
  pub walks : Walks g s (OwedByAlternatives g n x) mid c
  pub merged : AreMerged c.result es x m
  pub beside : K c.result

-- ---- the type of the node

-- it is what is expected of the alternatives, where that is something
completed_expected : (r : InferenceResult) (es : List ExprId) (x : Option Ty) (m : CoerceMany) (t u : Ty) → AreMerged r es x m → CompletesAs x m t → x ≡ Some u → t ≡ u
completed_expected r es x common.Nothing t u h c is = (let z : None ≡ Some u = sym h.1 ∙ is in absurd (cc))
completed_expected r es x (common.Is v) t u h c is =
    let k : v ≡ u = subst (λ o. IsCommonFrom r es o v) is h.1 in
    c ∙ k
completed_expected r es x common.Unknown t u h c is = c u is

-- so what the alternatives owe is paid once the node has its type
pub completed_paid : (g : Given) (n : ExprId) (r : InferenceResult) (es : List ExprId) (x y : Option Ty) (m : CoerceMany) (t : Ty) → AreMerged r es x m → CompletesAs x m t → (e : ExprId) (k : TypeMismatch) → OwedByAlternatives g n x e k → PaidBy g n y t e k
completed_paid g n r es x y m t h c e k o =
    inl (λ q has. o.2 q (subst (λ u. HasTy q n u) (completed_expected r es x m t o.0 h c o.1) has))

-- each of the alternatives is at the type of the node, or a mismatch stands at one of them
completed_at : (r : InferenceResult) (es : List ExprId) (x : Option Ty) (m : CoerceMany) (t : Ty) → (es ≡ [] → ⊥) → AreMerged r es x m → CompletesAs x m t → AllAtType r es t ⊎ AnyMismatch r es
completed_at r es x common.Nothing t some h c = absurd (some h.0)
completed_at r es x (common.Is u) t some h c = subst (λ v. AllAtType r es v ⊎ AnyMismatch r es) (sym c) h.0
completed_at r es x common.Unknown t some h c = inr h

-- t is the type of the node n, whose alternatives are es
pub record Completed (g : Given) (s : Schedule) (n : ExprId) (es : List ExprId) (x : Option Ty) (t : Ty) (K : InferenceResult → Type 0) (mid c : Found) : Type 0 where
  pub walks : Walks g s (PaidBy g n x t) mid c
  pub carried : IsCarriedType t
  pub placed : AllAtType c.result es t ⊎ AnyMismatch c.result es
  pub beside : K c.result

pub completed : (g : Given) (s : Schedule) (n : ExprId) (es : List ExprId) (x y : Option Ty) (m : CoerceMany) (t : Ty) (K : InferenceResult → Type 0) (mid c : Found) → (es ≡ [] → ⊥) → Alternatives g s n es y m K mid c → CompletesAs y m t → IsCarriedType t → Completed g s n es x t K mid c
completed g s n es x y m t K mid c some h done carried = record {
  walks = walks_paid g s (OwedByAlternatives g n y) (PaidBy g n x t) mid c (λ e k o. inr (completed_paid g n c.result es y x m t h.merged done e k o)) h.walks;
  carried = carried;
  placed = completed_at c.result es y m t some h.merged done;
  beside = h.beside;
}
