-- The type of an `if`: its condition, its branch, and the other branch or none.
use Rattle.std.proofs.Common.{inl, inr, sym, subst, Option, ◌≡◌, ◌∙◌, Some, None, List, ◌∷◌, ◌<◌, Bool, [], length, ap, ◌⊎◌, true, false, refl}
use Rattle.infer_branches.specs.Words.{Ty, ExprId, Same, erased, unit, after, Schedule, IsCarriedType, same_carried, InferenceResult, Given, IsAtOrMismatch, IsAt, Demand, at_or_mismatch, IfRule, ObeysOrMismatch, AnyMismatch, mismatch, IsMisfit, IsCarriedExpectation, IsLess, Found, with_mismatch, Walks, OwedByAlternatives, expr_end, PaidBy, Extends, Owed, IsInside, KindWalked, CoerceMany, CompletesAs, MergesInto, IsCoercedIf}
use Rattle.hir_types.specs.declared.ty.Ty.TheVariants as ty
use Rattle.infer_branches.specs.Words.infer_result.Rules.{Rule}
use Rattle.infer_branches.proofs.Words.{at_kept, alternative_kept, any_kept, extends_refl, walks_paid, carried_unit, noted_extends, noted_walks, noted_has}
use Rattle.infer_branches.specs.Words.infer_coerce.declared.coerce_many.CoerceMany.TheVariants as common
use Rattle.infer_branches.specs.Own.{IsIfOf, AllAtType, IsCommonFrom, AreMerged}
use Rattle.infer_branches.proofs.Alternatives.{Completed, completed_paid, common_carried}
use Rattle.infer_branches.specs.Words.infer_result.Columns as column

-- ---- what is expected of the branches
pub less_carried : (x y : Option Ty) → IsLess x y → IsCarriedExpectation x → IsCarriedExpectation y
less_carried x y (inl h) k = subst (λ o. IsCarriedExpectation o) (sym h) k
less_carried x y (inr h) k = subst (λ o. IsCarriedExpectation o) (sym h) tt

-- what is expected of them is expected of the node
pub less_same : (x y : Option Ty) (u : Ty) → IsLess x y → y ≡ Some u → x ≡ Some u
less_same x y u (inl h) k = sym h ∙ k
less_same x y u (inr h) k = (let z : None ≡ Some u = sym h ∙ k in absurd (cc))

pub less_twice : (x y z : Option Ty) → IsLess x y → IsLess y z → IsLess x z
less_twice x y z h (inr k) = inr k
less_twice x y z (inl h) (inl k) = inl (k ∙ h)
less_twice x y z (inr h) (inl k) = inr (k ∙ h)

-- ---- with another branch
obeys_if : (g : Given) (r : InferenceResult) (n c first : ExprId) (other : Option ExprId) → IsIfOf g.body n c first other → IfRule (at_or_mismatch g r) r n c first other → ObeysOrMismatch g r n
obeys_if g r n c first other is h = subst (λ o. Rule (at_or_mismatch g r) g r n o) (sym is) h

both_branches : (r : InferenceResult) (first other : ExprId) (t : Ty) → AllAtType r (first ∷ other ∷ []) t ⊎ AnyMismatch r (first ∷ other ∷ []) → (IsAt r first t ⊎ AnyMismatch r (first ∷ other ∷ [])) × (IsAt r other t ⊎ AnyMismatch r (first ∷ other ∷ []))
both_branches r first other t (inl h) = (inl h.0, inl h.1.0)
both_branches r first other t (inr h) = (inr h, inr h)

pub both_done : (g : Given) (s : Schedule) (n c first other : ExprId) → IsIfOf g.body n c first (Some other) → (x : Option Ty) (t : Ty) (mid f : Found) → Completed g s n (first ∷ other ∷ []) x t (λ r. IsAtOrMismatch r c ty.Bool) mid f → f.clock ≡ expr_end g.body s n → KindWalked g s n x t mid f
both_done g s n c first other is x t mid f h ends =
    let es : List ExprId = first ∷ other ∷ [] in
    let both = both_branches f.result first other t h.placed in
    record {
      walks = h.walks;
      clock = ends;
      carried = h.carried;
      rule = λ r k has.
          obeys_if g r n c first (Some other) is (record {
            condition = at_kept g f.result r k c ty.Bool h.beside;
            type = t;
            has = has;
            branch = alternative_kept g f.result r k es first t both.0;
            otherwise = alternative_kept g f.result r k es other t both.1;
          });
    }

-- ---- without another branch
ends_kept : (g : Given) (a b : InferenceResult) → Extends a b → (es : List ExprId) (t : Ty) → Same unit t ⊎ AnyMismatch a es → Same unit t ⊎ AnyMismatch b es
ends_kept g a b x es t (inl h) = inl h
ends_kept g a b x es t (inr h) = inr (any_kept g a b x es h)

module _ (g : Given) (s : Schedule) (n c first : ExprId) (is : IsIfOf g.body n c first None) (x y : Option Ty) (t : Ty) (mid f : Found) (w : IsInside g s n x mid) (less : IsLess x y) (ends : f.clock ≡ expr_end g.body s n) (condition_at : IsAtOrMismatch f.result c ty.Bool) (carried : IsCarriedType t) where
  -- both the branch and `()` are at the type of the `if`, or a mismatch stands at the branch or the `if`
  bare_done : (new : Found) → Walks g s (PaidBy g n x t) mid new → new.clock ≡ f.clock → Extends f.result new.result → IsAt new.result first t ⊎ AnyMismatch new.result (n ∷ first ∷ []) → Same unit t ⊎ AnyMismatch new.result (n ∷ first ∷ []) → KindWalked g s n x t mid new
  bare_done new walks same k branch own = record {
    walks = walks;
    clock = same ∙ ends;
    carried = carried;
    rule = λ r l has.
        obeys_if g r n c first None is (record {
          condition = at_kept g new.result r l c ty.Bool (at_kept g f.result new.result k c ty.Bool condition_at);
          type = t;
          has = has;
          branch = alternative_kept g new.result r l (n ∷ first ∷ []) first t branch;
          otherwise = ends_kept g new.result r l (n ∷ first ∷ []) t own;
        });
  }

  module _ (walks : Walks g s (OwedByAlternatives g n y) mid f) where
    -- what the branch owes is paid
    paid : (es : List ExprId) (r : InferenceResult) (m : CoerceMany) → AreMerged r es y m → CompletesAs y m t → Walks g s (PaidBy g n x t) mid f
    paid es r m h done = walks_paid g s (OwedByAlternatives g n y) (PaidBy g n x t) mid f (λ e k o. inr (completed_paid g n r es y x m t h done e k o)) walks

    unit_fits : (u : Ty) → AreMerged f.result (first ∷ []) y (common.Is u) → unit ≡ u → t ≡ u → KindWalked g s n x t mid f
    unit_fits u h at done = bare_done f (paid (first ∷ []) f.result (common.Is u) h done) refl (extends_refl f.result) (elim h.0 [ inl k ↦ inl (subst (λ v. IsAt f.result first v) (sym done) k.0) | inr k ↦ inr (inr k) ]) (inl (ap erased (at ∙ sym done)))

    unit_unknown : AnyMismatch f.result (first ∷ []) → CompletesAs y common.Unknown t → KindWalked g s n x t mid f
    unit_unknown h done = bare_done f (paid (first ∷ []) f.result common.Unknown h done) refl (extends_refl f.result) (inr (inr h)) (inr (inr h))

    -- the branch's type, or what is expected, is asked of the `if`
    unit_asked : (z : Option Ty) (u : Ty) → y ≡ z → IsCommonFrom f.result (first ∷ []) z u → Demand g f.result n u ⊎ PaidBy g n x t n (mismatch u unit)
    unit_asked None u at h = inl (inr (record { condition = c; branch = first; is_if = is; has = h }))
    unit_asked (Some v) u at h = inr (inr (subst (λ o. Owed n o n (mismatch u unit)) (sym (less_same x y v less at)) (refl, h)))

    unit_misfits : (u : Ty) → IsCommonFrom f.result (first ∷ []) y u → (u ≡ unit → ⊥) → Walks g s (PaidBy g n x t) mid f → KindWalked g s n x t mid (with_mismatch f n (mismatch u unit))
    unit_misfits u h differ paid_before =
        let new : Found = with_mismatch f n (mismatch u unit) in
        let there : IsCarriedType u = common_carried f.result (first ∷ []) y u walks.state.carried (less_carried x y less w.expected) h in
        let misfit : IsMisfit g f.result n (mismatch u unit) = record { differ = λ same. differ (same_carried u unit there carried_unit same); actual = inr (inr (record { condition = c; branch = first; is_if = is }), refl) } in
        let long : n.0 < length f.result.expr_mismatches = rw (walks.state.of_body.long column.expr_mismatches) w.within in
        let has = noted_has f n (mismatch u unit) long in
        bare_done new (
        noted_walks g s (PaidBy g n x t) mid f n (mismatch u unit) there carried_unit misfit (unit_asked y u refl h) paid_before
        ) refl (noted_extends f n (mismatch u unit)) (inr (inl has)) (inr (inl has))

    -- `()` is coerced to the branch's type, which stays the common one
    unit_kept : (u : Ty) (new : Found) → AreMerged f.result (first ∷ []) y (common.Is u) → (coerced : Bool) → IsCoercedIf coerced n unit u f new → CompletesAs y (common.Is u) t → KindWalked g s n x t mid new
    unit_kept u new h true d done = subst (λ e. KindWalked g s n x t mid e) (sym d.1) (unit_fits u h d.0 done)
    unit_kept u new h false d done = subst (λ e. KindWalked g s n x t mid e) (sym d.1) (unit_misfits u h.1 d.0 (paid (first ∷ []) f.result (common.Is u) h done))

    pub merged_done : (m after : CoerceMany) (new : Found) → AreMerged f.result (first ∷ []) y m → MergesInto n unit m after f new → CompletesAs y after t → KindWalked g s n x t mid new
    merged_done common.Nothing after new h d done = absurd (cc)
    merged_done (common.Is u) after new h (inl d) done =
        unit_kept u new h d.1.0 d.1.1 (subst (λ l. CompletesAs y l t) d.0 done)
    merged_done (common.Is u) after new h (inr d) done =
        let there : AnyMismatch new.result (n ∷ first ∷ []) = subst (λ c. AnyMismatch c.result (n ∷ first ∷ [])) (sym d.1.1) (inl (noted_has f n (mismatch u unit) (rw (walks.state.of_body.long column.expr_mismatches) w.within))) in
        subst (λ e. KindWalked g s n x t mid e) (sym d.1.1) (unit_misfits u h.1 d.1.0 (paid (n ∷ first ∷ []) new.result common.Unknown there (subst (λ l. CompletesAs y l t) d.0 done)))
    merged_done common.Unknown after new h d done =
        subst (λ e. KindWalked g s n x t mid e) (sym d.1) (unit_unknown h (subst (λ l. CompletesAs y l t) d.0 done))
