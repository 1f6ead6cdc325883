-- An expression put at the type that is expected of it, with or without a mismatch.
use Rattle.std.proofs.Common.{◌<◌, ◌≡◌, ◌⊎◌, inl, inr, Bool, true, false, length, sym, ap, subst, refl, ◌∙◌, Some, Option, None}
use Rattle.infer_coerce.specs.Words.{ExprId, Ty, erased, Schedule, IsCarriedType, same_carried, HasTy, mismatch, Given, IsAtOrMismatch, Demand, IsMisfit, InferenceResult, TypeMismatch, Found, Walks, Debt, Owed, IsCarriedTable, Nothing, ComesTo, OwnWalked, CoerceWalked, IsPlaced, IsCarriedExpectation}
use Rattle.infer_coerce.proofs.Words.{noted_has, noted_walks, walks_paid}
use Rattle.infer_coerce.specs.Own.{IsCoercedIf}
use Rattle.infer_result.specs.Columns as column

-- an expression that has the type t is at u, or that it is not is noted
module _ (g : Given) (s : Schedule) (P : Debt) (e : ExprId) (t u : Ty) (old mid : Found) (walks : Walks g s P old mid) (within : e.0 < length g.body.exprs) (has : HasTy mid.result e t) (carried : IsCarriedType u) where
  carried_own : IsCarriedType t
  carried_own = walks.state.carried.each column.type_of_expr e.0 t has

  own_misfit : (u ≡ t → ⊥) → IsMisfit g mid.result e (mismatch u t)
  own_misfit differ = record { differ = λ same. differ (same_carried u t carried carried_own same); actual = inl has }

  pub coerced_walks : (fits : Bool) (new : Found) → ((u ≡ t → ⊥) → Demand g mid.result e u ⊎ P e (mismatch u t)) → IsCoercedIf fits e t u mid new → Walks g s P old new
  coerced_walks true new owed k = subst (λ c. Walks g s P old c) (sym k.1) walks
  coerced_walks false new owed k =
      subst (λ c. Walks g s P old c) (sym k.1) (noted_walks g s P old mid e (mismatch u t) carried carried_own (own_misfit k.0) (owed k.0) walks)

  pub coerced_placed : (fits : Bool) (new : Found) → IsCoercedIf fits e t u mid new → IsAtOrMismatch new.result e u
  coerced_placed true new k = subst (λ c. IsAtOrMismatch c.result e u) (sym k.1) (t, has, inl (ap erased k.0))
  coerced_placed false new k =
      let long : e.0 < length mid.result.expr_mismatches = rw (walks.state.of_body.long column.expr_mismatches) within in
      subst (λ c. IsAtOrMismatch c.result e u) (sym k.1) (t, has, inr (noted_has mid e (mismatch u t) long))

pub coerced_clock : (fits : Bool) (e : ExprId) (t u : Ty) (old new : Found) → IsCoercedIf fits e t u old new → new.clock ≡ old.clock
coerced_clock true e t u old new k = ap (λ c. c.clock) k.1
coerced_clock false e t u old new k = ap (λ c. c.clock) k.1

pub coerced : (g : Given) (s : Schedule) (fits : Bool) (e : ExprId) (t u : Ty) (old mid new : Found) → ComesTo g s e (Some u) old → OwnWalked g s e (Some u) t old mid → IsCoercedIf fits e t u mid new → CoerceWalked g s e (Some u) u old new
coerced g s fits e t u old mid new h d k = record {
  walks = coerced_walks g s (Owed e (Some u)) e t u old mid d.walks h.within d.type_is h.expected fits new (λ differ. inr (refl, refl)) k;
  clock = coerced_clock fits e t u mid new k ∙ d.clock;
  placed = (refl, coerced_placed g s (Owed e (Some u)) e t u old mid d.walks h.within d.type_is h.expected fits new k);
}

-- the same, where the expected type and the answer are known by equations
pub coerced_as : (g : Given) (s : Schedule) (fits : Bool) (e : ExprId) (x : Option Ty) (t u v : Ty) (old mid new : Found) → Some u ≡ x → v ≡ u → ComesTo g s e x old → OwnWalked g s e x t old mid → IsCoercedIf fits e t u mid new → CoerceWalked g s e x v old new
coerced_as g s fits e x t u v old mid new f i h d k =
    subst (λ w. CoerceWalked g s e x w old new) (sym i) (
    subst (λ y. CoerceWalked g s e y u old new) f (
    coerced g s fits e t u old mid new (subst (λ y. ComesTo g s e y old) (sym f) h) (subst (λ y. OwnWalked g s e y t old mid) (sym f) d) k
    )
    )

-- ---- what is placed
pub placed_at : (r : InferenceResult) (e : ExprId) (x : Option Ty) (t : Ty) → IsPlaced r e x t → IsAtOrMismatch r e t
placed_at r e None t h = (t, h, inl refl)
placed_at r e (Some u) t h = subst (λ v. IsAtOrMismatch r e v) (sym h.0) h.1

pub placed_carried : (r : InferenceResult) (e : ExprId) (x : Option Ty) (t : Ty) → IsCarriedTable r → IsCarriedExpectation x → IsPlaced r e x t → IsCarriedType t
placed_carried r e None t c i h = c.each column.type_of_expr e.0 t h
placed_carried r e (Some u) t c i h = subst (λ v. IsCarriedType v) (sym h.0) i

pub placed_owed : (r : InferenceResult) (e : ExprId) (x : Option Ty) (t : Ty) → IsPlaced r e x t → (n : ExprId) (m : TypeMismatch) → Owed e x n m → (n ≡ e) × (m.expected ≡ t)
placed_owed r e None t h n m o = absurd o
placed_owed r e (Some u) t h n m o = (o.0, o.1 ∙ sym h.0)

-- what is owed is paid where the place asks for it
pub owed_paid : (g : Given) (s : Schedule) (e : ExprId) (x : Option Ty) (old new : Found) → ((u : Ty) → x ≡ Some u → Demand g new.result e u) → Walks g s (Owed e x) old new → Walks g s Nothing old new
owed_paid g s e x old new f h = walks_paid g s (Owed e x) Nothing old new (λ n m o. inl (paid x f n m o)) h
  where
    paid : (y : Option Ty) → ((u : Ty) → y ≡ Some u → Demand g new.result e u) → (n : ExprId) (m : TypeMismatch) → Owed e y n m → Demand g new.result n m.expected
    paid None k n m o = absurd o
    paid (Some u) k n m o = subst (λ a. Demand g new.result a m.expected) (sym o.0) (subst (λ v. Demand g new.result e v) (sym o.1) (k u refl))
