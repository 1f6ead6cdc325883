-- Whether a type is one that can be written, over holes that were made.
use Rattle.std.specs.Prelude.{◌≡◌, ◌↔◌, ℕ, Bool, true, false, Result, Ok, Err, IsTrue, IfOk, refl}
use Rattle.std.proofs.Common.{true≢false, sym, ap, ◌∙◌, subst}
use Rattle.infer_result.specs.Words.{Ty, term, DefWithBodyId, RawFacts, Scope, params_of, scope_of, has_associated, HasMadeIf, whole, IsMadeOf, AreOf, State}
use Rattle.infer_result.specs.Own.{body_scope, is_read_head, IsInHand}

pub scope_is : (d : DefWithBodyId) (facts raw : RawFacts) (n : ℕ) (b : Bool) → raw ≡ facts → n ≡ params_of raw d → b ≡ has_associated raw d → body_scope raw n b ≡ scope_of facts d
scope_is d facts raw n b same count may = ap (λ m. body_scope raw m b) count ∙ (ap (body_scope raw (params_of raw d)) may ∙ ap (λ x. scope_of x d) same)

module _ (sc : Scope) (state : State) (t : Ty) where
  -- its heads can't be
  pub not_in_hand : (IsMadeOf (is_read_head sc) whole (term t) → ⊥) → IsTrue false ↔ IsInHand sc state t
  not_in_hand none = (λ e. absurd (true≢false (sym e)), λ h. absurd (none h.heads))

  by_holes : IsMadeOf (is_read_head sc) whole (term t) → (made : Bool) → HasMadeIf made state t → IsTrue made ↔ IsInHand sc state t
  by_holes heads true holes = (λ e. record { heads = heads; holes = holes }, λ h. refl)
  by_holes heads false none = (λ e. absurd (true≢false (sym e)), λ h. absurd (none h.holes))

  -- they can
  pub in_hand_if : {E : Type 0} → IsMadeOf (is_read_head sc) whole (term t) → (r : Result Bool E) → IfOk r (λ made. HasMadeIf made state t) → IfOk r (λ made. IsTrue made ↔ IsInHand sc state t)
  in_hand_if heads (Ok made) h = by_holes heads made h
  in_hand_if heads (Err e) h = tt

-- so is another with the same term
pub hand_same : (sc : Scope) (state : State) (t u : Ty) → term t ≡ term u → IsInHand sc state t → IsInHand sc state u
hand_same sc state t u same h = record { heads = subst (IsMadeOf (is_read_head sc) whole) same h.heads; holes = subst (AreOf state.substitution.kinds) same h.holes }
