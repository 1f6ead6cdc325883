-- What associated types were found to be, with the place of each in a map: one more.
use Rattle.std.specs.Prelude.{◌≡◌, ℕ, List, [], ◌∷◌, ◌++◌, length, Some, None}
use Rattle.std.specs.HashMap.{HashMap, get, Updates}
use Rattle.std.proofs.Common.{inl, inr, sym, ap, subst, ◌∙◌}
use Rattle.std.proofs.lemmas.Bool.{false_from_ne_true}
use Rattle.infer_needs.specs.Words.{Ty}
use Rattle.infer_needs.proofs.Words.{ty_eq, ty_decides, get_more}
use Rattle.infer_needs.specs.Own.{FindsIn, IsIndexed}

module _ {S : Type 0} (m : HashMap Ty ℕ S) (js : List (Ty × Ty)) (indexed : IsIndexed m js) where
  -- the map has the place of another
  pub indexed_put : (n : HashMap Ty ℕ S) (a : Ty) (k : ℕ) → FindsIn js a None → Updates ty_eq m n a (Some k) → IsIndexed n js
  indexed_put n a k none puts i x at = puts.2 x.0 (false_from_ne_true (ty_eq a x.0) (λ same. none i x at (sym ((ty_decides a x.0).0 same)))) ∙ indexed i x at

  -- which is the end of the list
  pub indexed_push : (a t : Ty) → get ty_eq m a ≡ Some (length js) → IsIndexed m (js ++ (a, t) ∷ [])
  indexed_push a t has i x at = elim (get_more js (a, t) i x at) [
    | inl l ↦ indexed i x l
    | inr l ↦ subst (λ (p : Ty × Ty). get ty_eq m p.0 ≡ Some i) l.1 (has ∙ ap Some (sym l.0))
  ]
