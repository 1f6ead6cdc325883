-- The entries before an index, of which at most one isn't out.
use Rattle.std.proofs.Common.{◌≡◌, ◌⊎◌, inl, inr, ℕ, zero, suc, ◌+◌, ◌<◌, ◌≤◌, refl, sym, ap, subst, ◌∙◌, arith, Bool, true, false, List, [], ◌∷◌, map, length, get_or, Some, slice_get, nat_eq, eqb-true}
use Rattle.std.proofs.Math.Dec.{ltb}
use Rattle.std.proofs.lemmas.Bool.{ltb-true, ltb-false, eqb-false}
use Rattle.std.proofs.lemmas.Option.{same_Some}
use Rattle.std.proofs.lemmas.List.{length-map}
use Rattle.goal_search.specs.Words.{Each, SomeOf, IsOnlyOf}
use Rattle.goal_search.specs.Own.{Left, IsLeft}
use Rattle.goal_search.specs.declared.choose.Left.TheVariants as left

-- ---- entries at an index

pub within : {X : Type 0} (xs : List X) (i : ℕ) (x : X) → slice_get xs i ≡ Some x → i < length xs
within [] i x e = cc
within (y ∷ ys) zero x e = omega arith
within (y ∷ ys) (suc i) x e = let h = within ys i x e in omega arith

pub at_index : {X : Type 0} (xs : List X) (i : ℕ) → i < length xs → (x : X) × (slice_get xs i ≡ Some x)
at_index [] i h = absurd (omega arith)
at_index (x ∷ xs) zero h = (x, refl)
at_index (x ∷ xs) (suc i) h = at_index xs i (omega arith)

pub mapped_at : {X Y : Type 0} (f : X → Y) (xs : List X) (i : ℕ) (x : X) → i < length xs → x ≡ get_or xs i x → slice_get (map f xs) i ≡ Some (f x)
mapped_at f [] i x h g = absurd (omega arith)
mapped_at f (y ∷ ys) zero x h g = ap (λ z. Some (f z)) (sym g)
mapped_at f (y ∷ ys) (suc i) x h g = mapped_at f ys i x (omega arith) g

pub mapped_past : {X Y : Type 0} (f : X → Y) (xs : List X) (i : ℕ) (y : Y) → length xs ≤ i → slice_get (map f xs) i ≡ Some y → ⊥
mapped_past f xs i y h e = let w = within (map f xs) i y e in omega (arith, h, w, length-map xs f)

pub each_get : {X : Type 0} (P : X → Type 0) (xs : List X) (i : ℕ) (x : X) → slice_get xs i ≡ Some x → Each P xs → P x
each_get P [] i x e h = cc
each_get P (y ∷ ys) zero x e h = subst P (same_Some y x e) h.0
each_get P (y ∷ ys) (suc i) x e h = each_get P ys i x e h.1

pub each_of_get : {X : Type 0} (P : X → Type 0) (xs : List X) → ((i : ℕ) (x : X) → slice_get xs i ≡ Some x → P x) → Each P xs
each_of_get P [] h = tt
each_of_get P (y ∷ ys) h = (h 0 y refl, each_of_get P ys (λ i x e. h (suc i) x e))

pub some_get : {X : Type 0} (P : X → Type 0) (xs : List X) (i : ℕ) (x : X) → slice_get xs i ≡ Some x → P x → SomeOf P xs
some_get P [] i x e h = cc
some_get P (y ∷ ys) zero x e h = inl (subst P (sym (same_Some y x e)) h)
some_get P (y ∷ ys) (suc i) x e h = inr (some_get P ys i x e h)

pub each_none : {X : Type 0} (P : X → Type 0) (xs : List X) → (SomeOf P xs → ⊥) → Each (λ x. P x → ⊥) xs
each_none P [] h = tt
each_none P (y ∷ ys) h = (λ p. h (inl p), each_none P ys (λ s. h (inr s)))

-- ---- the only one

module _ {X : Type 0} (Out : X → Type 0) (xs : List X) where
  same_case : (i m : ℕ) (b : Bool) → nat_eq i m ≡ b → IsOnlyOf Out xs i → IsOnlyOf Out xs m → i ≡ m
  same_case i m true e o k = eqb-true i m e
  same_case i m false e o k = let x = at_index xs i o.within in absurd (o.remains x.0 x.1 (k.others i x.0 x.1 (eqb-false i m e)))

  pub only_same : (i m : ℕ) → IsOnlyOf Out xs i → IsOnlyOf Out xs m → i ≡ m
  only_same i m o k = same_case i m (nat_eq i m) refl o k

  pub only_each : (i : ℕ) → IsOnlyOf Out xs i → Each Out xs → ⊥
  only_each i o h = let x = at_index xs i o.within in o.remains x.0 x.1 (each_get Out xs i x.0 x.1 h)

-- ---- before an index

abbrev pub LeftSoFar : {X : Type 0} → (X → Type 0) → List X → Left → ℕ → Type 0
LeftSoFar {X} Out xs left.Nothing i = (j : ℕ) (r : X) → j < i → slice_get xs j ≡ Some r → Out r
LeftSoFar {X} Out xs (left.One k) i =
    (k < i) × (k < length xs) × ((r : X) → slice_get xs k ≡ Some r → Out r → ⊥)
    × ((j : ℕ) (r : X) → j < i → slice_get xs j ≡ Some r → (j ≡ k → ⊥) → Out r)
LeftSoFar {X} Out xs left.Several i = ⊥

upto_case : (j i : ℕ) (b : Bool) → ltb j i ≡ b → j < i + 1 → (j < i) ⊎ (j ≡ i)
upto_case j i true e h = inl (ltb-true j i e)
upto_case j i false e h = inr (let l = ltb-false j i e in omega arith)

upto : (j i : ℕ) → j < i + 1 → (j < i) ⊎ (j ≡ i)
upto j i h = upto_case j i (ltb j i) refl h

module _ {X : Type 0} (Out : X → Type 0) (xs : List X) (i : ℕ) where
  pub left_end : (o : Left) → length xs ≤ i → LeftSoFar Out xs o i → IsLeft Out xs o
  left_end left.Nothing h k = each_of_get Out xs (λ j r e. let w = within xs j r e in k j r (omega arith) e)
  left_end (left.One j) h k = record { within = k.1; remains = k.2; others = λ m r e d. let w = within xs m r e in k.3 m r (omega arith) e d }
  left_end left.Several h k = absurd k

  module _ (r : X) (at : slice_get xs i ≡ Some r) where
    here : (j : ℕ) (s : X) → j ≡ i → slice_get xs j ≡ Some s → r ≡ s
    here j s e h = same_Some r s (sym at ∙ ap (slice_get xs) (sym e) ∙ h)

    pub left_out : (o : Left) → Out r → LeftSoFar Out xs o i → LeftSoFar Out xs o (i + 1)
    left_out left.Nothing h k = λ j s b e. elim (upto j i b) [ inl l ↦ k j s l e | inr q ↦ subst Out (here j s q e) h ]
    left_out (left.One m) h k = (omega (arith, k.0), k.1, k.2, λ j s b e d. elim (upto j i b) [ inl l ↦ k.3 j s l e d | inr q ↦ subst Out (here j s q e) h ])
    left_out left.Several h k = absurd k

    pub left_this : (Out r → ⊥) → LeftSoFar Out xs left.Nothing i → LeftSoFar Out xs (left.One i) (i + 1)
    left_this h k = (
      omega arith,
      within xs i r at,
      λ s e x. h (subst Out (sym (here i s refl e)) x),
      λ j s b e d. elim (upto j i b) [ inl l ↦ k j s l e | inr q ↦ absurd (d q) ],
    )

    two_case : (k m : ℕ) (b : Bool) → nat_eq k m ≡ b → LeftSoFar Out xs (left.One k) i → (Out r → ⊥) → IsOnlyOf Out xs m → ⊥
    two_case k m true e h x o = x (o.others i r at (λ q. omega (arith, q, eqb-true k m e, h.0)))
    two_case k m false e h x o = let y = at_index xs k h.1 in h.2 y.0 y.1 (o.others k y.0 y.1 (eqb-false k m e))

    pub left_two : (o : Left) → (o ≡ left.Nothing → ⊥) → (Out r → ⊥) → LeftSoFar Out xs o i → IsLeft Out xs left.Several
    left_two left.Nothing n x h = absurd (n refl)
    left_two (left.One k) n x h = (λ e. x (each_get Out xs i r at e), λ m o. two_case k m (nat_eq k m) refl h x o)
    left_two left.Several n x h = absurd h
