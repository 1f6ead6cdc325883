-- Elements of lists by their numbers, where one is set, and where more come.
use Rattle.std.proofs.Common.{◌≡◌, ◌⊎◌, inl, inr, ℕ, zero, suc, ◌+◌, ◌<◌, ◌≤◌, List, [], ◌∷◌, ◌++◌, length, map, refl, sym, ◌∙◌, arith}
use Rattle.std.specs.Prelude.{Some, slice_get, slice_set}
use Rattle.std.proofs.lemmas.Option.{same_Some}
use Rattle.goal_tree.proofs.Words.{get_set_other}
use Rattle.goal_tree.specs.Own.{Standing}
use Rattle.goal_tree.specs.declared.obligation.Standing.TheVariants as standing
use Rattle.goal_tree.specs.Words.{ProofSource}
pub use Rattle.goal_tree.proofs.Words.{get_left as front_get, get_last as last_get, get_more as push_get, get_set_same as set_same}

pub same_or_not : (i j : ℕ) → (i ≡ j) ⊎ (i ≡ j → ⊥)
same_or_not i j = grind arith

pub set_other : {X : Type 0} (xs : List X) (i j : ℕ) (y : X) → (j ≡ i → ⊥) → slice_get (slice_set xs i y) j ≡ slice_get xs j
set_other xs i j y other = get_set_other xs i y j (slice_get xs j) other refl

pub mapped_get : {X Y : Type 0} (f : X → Y) (xs : List X) (i : ℕ) (y : Y) → slice_get (map f xs) i ≡ Some y → (x : X) × (slice_get xs i ≡ Some x) × (f x ≡ y)
mapped_get f [] i y e = cc
mapped_get f (x ∷ xs) zero y e = (x, refl, same_Some (f x) y e)
mapped_get f (x ∷ xs) (suc i) y e = mapped_get f xs i y e

-- one that was there, or one that came
pub more_get : {X Y : Type 0} (f : X → Y) (ys : List Y) (xs : List X) (i : ℕ) (y : Y) → slice_get (ys ++ map f xs) i ≡ Some y → (slice_get ys i ≡ Some y) ⊎ ((length ys ≤ i) × ((x : X) × (f x ≡ y)))
more_get f [] xs i y e = (let h = mapped_get f xs i y e in inr (omega arith, (h.0, h.2)))
more_get f (z ∷ ys) xs zero y e = inl e
more_get f (z ∷ ys) xs (suc i) y e = elim (more_get f ys xs i y e) [
  | inl q ↦ inl q
  | inr q ↦ inr (omega (arith, q.0), q.1)
]

-- within what was there, or behind it
pub back_get : {X : Type 0} (xs ys : List X) (i : ℕ) (x : X) → slice_get (xs ++ ys) i ≡ Some x → (slice_get xs i ≡ Some x) ⊎ (length xs ≤ i)
back_get [] ys i x e = inr (omega arith)
back_get (z ∷ xs) ys zero x e = inl e
back_get (z ∷ xs) ys (suc i) x e = elim (back_get xs ys i x e) [
  | inl q ↦ inl q
  | inr q ↦ inr (omega (arith, q))
]

same_get : {X Y : Type 0} (y : Y) (xs : List X) (i : ℕ) → i < length xs → slice_get (map (λ x. y) xs) i ≡ Some y
same_get y [] i h = absurd (omega arith)
same_get y (x ∷ xs) zero h = refl
same_get y (x ∷ xs) (suc i) h = same_get y xs i (omega arith)

-- what comes is the same for each
pub new_get : {X Y : Type 0} (y : Y) (ys : List Y) (xs : List X) (i : ℕ) → length ys ≤ i → i < length ys + length xs → slice_get (ys ++ map (λ x. y) xs) i ≡ Some y
new_get y [] xs i from within = same_get y xs i (omega arith)
new_get y (z ∷ ys) xs zero from within = absurd (omega arith)
new_get y (z ∷ ys) xs (suc i) from within = new_get y ys xs i (omega arith) (omega arith)

-- ---- standings are told apart

pub open_selected : (src : ProofSource) (m n : ℕ) → standing.Open ≡ standing.Selected src m n → ⊥
open_selected src m n e = cc

pub open_proved : (k m n : ℕ) → standing.Open ≡ standing.Proved k m n → ⊥
open_proved k m n e = cc

pub selected_proved : (src : ProofSource) (a b k m n : ℕ) → standing.Selected src a b ≡ standing.Proved k m n → ⊥
selected_proved src a b k m n e = cc

-- a standing is one
pub same_standing : (ss : List Standing) (i : ℕ) (a b : Standing) → slice_get ss i ≡ Some a → slice_get ss i ≡ Some b → a ≡ b
same_standing ss i a b e e' = same_Some a b (sym e ∙ e')
