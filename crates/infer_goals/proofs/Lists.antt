-- Lists of numbers: which stand in them, and what holds of each.
use Rattle.std.proofs.Common.{◌≡◌, ◌⊎◌, inl, inr, ℕ, zero, suc, ◌+◌, ◌<◌, ◌≤◌, List, [], ◌∷◌, ◌++◌, length, refl, sym, ap, subst, arith}
use Rattle.std.specs.Prelude.{Some, slice_get}
use Rattle.std.specs.List.{range_with_len}
use Rattle.std.proofs.lemmas.Option.{same_Some}
use Rattle.infer_goals.proofs.Words.{get_left as front_get}
use Rattle.infer_goals.specs.Own.{IsAmong, AreAmongEither}

-- ---- which stand in them

pub append_get : {X : Type 0} (xs ys : List X) (k : ℕ) (x : X) → slice_get (xs ++ ys) k ≡ Some x → (slice_get xs k ≡ Some x) ⊎ ((j : ℕ) × (slice_get ys j ≡ Some x))
append_get [] ys k x e = inr (k, e)
append_get (y ∷ xs) ys zero x e = inl e
append_get (y ∷ xs) ys (suc k) x e = append_get xs ys k x e

pub get_within : {X : Type 0} (xs : List X) (i : ℕ) → i < length xs → (x : X) × (slice_get xs i ≡ Some x)
get_within [] i h = absurd (omega arith)
get_within (x ∷ xs) zero h = (x, refl)
get_within (x ∷ xs) (suc i) h = get_within xs i (omega arith)

pub among_either : (xs ys : List ℕ) (i : ℕ) → IsAmong (xs ++ ys) i → IsAmong xs i ⊎ IsAmong ys i
among_either xs ys i h = elim (append_get xs ys h.0 i h.1) [
  | inl e ↦ inl (h.0, e)
  | inr a ↦ inr a
]

pub among_left : (xs ys : List ℕ) (i : ℕ) → IsAmong xs i → IsAmong (xs ++ ys) i
among_left xs ys i h = (h.0, front_get xs ys h.0 i h.1)

pub among_right : (xs ys : List ℕ) (i : ℕ) → IsAmong ys i → IsAmong (xs ++ ys) i
among_right [] ys i h = h
among_right (x ∷ xs) ys i h = let r = among_right xs ys i h in (suc r.0, r.1)

pub among_last : (xs : List ℕ) (i : ℕ) → IsAmong (xs ++ i ∷ []) i
among_last xs i = among_right xs (i ∷ []) i (zero, refl)

one_at : (j i k : ℕ) → slice_get (j ∷ []) k ≡ Some i → j ≡ i
one_at j i zero e = same_Some j i e
one_at j i (suc k) e = cc

pub among_one : (j i : ℕ) → IsAmong (j ∷ []) i → j ≡ i
among_one j i h = one_at j i h.0 h.1

pub among_range : (n a i : ℕ) → a ≤ i → i < a + n → IsAmong (range_with_len a n) i
among_range zero a i from to = absurd (omega arith)
among_range (suc n) a i from to = elim (first_or_more a i from) [
  | inl e ↦ (zero, ap (λ j. Some j) e)
  | inr h ↦ (let r = among_range n (a + 1) i (omega arith) (omega arith) in (suc r.0, r.1))
]
  where
    first_or_more : (a i : ℕ) → a ≤ i → (a ≡ i) ⊎ (a < i)
    first_or_more a i from = grind arith

pub in_range : (n a k i : ℕ) → slice_get (range_with_len a n) k ≡ Some i → (a ≤ i) × (i < a + n)
in_range zero a k i e = cc
in_range (suc n) a zero i e = let same : a ≡ i = same_Some a i e in (omega arith, omega arith)
in_range (suc n) a (suc k) i e = let r = in_range n (a + 1) k i e in (omega (arith, r.0), omega (arith, r.1))

pub range_last : (n a j : ℕ) → a + n ≡ j → range_with_len a (suc n) ≡ range_with_len a n ++ j ∷ []
range_last zero a j e = let same : a ≡ j = omega (arith, e) in ap (λ k. k ∷ []) same
range_last (suc n) a j e = ap (λ xs. a ∷ xs) (range_last n (a + 1) j (omega (arith, e)))

-- ---- what holds of each

abbrev pub All : (ℕ → Type 0) → List ℕ → Type 0
All P xs = (k i : ℕ) → slice_get xs k ≡ Some i → P i

pub all_map : (P Q : ℕ → Type 0) → ((i : ℕ) → P i → Q i) → (xs : List ℕ) → All P xs → All Q xs
all_map P Q f xs h k i e = f i (h k i e)

pub all_left : (P : ℕ → Type 0) (xs ys : List ℕ) → All P (xs ++ ys) → All P xs
all_left P xs ys h k i e = let r = among_left xs ys i (k, e) in h r.0 i r.1

pub all_append : (P : ℕ → Type 0) (xs ys : List ℕ) → All P xs → All P ys → All P (xs ++ ys)
all_append P xs ys a b k i e = elim (append_get xs ys k i e) [
  | inl q ↦ a k i q
  | inr q ↦ b q.0 i q.1
]

pub all_one : (P : ℕ → Type 0) (j : ℕ) → P j → All P (j ∷ [])
all_one P j h k i e = subst P (among_one j i (k, e)) h

pub all_last : (P : ℕ → Type 0) (xs : List ℕ) (j : ℕ) → All P (xs ++ j ∷ []) → P j
all_last P xs j h = let r = among_last xs j in h r.0 j r.1

-- of each that is among them
pub at_among : (P : ℕ → Type 0) (xs : List ℕ) (i : ℕ) → All P xs → IsAmong xs i → P i
at_among P xs i h a = h a.0 i a.1

-- ---- items of an iterator

-- the next one is one of them
pub yielded_among : (ys rest all : List ℕ) (more : List ℕ) (x : ℕ) → ys ++ rest ≡ all → rest ≡ x ∷ more → IsAmong all x
yielded_among ys rest all more x whole next = subst (λ xs. IsAmong xs x) whole (among_right ys rest x (subst (λ xs. IsAmong xs x) (sym next) (zero, refl)))

pub either_here : (ys here below : List ℕ) (x : ℕ) → AreAmongEither ys here below → AreAmongEither (ys ++ x ∷ []) (here ++ x ∷ []) below
either_here ys here below x all i h = elim (among_either ys (x ∷ []) i h) [
  | inl q ↦ (elim (all i q) [
    | inl a ↦ inl (among_left here (x ∷ []) i a)
    | inr b ↦ inr b
  ])
  | inr q ↦ inl (among_right here (x ∷ []) i q)
]

pub either_below : (ys here below : List ℕ) (x : ℕ) → AreAmongEither ys here below → AreAmongEither (ys ++ x ∷ []) here (below ++ x ∷ [])
either_below ys here below x all i h = elim (among_either ys (x ∷ []) i h) [
  | inl q ↦ (elim (all i q) [
    | inl a ↦ inl a
    | inr b ↦ inr (among_left below (x ∷ []) i b)
  ])
  | inr q ↦ inr (among_right below (x ∷ []) i q)
]
