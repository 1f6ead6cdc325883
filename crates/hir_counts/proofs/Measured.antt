-- How deep and how large written types are.
use Rattle.std.proofs.Common.{◌≡◌, ◌<◌, ◌≤◌, ◌+◌, ℕ, List, [], ◌∷◌, length, get_or, map, max, min, sum, drop, ap, arith}
use Rattle.std.specs.Prelude.{fold}
use Rattle.std.proofs.Math.ListN.{drop_of_length-le}
use Rattle.hir_counts.specs.Words.{TypeRefId, most}
use Rattle.hir_counts.proofs.Drops.{drop_at}

-- what remains of a greatest number
pub record Greatest (f : TypeRefId → ℕ) (ts : List TypeRefId) (i so_far : ℕ) : Type 0 where
  pub whole : max so_far (most (map f (drop i ts))) ≡ most (map f ts)

pub greatest_none : (f : TypeRefId → ℕ) (ts : List TypeRefId) → Greatest f ts 0 0
greatest_none f ts = record { whole = omega arith }

pub greatest_more : (f : TypeRefId → ℕ) (ts : List TypeRefId) (i a b : ℕ) (d : TypeRefId) → Greatest f ts i a → i < length ts → b ≡ max a (f (get_or ts i d)) → Greatest f ts (i + 1) b
greatest_more f ts i a b d h lt e =
    let w : max a (max (f (get_or ts i d)) (most (map f (drop (i + 1) ts)))) ≡ most (map f ts) = rw (drop_at ts i d lt) at h.whole in
    record { whole = omega arith }

pub greatest_all : (f : TypeRefId → ℕ) (ts : List TypeRefId) (i a : ℕ) → Greatest f ts i a → length ts ≤ i → a ≡ most (map f ts)
greatest_all f ts i a h le = let w : max a 0 ≡ most (map f ts) = rw (drop_of_length-le ts le) at h.whole in omega arith

fold_from : (a : ℕ) (xs : List ℕ) → fold ◌+◌ a xs ≡ a + fold ◌+◌ 0 xs
fold_from a [] = omega arith
fold_from a (x ∷ xs) = let p : fold ◌+◌ (a + x) xs ≡ (a + x) + fold ◌+◌ 0 xs = fold_from (a + x) xs in let q : fold ◌+◌ (0 + x) xs ≡ (0 + x) + fold ◌+◌ 0 xs = fold_from (0 + x) xs in omega arith

pub sum-cons : (x : ℕ) (xs : List ℕ) → sum (x ∷ xs) ≡ x + sum xs
sum-cons x xs = let q : fold ◌+◌ (0 + x) xs ≡ (0 + x) + fold ◌+◌ 0 xs = fold_from (0 + x) xs in omega (arith, q)

-- what remains of a capped sum
pub record Summed (bound : ℕ) (f : TypeRefId → ℕ) (ts : List TypeRefId) (i so_far : ℕ) : Type 0 where
  pub whole : min bound (so_far + sum (map f (drop i ts))) ≡ min bound (sum (map f ts))
  pub small : so_far ≤ bound

pub summed_none : (bound : ℕ) (f : TypeRefId → ℕ) (ts : List TypeRefId) → Summed bound f ts 0 0
summed_none bound f ts = record { whole = ap (min bound) (omega arith); small = omega arith }

pub summed_more : (bound : ℕ) (f : TypeRefId → ℕ) (ts : List TypeRefId) (i a b : ℕ) (d : TypeRefId) → Summed bound f ts i a → i < length ts → b ≡ min bound (a + f (get_or ts i d)) → Summed bound f ts (i + 1) b
summed_more bound f ts i a b d h lt e =
    let w : min bound (a + sum (map f (get_or ts i d ∷ drop (i + 1) ts))) ≡ min bound (sum (map f ts)) = rw (drop_at ts i d lt) at h.whole in
    let s : sum (map f (get_or ts i d ∷ drop (i + 1) ts)) ≡ f (get_or ts i d) + sum (map f (drop (i + 1) ts)) = sum-cons (f (get_or ts i d)) (map f (drop (i + 1) ts)) in
    record { whole = omega arith; small = omega arith }

pub summed_all : (bound : ℕ) (f : TypeRefId → ℕ) (ts : List TypeRefId) (i a : ℕ) → Summed bound f ts i a → length ts ≤ i → a ≡ min bound (sum (map f ts))
summed_all bound f ts i a h le = let w : min bound (a + 0) ≡ min bound (sum (map f ts)) = rw (drop_of_length-le ts le) at h.whole in let s : a ≤ bound = h.small in omega arith
