-- Counting the numbers of which something holds.
use Rattle.std.proofs.Common.{◌≡◌, ℕ, ◌+◌, ◌<◌, ◌≤◌, below_more, arith}

-- so many of the first numbers were counted, and all of them only where it holds of each
pub record IsCount (P : ℕ → Type 0) (found count : ℕ) : Type 0 where
  pub most : found ≤ count
  pub all : found ≡ count → (k : ℕ) → k < count → P k

pub is_count_more : (P : ℕ → Type 0) (found count : ℕ) → IsCount P found count → P count → IsCount P (found + 1) (count + 1)
is_count_more P found count h here = record {
  most = let most = h.most in omega (arith, most);
  all = λ e. let same : found ≡ count = omega arith in below_more P count (h.all same) here;
}

pub is_count_less : (P : ℕ → Type 0) (found count : ℕ) → IsCount P found count → IsCount P found (count + 1)
is_count_less P found count h = record {
  most = let most = h.most in omega (arith, most);
  all = λ e. let most = h.most in absurd (omega (arith, most));
}

-- at the end it holds of each number below, where all were counted
pub is_count_all : (P : ℕ → Type 0) (found at count : ℕ) → IsCount P found at → at ≡ count → found ≡ count → (k : ℕ) → k < count → P k
is_count_all P found at count h e full k lt =
    let same : found ≡ at = omega arith in
    let inside : k < at = omega arith in
    h.all same k inside
