-- Places that entries of a list name.
use Rattle.std.specs.Prelude.{ℕ, ◌≡◌, List, slice_get, Option, Some}

-- entry k names the place t
abbrev pub IsNamedAt : List (Option ℕ) → ℕ → ℕ → Type 0
IsNamedAt targets t k = slice_get targets k ≡ Some (Some t)

-- one entry alone names the place t
pub record NamedOnce (targets : List (Option ℕ)) (t : ℕ) : Type 0 where
  pub entry : ℕ
  pub names : IsNamedAt targets t entry
  pub only : (k : ℕ) → IsNamedAt targets t k → k ≡ entry

-- no entry names the place t
abbrev pub IsUnnamed : List (Option ℕ) → ℕ → Type 0
IsUnnamed targets t = (k : ℕ) → IsNamedAt targets t k → ⊥
