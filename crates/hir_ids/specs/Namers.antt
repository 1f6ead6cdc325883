-- Which entries of a list name a place, as they are found.
use Rattle.std.specs.Prelude.{ℕ, ◌<◌, ◌≡◌, List, length, slice_index_or, Option}
use Rattle.hir_ids.specs.Words.{IsNamedAt}
use Rattle.hir_ids.specs.declared.namers.Namers.{Namers}
use Rattle.hir_ids.specs.declared.namers.Namers.TheVariants.{Nobody, One, Several}

-- those that name a place, with entry k too
abbrev pub and_one : Namers → ℕ → Namers
and_one Nobody k = One k
and_one (One j) k = Several
and_one Several k = Several

-- of the first n entries, none names the place t, or entry k alone, or several do
abbrev pub IsNamedBy : List (Option ℕ) → ℕ → ℕ → Namers → Type 0
IsNamedBy targets n t Nobody = (k : ℕ) → k < n → IsNamedAt targets t k → ⊥
IsNamedBy targets n t (One k) =
    (k < n) × IsNamedAt targets t k × ((j : ℕ) → j < n → IsNamedAt targets t j → j ≡ k)
IsNamedBy targets n t Several =
    (j : ℕ) × (k : ℕ) × IsNamedAt targets t j × IsNamedAt targets t k × (j ≡ k → ⊥)

-- for each place below count, which of the first n entries name it
pub record AreNamers (targets : List (Option ℕ)) (n count : ℕ) (xs : List Namers) : Type 0 where
  pub size : length xs ≡ count
  pub each : (t : ℕ) → t < count → IsNamedBy targets n t (slice_index_or xs t Nobody)

abbrev pub IsNobody : Namers → Type 0
IsNobody Nobody = Unit {0}
IsNobody (One k) = ⊥
IsNobody Several = ⊥

abbrev pub IsOne : Namers → Type 0
IsOne Nobody = ⊥
IsOne (One k) = Unit {0}
IsOne Several = ⊥
