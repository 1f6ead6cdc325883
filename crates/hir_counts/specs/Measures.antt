-- Measures of the written types, of each by those of its parts.
use Rattle.std.specs.Prelude.{ℕ, ◌+◌, ◌<◌, ◌≡◌, List, length, map, sum, min, slice_index}
use Rattle.hir_counts.specs.Words.{RawType, Ty, most, type_parts, lowered}

-- what is measured of a type, where f t is measured of type t of the list
abbrev pub measured_by : (List ℕ → ℕ) → (ℕ → ℕ) → RawType → ℕ
measured_by of_list f x = of_list (map (λ t. f t.0) (type_parts x)) + 1

-- how many levels a type has, where type t of the list has f t
abbrev pub depth_by : (ℕ → ℕ) → RawType → ℕ
depth_by = measured_by most

-- how many types a type is written with, where type t of the list is written with f t
abbrev pub size_by : (ℕ → ℕ) → RawType → ℕ
size_by = measured_by sum

-- the measures of the first n types, and the cap for each above it
pub record AreMeasures (cap : ℕ) (measure : Ty → ℕ) (types : List RawType) (n : ℕ) (xs : List ℕ) : Type 0 where
  pub count : length xs ≡ n
  pub each : (i : ℕ) → i < n → slice_index xs i ≡ min cap (measure (lowered types i))
