-- What stands in written types, of each by what stands in its parts.
use Rattle.std.specs.Prelude.{ℕ, zero, suc, ◌+◌, ◌<◌, ◌≡◌, ◌==◌, max, List, length, map, slice_get, Option, Some, None, if◌then◌else◌}
use Rattle.hir_facts.specs.Words.{TypeRefId, most, RawType, RawAdt, RawFacts, alias_params_by, has_params, type_parts}
use Rattle.hir_raw.specs.declared.raw.RawType.TheVariants as type

-- the greatest number at a type and at all that stands in it, where that of type t of the list is f t
abbrev pub most_by : (RawType → ℕ) → (ℕ → ℕ) → Option RawType → ℕ
most_by own f None = 0
most_by own f (Some x) = max (own x) (most (map (λ t. f t.0) (type_parts x)))

-- that of type t, over parts at most n steps below it
unfoldable pub most_within : (RawType → ℕ) → ℕ → List RawType → ℕ → ℕ
most_within own zero types t = 0
most_within own (suc n) types t = most_by own (most_within own n types) (slice_get types t)

-- that of type t: parts come before it, so they are fewer than t steps below
abbrev pub most_in : (RawType → ℕ) → List RawType → ℕ → ℕ
most_in own types t = most_within own (suc t) types t

-- ---- what is sought

-- one more than the number of a parameter
abbrev pub param_bound : RawType → ℕ
param_bound (type.Param n) = n + 1
param_bound type.Bool = 0
param_bound type.Char = 0
param_bound (type.Integer i) = 0
param_bound (type.Tuple ts) = 0
param_bound (type.Adt a ts) = 0
param_bound (type.Projection a ts) = 0
param_bound type.Hole = 0
param_bound type.Other = 0

-- 1 where the arguments are not as many as the parameters
abbrev pub wrong_count : Option RawAdt → List TypeRefId → ℕ
wrong_count None ts = 1
wrong_count (Some a) ts = if length a.params == length ts then 0 else 1

-- likewise, of an associated type those of its trait
abbrev pub wrong_alias_count : Option ℕ → List TypeRefId → ℕ
wrong_alias_count params ts = if has_params params (length ts) then 0 else 1

abbrev pub wrong_args : RawFacts → RawType → ℕ
wrong_args raw (type.Adt a ts) = wrong_count (slice_get raw.adts a.0) ts
wrong_args raw (type.Projection a ts) = wrong_alias_count (alias_params_by raw (slice_get raw.aliases a.0)) ts
wrong_args raw type.Bool = 0
wrong_args raw type.Char = 0
wrong_args raw (type.Integer i) = 0
wrong_args raw (type.Tuple ts) = 0
wrong_args raw (type.Param n) = 0
wrong_args raw type.Hole = 0
wrong_args raw type.Other = 0

-- 1 at `_`
abbrev pub hole_at : RawType → ℕ
hole_at type.Hole = 1
hole_at type.Bool = 0
hole_at type.Char = 0
hole_at (type.Integer i) = 0
hole_at (type.Tuple ts) = 0
hole_at (type.Adt a ts) = 0
hole_at (type.Projection a ts) = 0
hole_at (type.Param n) = 0
hole_at type.Other = 0

-- the parameters that stand in each written type are below this
abbrev pub params_in : RawFacts → ℕ → ℕ
params_in raw = most_in param_bound raw.types

-- 0 where all argument lists in a written type are as many as the parameters
abbrev pub wrongs_in : RawFacts → ℕ → ℕ
wrongs_in raw = most_in (wrong_args raw) raw.types

-- 0 where no `_` stands in a written type
abbrev pub holes_in : RawFacts → ℕ → ℕ
holes_in raw = most_in hole_at raw.types

-- no `_` stands in a written type
abbrev pub HasNoHole : List RawType → TypeRefId → Type 0
HasNoHole types w = most_in hole_at types w.0 ≡ 0
