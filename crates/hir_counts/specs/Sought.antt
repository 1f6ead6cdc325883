-- What is sought in written types, and what was found.
use Rattle.std.specs.Prelude.{ℕ, ◌<◌, ◌≡◌, List, length, slice_index}
use Rattle.hir_counts.specs.Words.{RawType, RawFacts, most_in, param_bound, wrong_args, hole_at}
use Rattle.hir_counts.specs.declared.standing.Sought.{Sought}
use Rattle.hir_counts.specs.declared.standing.Sought.TheVariants as sought

abbrev pub own_of : RawFacts → Sought → RawType → ℕ
own_of raw sought.Params = param_bound
own_of raw sought.Args = wrong_args raw
own_of raw sought.Holes = hole_at

-- the greatest numbers of the first n types
pub record AreMosts (own : RawType → ℕ) (types : List RawType) (n : ℕ) (xs : List ℕ) : Type 0 where
  pub count : length xs ≡ n
  pub each : (i : ℕ) → i < n → slice_index xs i ≡ most_in own types i

-- the number that was found at type t
unfoldable pub number_in : List ℕ → ℕ → ℕ
number_in xs t = slice_index xs t
