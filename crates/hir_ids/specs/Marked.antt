-- The marks of the written types that hold a projection.
use Rattle.std.specs.Prelude.{ℕ, ◌≡◌, ◌<◌, ◌↔◌, Bool, false, List, length, get_or, IsTrue}
use Rattle.hir_ids.specs.Words.{RawType, HoldsProjection}

-- of the first n types those are marked that hold one
pub record AreMarked (types : List RawType) (n : ℕ) (marks : List Bool) : Type 0 where
  pub size : length marks ≡ n
  pub each : (t : ℕ) → t < n → IsTrue (get_or marks t false) ↔ HoldsProjection types t
