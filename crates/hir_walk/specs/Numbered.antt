-- The nodes of a body by their numbers.
use Rattle.std.specs.Prelude.{ℕ, ◌-◌, ◌≡◌, List, length, slice_get, Option, Some, None, slice_index_or}
use Rattle.hir_walk.specs.Words.{RawBody, Schedule, Node, IsNode, position, start, end, the_body}

-- the last entry, or 0
abbrev pub last_or_none : List ℕ → ℕ
last_or_none xs = slice_index_or xs (length xs - 1) 0

-- at each number the position of the node that has it
pub record AreNumbered (b : RawBody) (s : Schedule) (xs : List (Option ℕ)) : Type 0 where
  pub size : length xs ≡ end b s the_body
  pub all : (n : Node) → IsNode b n → slice_get xs (start b s n) ≡ Some (Some (position b n))
  pub each : (k i : ℕ) → slice_get xs k ≡ Some (Some i) → (n : Node) × IsNode b n × (position b n ≡ i) × (start b s n ≡ k)

-- no node has the number k, or the one at this position has it
abbrev pub IsNumber : RawBody → Schedule → ℕ → Option ℕ → Type 0
IsNumber b s k None = (n : Node) → IsNode b n → start b s n ≡ k → ⊥
IsNumber b s k (Some i) = (n : Node) × IsNode b n × (position b n ≡ i) × (start b s n ≡ k)
