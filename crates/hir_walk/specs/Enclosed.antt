-- The nodes that enclose a place of the walk.
use Rattle.std.specs.Prelude.{ℕ, ◌<◌, ◌≤◌, ◌≡◌, List, slice_get, Option, Some, None}
use Rattle.std.specs.List.Sorted.{IsNonDecreasingBy}
use Rattle.hir_walk.specs.Words.{RawBody, Schedule, Node, IsNode, position, start, end}
use Rattle.hir_walk.specs.declared.enclosing.Enclosed.{Enclosed}

-- the position and the numbers of this node
pub record IsOf (b : RawBody) (s : Schedule) (n : Node) (x : Enclosed) : Type 0 where
  pub is_node : IsNode b n
  pub at : position b n ≡ x.node
  pub from : start b s n ≡ x.start
  pub to : end b s n ≡ x.end

-- the nodes of whose numbers P holds, in the order of the walk
pub record AreNodes (b : RawBody) (s : Schedule) (P : ℕ → ℕ → Type 0) (xs : List Enclosed) : Type 0 where
  pub each : (i : ℕ) (x : Enclosed) → slice_get xs i ≡ Some x → (n : Node) × IsOf b s n x × P x.start x.end
  pub all : (n : Node) → IsNode b n → P (start b s n) (end b s n) → (i : ℕ) × (x : Enclosed) × (slice_get xs i ≡ Some x) × IsOf b s n x
  pub in_order : IsNonDecreasingBy (λ x. x.start) xs

-- begun before the number k, and not ended before it
abbrev pub IsOpen : ℕ → ℕ → ℕ → Type 0
IsOpen k from to = (from < k) × (k ≤ to)

-- begun before the number k, which is among theirs
abbrev pub IsAround : ℕ → ℕ → ℕ → Type 0
IsAround k from to = (from < k) × (k < to)

abbrev pub AreOpen : RawBody → Schedule → ℕ → List Enclosed → Type 0
AreOpen b s k = AreNodes b s (IsOpen k)

abbrev pub AreAround : RawBody → Schedule → ℕ → List Enclosed → Type 0
AreAround b s k = AreNodes b s (IsAround k)

-- n begins at the number m or before it, and the number k is among its numbers
abbrev pub IsAroundFrom : RawBody → Schedule → ℕ → ℕ → Node → Type 0
IsAroundFrom b s k m n = IsNode b n × IsAround k (start b s n) (end b s n) × (start b s n ≤ m)

-- the last of these, where there is one
abbrev pub IsInnermost : RawBody → Schedule → ℕ → ℕ → Option ℕ → Type 0
IsInnermost b s k m None = (n : Node) → IsAroundFrom b s k m n → ⊥
IsInnermost b s k m (Some i) =
    (n : Node) × IsAroundFrom b s k m n × (position b n ≡ i) × ((o : Node) → IsAroundFrom b s k m o → start b s o ≤ start b s n)
