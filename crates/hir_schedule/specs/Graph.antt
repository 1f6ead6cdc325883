-- Graphs by the lists of each node's children, and their numbers in the order of a walk from a root.
use Rattle.std.specs.Prelude.{ℕ, ◌+◌, ◌<◌, ◌≡◌, List, [], ◌∷◌, length, get_or, slice_get, slice_index, Option, Some}
use Rattle.std.specs.Option.{option_and_then}
use Rattle.hir_schedule.specs.Words.{Schedule}

-- the children of the node n, in their order
abbrev pub kids_of : List (List ℕ) → ℕ → List ℕ
kids_of kids n = get_or kids n []

-- child k of n is c
abbrev pub Edge : List (List ℕ) → ℕ → ℕ → ℕ → Type 0
Edge kids n k c = slice_get (kids_of kids n) k ≡ Some c

-- each child is a node
abbrev pub KidsFit : List (List ℕ) → Type 0
KidsFit kids = (n k c : ℕ) → Edge kids n k c → c < length kids

-- Where a way leads from the root. It says which child is taken at each step, the last step first.
abbrev pub leads : List (List ℕ) → ℕ → List ℕ → Option ℕ
leads kids root [] = Some root
leads kids root (k ∷ way) = option_and_then (λ n. slice_get (kids_of kids n) k) (leads kids root way)

-- n is reached from the root along exactly one way
pub record OneWay (kids : List (List ℕ)) (root n : ℕ) : Type 0 where
  pub way : List ℕ
  pub there : leads kids root way ≡ Some n
  pub only : (other : List ℕ) → leads kids root other ≡ Some n → other ≡ way

-- each node is reached along exactly one way
pub record IsTreeGraph (kids : List (List ℕ)) (root : ℕ) : Type 0 where
  pub each : (n : ℕ) → n < length kids → OneWay kids root n

abbrev pub start_at : Schedule → ℕ → ℕ
start_at s n = slice_index s.starts n

abbrev pub end_at : Schedule → ℕ → ℕ
end_at s n = slice_index s.ends n

abbrev pub depth_at : Schedule → ℕ → ℕ
depth_at s n = slice_index s.depths n

-- the number after these nodes, where the first has the number `from`
abbrev pub number_after : Schedule → ℕ → List ℕ → ℕ
number_after s from [] = from
number_after s from (c ∷ cs) = number_after s (end_at s c) cs

-- these nodes come one after another, the first with the number `from`
abbrev pub Follow : Schedule → ℕ → List ℕ → Type 0
Follow s from [] = Unit {0}
Follow s from (c ∷ cs) = (start_at s c ≡ from) × Follow s (end_at s c) cs

-- the numbers are those of the walk: a node, its children in their order, and then what comes after it
pub record IsNumbering (kids : List (List ℕ)) (root : ℕ) (s : Schedule) : Type 0 where
  pub starts_size : length s.starts ≡ length kids
  pub ends_size : length s.ends ≡ length kids
  pub depths_size : length s.depths ≡ length kids
  pub first : start_at s root ≡ 0
  pub fits : (n : ℕ) → n < length kids → Follow s (start_at s n + 1) (kids_of kids n)
  pub ends : (n : ℕ) → n < length kids → number_after s (start_at s n + 1) (kids_of kids n) ≡ end_at s n
  pub order : (n : ℕ) → n < length kids → start_at s n < end_at s n
  pub reached : (n : ℕ) → n < length kids → start_at s n < end_at s root
  pub apart : (n m : ℕ) → n < length kids → m < length kids → start_at s n ≡ start_at s m → n ≡ m
  pub top : depth_at s root ≡ 0
  pub below : (n k c : ℕ) → n < length kids → Edge kids n k c → depth_at s c ≡ depth_at s n + 1
