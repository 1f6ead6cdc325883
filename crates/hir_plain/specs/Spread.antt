-- The nodes of a graph from which no way leads to a bad node, and how they are found.
use Rattle.std.specs.Prelude.{ℕ, ◌<◌, ◌≡◌, ◌⊎◌, Bool, true, false, List, [], ◌∷◌, ◌++◌, length, get_or, slice_set, if◌then◌else◌}
use Rattle.hir_plain.specs.Words.{Edge, In, IsMarked}
use Rattle.hir_plain.specs.declared.spread.Spread.{Spread}

-- the node n is not marked
abbrev pub IsUnmarked : List Bool → ℕ → Type 0
IsUnmarked marks n = get_or marks n false ≡ false

-- a way leads from n to a node that is not fine
pub data ComesToBad (kids : List (List ℕ)) (fine : List Bool) : ℕ → Type 0 where
  is_bad : (n : ℕ) → n < length kids → IsUnmarked fine n → ComesToBad kids fine n
  by_child : (n k c : ℕ) → Edge kids n k c → ComesToBad kids fine c → ComesToBad kids fine n

-- marked are the nodes from which none leads to one
pub record AreGood (kids : List (List ℕ)) (fine marks : List Bool) : Type 0 where
  pub size : length marks ≡ length kids
  pub own : (n : ℕ) → IsMarked marks n → IsMarked fine n
  pub children : (n k c : ℕ) → Edge kids n k c → IsMarked marks n → IsMarked marks c
  pub others : (n : ℕ) → n < length kids → IsUnmarked marks n → ComesToBad kids fine n

-- ---- users

-- the users of the node c
abbrev pub users_at : List (List ℕ) → ℕ → List ℕ
users_at users c = get_or users c []

-- for each node, those of the first i nodes that it is a child of
pub record AreUsers (kids : List (List ℕ)) (i : ℕ) (users : List (List ℕ)) : Type 0 where
  pub size : length users ≡ length kids
  pub all : (n k c : ℕ) → n < i → Edge kids n k c → In (users_at users c) n
  pub only : (c n : ℕ) → In (users_at users c) n → (k : ℕ) × Edge kids n k c

-- the node n is one more user of these nodes
pub record AddsUser (old new : List (List ℕ)) (n : ℕ) (cs : List ℕ) : Type 0 where
  pub size : length new ≡ length old
  pub kept : (c m : ℕ) → In (users_at old c) m → In (users_at new c) m
  pub added : (c : ℕ) → In cs c → In (users_at new c) n
  pub only : (c m : ℕ) → In (users_at new c) m → In (users_at old c) m ⊎ ((m ≡ n) × In cs c)

-- ---- marks

-- which nodes are marked still, and the nodes that are not whose users are to be looked at
pub record Marks : Type 0 where
  pub good : List Bool
  pub waiting : List ℕ

abbrev pub marks_of : Spread → Marks
marks_of s = record { good = s.good.items; waiting = s.waiting.items }

-- the node n loses its mark, if it has it still
abbrev pub unmarked : Marks → ℕ → Marks
unmarked m n = if get_or m.good n false then record { good = slice_set m.good n false; waiting = m.waiting ++ n ∷ [] } else m
