-- What a walk through a graph has marked, and what each of its steps does.
use Rattle.std.specs.Prelude.{ℕ, ◌+◌, ◌-◌, ◌≤◌, ◌≡◌, ◌⊎◌, Bool, true, false, List, [], ◌∷◌, ◌++◌, length, get_or, slice_set, take, replicate, sum_by, if◌then◌else◌}
use Rattle.hir_schedule.specs.Graph.{kids_of, Edge}
use Rattle.hir_schedule.specs.declared.graph.Walk.{Walk}

-- which nodes were entered, how many of their children were, their numbers, and the nodes that are open
pub record Visited : Type 0 where
  pub seen : List Bool
  pub next : List ℕ
  pub starts : List ℕ
  pub ends : List ℕ
  pub depths : List ℕ
  pub stack : List ℕ
  pub clock : ℕ

abbrev pub visited_by : Walk → Visited
visited_by w = record {
  seen = w.seen.items;
  next = w.next.items;
  starts = w.starts;
  ends = w.ends;
  depths = w.depths;
  stack =
      w.stack.items;
  clock = w.clock;
}

abbrev pub is_seen : Visited → ℕ → Bool
is_seen m n = get_or m.seen n false

abbrev pub next_of : Visited → ℕ → ℕ
next_of m n = get_or m.next n 0

-- how many nodes were not entered
abbrev pub unseen : List Bool → ℕ
unseen seen = sum_by (λ b. if b then 0 else 1) seen

-- before the walk through n nodes
abbrev pub blank : ℕ → Visited
blank n = record {
  seen = replicate n false;
  next = replicate n 0;
  starts = replicate n 0;
  ends = replicate n 0;
  depths = replicate n 0;
  stack = [];
  clock = 0;
}

-- a node is entered
abbrev pub entered : Visited → ℕ → Visited
entered m n = record m {
  seen = slice_set m.seen n true;
  starts = slice_set m.starts n m.clock;
  depths = slice_set m.depths n (length m.stack);
  stack = m.stack ++ n ∷ [];
  clock = m.clock + 1;
}

-- one more child of a node is entered
abbrev pub advanced : Visited → ℕ → ℕ → Visited
advanced m n c = entered (record m { next = slice_set m.next n (next_of m n + 1) }) c

-- the node n on top is left
abbrev pub departed : Visited → ℕ → Visited
departed m n = record m { ends = slice_set m.ends n m.clock; stack = take (length m.stack - 1) m.stack }

-- there is room for each of n nodes, and the clock counts those that were entered
pub record HasRoomFor (n : ℕ) (m : Visited) : Type 0 where
  pub seen : length m.seen ≡ n
  pub next : length m.next ≡ n
  pub starts : length m.starts ≡ n
  pub ends : length m.ends ≡ n
  pub depths : length m.depths ≡ n
  pub count : m.clock + unseen m.seen ≡ n

-- the node's next child was not entered before, and is now
pub record Advances (kids : List (List ℕ)) (old new : Visited) (n : ℕ) : Type 0 where
  pub child : ℕ
  pub edge : Edge kids n (next_of old n) child
  pub fresh : is_seen old child ≡ false
  pub after : new ≡ advanced old n child

-- the node has no further child, and is left
pub record Departs (kids : List (List ℕ)) (old new : Visited) (n : ℕ) : Type 0 where
  pub all : length (kids_of kids n) ≤ next_of old n
  pub after : new ≡ departed old n

-- the node's next child is entered, or the node is left
abbrev pub MovesOn : List (List ℕ) → Visited → Visited → ℕ → Type 0
MovesOn kids old new n = Advances kids old new n ⊎ Departs kids old new n

-- the node's next child was entered before
pub record MeetsAgain (kids : List (List ℕ)) (old : Visited) (n : ℕ) : Type 0 where
  pub child : ℕ
  pub edge : Edge kids n (next_of old n) child
  pub seen : is_seen old child ≡ true
