-- Obligations that sleep on the holes of their goals, and which of them are woken.
use Rattle.std.specs.Prelude.{◌≡◌, ◌⊎◌, ◌≤◌, ◌<◌, ℕ, true, false, Bool, List, [], length, get_or, slice_get, Some}
use Rattle.infer_goals.specs.Words.{Hole, Term, occurs, hole_number, Binding, bound_hole}

-- ---- lists of numbers

abbrev pub IsAmong : List ℕ → ℕ → Type 0
IsAmong xs i = (k : ℕ) × (slice_get xs k ≡ Some i)

-- ---- on which holes they sleep

-- the obligation is in the list of the hole of this number
abbrev pub IsListed : List (List ℕ) → ℕ → ℕ → Type 0
IsListed lists n = IsAmong (get_or lists n [])

-- there is a list for the hole of this number, and each list is as before
pub record HasRoom (lists : List (List ℕ)) (n : ℕ) (lists' : List (List ℕ)) : Type 0 where
  pub room : n < length lists'
  pub same : (m : ℕ) → get_or lists' m [] ≡ get_or lists m []

-- none is taken off a list
abbrev pub KeepsListed : List (List ℕ) → List (List ℕ) → Type 0
KeepsListed lists lists' = (n i : ℕ) → IsListed lists n i → IsListed lists' n i

-- the obligation is in the list of each hole of the term
abbrev pub ListsHoles : List (List ℕ) → Term → ℕ → Type 0
ListsHoles lists t i = (k : Hole) → occurs k t ≡ true → IsListed lists (hole_number k) i

-- ---- which sleep

abbrev pub Sleeps : List Bool → ℕ → Type 0
Sleeps asleep i = get_or asleep i false ≡ true

-- this one sleeps too
pub record FallsAsleep (asleep : List Bool) (at : ℕ) (asleep' : List Bool) : Type 0 where
  pub sleeps : Sleeps asleep' at
  pub kept : (i : ℕ) → Sleeps asleep i → Sleeps asleep' i
  pub few : (n : ℕ) → at < n → length asleep ≤ n → length asleep' ≤ n

-- each of these that slept sleeps no more, and is to be looked at; none else is woken
pub record AreWoken (P : ℕ → Type 0) (asleep : List Bool) (todo : List ℕ) (asleep' : List Bool) (todo' : List ℕ) : Type 0 where
  pub long : length asleep' ≡ length asleep
  pub kept : (i : ℕ) → IsAmong todo i → IsAmong todo' i
  pub each : (i : ℕ) → Sleeps asleep i → IsAmong todo' i ⊎ (Sleeps asleep' i × (P i → ⊥))
  pub only : (i : ℕ) → IsAmong todo' i → IsAmong todo i ⊎ (i < length asleep)

-- it is in the list of the hole that was bound there
abbrev pub IsStirredAt : List (List ℕ) → List Binding → ℕ → ℕ → Type 0
IsStirredAt lists bs place i = (b : Binding) × (slice_get bs place ≡ Some b) × IsListed lists (hole_number (bound_hole b)) i

-- at one of these places
abbrev pub IsStirred : List (List ℕ) → List Binding → ℕ → ℕ → ℕ → Type 0
IsStirred lists bs from to i = (place : ℕ) × (from ≤ place) × (place < to) × IsStirredAt lists bs place i
