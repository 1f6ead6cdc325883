-- Lists of goals in which each stands once.
use Rattle.std.specs.Prelude.{◌≡◌, ◌⊎◌, ◌<◌, ℕ, List, slice_get, Some}
use Rattle.goal_facts.specs.Words.{Asked, HasHeads}

abbrev pub Has : List Asked → Asked → Type 0
Has ds d = (i : ℕ) × (slice_get ds i ≡ Some d)

abbrev pub AreDistinct : List Asked → Type 0
AreDistinct ds = (i j : ℕ) (d : Asked) → slice_get ds i ≡ Some d → slice_get ds j ≡ Some d → i ≡ j

abbrev pub AllHaveHeads : List Asked → Type 0
AllHaveHeads ds = (i : ℕ) (d : Asked) → slice_get ds i ≡ Some d → HasHeads d.parts

-- the goals that are `P` were put behind those before, but for those that were there
pub record Adds (P : Asked → Type 0) (before after : List Asked) : Type 0 where
  pub stay : (i : ℕ) (d : Asked) → slice_get before i ≡ Some d → slice_get after i ≡ Some d
  pub all : (d : Asked) → P d → Has after d
  pub only : (i : ℕ) (d : Asked) → slice_get after i ≡ Some d → (slice_get before i ≡ Some d) ⊎ P d
  pub once : AreDistinct before → AreDistinct after
  pub heads : AllHaveHeads before → AllHaveHeads after

-- what some entry says; what one of the first `n` says
abbrev pub SomeSays : {X : Type 0} → (ℕ → X → Asked → Type 0) → List X → Asked → Type 0
SomeSays {X} P xs d = (i : ℕ) × (x : X) × (slice_get xs i ≡ Some x) × P i x d

abbrev pub SomeSaysBefore : {X : Type 0} → (ℕ → X → Asked → Type 0) → List X → ℕ → Asked → Type 0
SomeSaysBefore {X} P xs n d = (i : ℕ) × (i < n) × (x : X) × (slice_get xs i ≡ Some x) × P i x d
