-- What one step along supertraits adds.
use Rattle.std.specs.Prelude.{◌≡◌, ◌≤◌, ◌<◌, ℕ, List, length, slice_get, Option, Some, None}
use Rattle.goal_facts.specs.Words.{TypeAliasId, GenericArg, Term, RawGoal, RawFacts, Asked}
use Rattle.goal_facts.specs.Additions.{Has, AllHaveHeads}
use Rattle.goal_facts.specs.Environment.{SaysAt, IsSuper, IsClosure}
use Rattle.goal_facts.specs.Bounds.{BoundSays}

-- what it says, or that it says nothing
abbrev pub SaysIf : RawFacts → List GenericArg → Term → RawGoal → Option Asked → Type 0
SaysIf raw xs w g (Some d) = SaysAt raw xs w g d
SaysIf raw xs w g None = (d : Asked) → SaysAt raw xs w g d → ⊥

abbrev pub BoundSaysIf : RawFacts → TypeAliasId → List GenericArg → RawGoal → Option Asked → Type 0
BoundSaysIf raw k xs g (Some d) = BoundSays raw k xs g d
BoundSaysIf raw k xs g None = (d : Asked) → BoundSays raw k xs g d → ⊥

-- follows from one that stands between these places
abbrev pub SomeSuper : RawFacts → ℕ → ℕ → List Asked → Asked → Type 0
SomeSuper raw from to ds d = (i : ℕ) × (c : Asked) × (from ≤ i) × (i < to) × (slice_get ds i ≡ Some c) × IsSuper raw c d

-- all that follows in at most `n` steps, of which those before `from` have been gone along
pub record IsLevel (raw : RawFacts) (S : Asked → Type 0) (n from : ℕ) (ds : List Asked) : Type 0 where
  pub closure : IsClosure raw S n ds
  pub supers : (i : ℕ) (c : Asked) → i < from → slice_get ds i ≡ Some c → (d : Asked) → IsSuper raw c d → Has ds d
  pub heads : AllHaveHeads ds
  pub within : from ≤ length ds
