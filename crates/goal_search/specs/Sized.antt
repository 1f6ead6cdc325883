-- What has a size, as the search finds it.
use Rattle.std.specs.Prelude.{ℕ, Option, Some, None}
use Rattle.goal_search.specs.Words.{Term, ReadsAs, Kind, implements, System, IsKnown, only, SomeOf, HasSource, HasNoSource, answers, SizedYes, SizedNo, known_below}
use Rattle.goal_search.specs.declared.answer.Answer.{Answer}
use Rattle.goal_search.specs.Searching.{Decides}

-- that a parameter, an alias or an opaque type has a size: there is a source of the goal of this kind, where one is asked
abbrev pub IsSaid : System → ℕ → Option Kind → Term → Type 0
IsSaid f n None t = ⊥
IsSaid f n (Some c) t = IsKnown (only t) × HasSource f (answers f n).Alias (known_below f n) c (only t)

-- there is none
abbrev pub IsDenied : System → ℕ → Option Kind → Term → Type 0
IsDenied f n None t = ⊥
IsDenied f n (Some c) t = IsKnown (only t) × HasNoSource f (answers f n).Alias (known_below f n) c (only t)

-- the type has a size, or has none, by a walk over at most `left` types, and this is the answer
abbrev pub IsSizedBy : System → ℕ → Option Kind → ℕ → Term → Type 0
IsSizedBy f n o left t = SizedYes f (answers f n).Alias (IsSaid f n o) left t

abbrev pub IsUnsizedBy : System → ℕ → Option Kind → ℕ → Term → Type 0
IsUnsizedBy f n o left t = SizedNo f (answers f n).Alias (IsDenied f n o) left t

abbrev pub WalkIs : System → ℕ → Option Kind → ℕ → Term → Answer → Type 0
WalkIs f n o left t a = Decides (IsSizedBy f n o left t) (IsUnsizedBy f n o left t) a

-- the type reads as one that has a size, by a walk that asks for a source of one of the traits of types with a size. Where the
-- system has no such trait, no parameter, alias or opaque type has a size
abbrev pub IsSizedAt : System → ℕ → Term → Type 0
IsSizedAt f n t =
    (u : Term) × ReadsAs (answers f n).Alias t u
    × SizedYes f (answers f n).Alias
    (λ x. IsKnown (only x) × SomeOf (λ id. HasSource f (answers f n).Alias (known_below f n) (implements id) (only x)) f.sized) f.tail u
