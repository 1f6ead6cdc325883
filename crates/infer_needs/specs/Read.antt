-- What goals read as.
use Rattle.std.specs.Prelude.{ℕ, List, [], ◌∷◌, Option, Some, None, Bool, false, true}
use Rattle.infer_needs.specs.Words.{Goal, RawFacts, Asked, System, Proof, asked_goal, AddsProofs, IsWritten, GoalReads, GenericDefId, Scope, Ty, IsKnownAs}
use Rattle.infer_needs.specs.Judged.{HasProofOf}
use Rattle.infer_needs.specs.Told.{AddsRootsOf}

-- it reads as this one, or as none
abbrev pub IsGoalRead : System → ℕ → Asked → Option Goal → Type 0
IsGoalRead f n a (Some b) = GoalReads f n a (asked_goal b)
IsGoalRead f n a None = (b : Asked) → GoalReads f n a b → ⊥

-- what it reads as is without holes
abbrev pub IsWrittenIf : Option Goal → Type 0
IsWrittenIf (Some b) = IsWritten (asked_goal b).parts
IsWrittenIf None = Unit {0}

-- the type reads as one that can stand in a body in this scope, or as none
abbrev pub IsKnownIf : Scope → System → ℕ → Ty → Bool → Type 0
IsKnownIf sc f n t true = (u : Ty) × IsKnownAs sc f n t (Some u)
IsKnownIf sc f n t false = IsKnownAs sc f n t None

-- proofs come behind, and one of them all is of what the goal reads as
pub record AddsProofOf (raw : RawFacts) (item : GenericDefId) (f : System) (a b : Asked) (ps qs : List Proof) : Type 0 where
  pub adds : AddsProofs raw f ps qs
  pub roots : AddsRootsOf raw item f (a ∷ []) ps qs
  pub has : HasProofOf qs b
