-- Goals that nodes need, in their order, and what an inspector is told of them.
use Rattle.std.specs.Prelude.{◌≡◌, ◌++◌, ℕ, zero, suc, List, [], ◌∷◌, length, slice_get, Option, Some, None}
use Rattle.std.proofs.Common.{◌⊎◌, inl, inr}
use denote.Ref.{MutBor}
use Rattle.infer_needs.specs.Words.{DefWithBodyId, ExprOrPatId, Goal, RawBody, RawFacts, Asked, System, Answer, Proof, asked_goal, IsAnswer, IsSystemOf, IsChild, InferenceResult, needs_at, pat_needs_at, scope_item, IsNeeded, Given, IsWritten, GenericDefId, GoalReads}
use Rattle.hir_types.specs.declared.goal.Goal.TheVariants as goal
use Rattle.infer_needs.specs.FitTerms.{GoalFitsIn}

-- ---- what nodes need

-- what the first `n` expressions need, in their order
abbrev pub first_needs : RawFacts → RawBody → InferenceResult → ℕ → List Asked
first_needs raw b r zero = []
first_needs raw b r (suc n) = first_needs raw b r n ++ needs_at raw b r n

-- what the first `n` patterns need, in their order
abbrev pub first_pat_needs : RawFacts → InferenceResult → ℕ → List Asked
first_pat_needs raw r zero = []
first_pat_needs raw r (suc n) = first_pat_needs raw r n ++ pat_needs_at raw r n

-- expressions first
abbrev pub all_needs : RawFacts → RawBody → InferenceResult → List Asked
all_needs raw b r = first_needs raw b r (length b.exprs) ++ first_pat_needs raw r (length b.pats)

-- ---- what is told

-- these goals, each with its answer at the depth
abbrev pub AreAnswered : System → ℕ → List Asked → List (Goal × Answer) → Type 0
AreAnswered f n [] [] = Unit {0}
AreAnswered f n (a ∷ xs) (t ∷ ts) = (asked_goal t.0 ≡ a) × IsAnswer f n a t.1 × AreAnswered f n xs ts
AreAnswered f n [] (t ∷ ts) = ⊥
AreAnswered f n (a ∷ xs) [] = ⊥

-- they are listed behind the others
pub record ListsAnswers (f : System) (n : ℕ) (xs : List Asked) (before after : List (Goal × Answer)) : Type 0 where
  pub told : List (Goal × Answer)
  pub answers : AreAnswered f n xs told
  pub behind : after ≡ before ++ told

-- ---- what is proved though no other proof asks for it

-- the goal says that a trait is implemented
abbrev pub IsAboutTrait : Goal → Type 0
IsAboutTrait (goal.Trait t) = Unit {0}
IsAboutTrait (goal.Projection k xs t) = ⊥

abbrev pub IsOneOf : List Asked → Asked → Type 0
IsOneOf xs a = (i : ℕ) × (slice_get xs i ≡ Some a)

-- one of these reads so
abbrev pub IsReadOf : System → ℕ → List Asked → Asked → Type 0
IsReadOf f n xs a = (b : Asked) × IsOneOf xs b × GoalReads f n b a

-- it fits under the parameters of the item, and no hole is in it
pub record IsRightIn (raw : RawFacts) (item : GenericDefId) (a : Asked) : Type 0 where
  pub fits : GoalFitsIn raw item a
  pub written : IsWritten a.parts

-- the goal is one of these; or it is about an associated type, and is what one of these reads as, or fits
abbrev pub IsRootOf : RawFacts → GenericDefId → System → List Asked → Goal → Type 0
IsRootOf raw item f xs g = IsOneOf xs (asked_goal g)
    ⊎ ((IsAboutTrait g → ⊥) × (IsReadOf f raw.limits.goal_depth xs (asked_goal g) ⊎ IsRightIn raw item (asked_goal g)))

-- each proof is asked for by another, or its goal is such a root
pub record AreRootsOf (raw : RawFacts) (item : GenericDefId) (f : System) (xs : List Asked) (ps : List Proof) : Type 0 where
  pub each : (k : ℕ) (x : Proof) → slice_get ps k ≡ Some x → IsChild ps k ⊎ IsRootOf raw item f xs x.goal

-- so it is of the last where it was of the first, if these are among the goals
pub record AddsRootsOf (raw : RawFacts) (item : GenericDefId) (f : System) (ys : List Asked) (ps qs : List Proof) : Type 0 where
  pub later : (xs : List Asked) → ((a : Asked) → IsOneOf ys a → IsOneOf xs a) → AreRootsOf raw item f xs ps → AreRootsOf raw item f xs qs

-- each proof of such a goal that the table lists is asked for by another, or a node needs its goal
abbrev pub RootsAreNeeded : Given → InferenceResult → Type 0
RootsAreNeeded g r = (k : ℕ) (x : Proof) → slice_get r.proofs k ≡ Some x → IsAboutTrait x.goal → IsChild r.proofs k
    ⊎ ((n : ExprOrPatId) × IsNeeded g r n (asked_goal x.goal))

abbrev pub WasTold : List (Goal × Answer) → Asked → Type 0
WasTold ts a = (i : ℕ) × (t : Goal × Answer) × (slice_get ts i ≡ Some t) × (asked_goal t.0 ≡ a)

-- each proof of such a goal is asked for by another, or its goal was told
abbrev pub RootsAreTold : List Proof → List (Goal × Answer) → Type 0
RootsAreTold ps ts = (k : ℕ) (x : Proof) → slice_get ps k ≡ Some x → IsAboutTrait x.goal → IsChild ps k ⊎ WasTold ts (asked_goal x.goal)

-- ---- of a body

-- these are all that nodes of the body need, each with its answer; and no other goal about a trait has a proof that no proof asks for
pub record AreAllAnswered (d : DefWithBodyId) (g : Given) (r : InferenceResult) (ts : List (Goal × Answer)) : Type 0 where
  pub system : System
  pub of_item : IsSystemOf g.scope.facts (scope_item g.scope.facts d) system
  pub answers : AreAnswered system g.scope.facts.limits.goal_depth (all_needs g.scope.facts g.body r) ts
  pub roots : RootsAreTold r.proofs ts

-- whose list this is was told of all that nodes of the body need, of each once, with its answer, and of nothing else
pub record HearsAll (d : DefWithBodyId) (g : Given) (r : InferenceResult) (before after : List (Goal × Answer)) : Type 0 where
  pub told : List (Goal × Answer)
  pub answers : AreAllAnswered d g r told
  pub behind : after ≡ before ++ told

-- one that is lent for a call alone, where the call ends
abbrev pub at_exit : {I : Type 0} → Unit {0} ⊎ ((MutBor I × Unit {0}) ⊎ ⊥) → Option (MutBor I)
at_exit (inl u) = None
at_exit (inr (inl p)) = Some p.0
at_exit (inr (inr x)) = absurd x

-- the inspector, where there is one, is the one that was lent, and was told so
abbrev pub IsToldAll : {I : Type 0} → (I → List (Goal × Answer)) → DefWithBodyId → Given → InferenceResult → Option (MutBor I)
    → Option (MutBor I) → Type 0
IsToldAll list d g r None after = after ≡ None
IsToldAll list d g r (Some i) None = ⊥
IsToldAll list d g r (Some i) (Some j) = (j.ghost_name ≡ i.ghost_name) × HearsAll d g r (list i.now) (list j.now)
