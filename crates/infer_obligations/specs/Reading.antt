-- What an associated type that a goal is about reads as, made equal with the goal's type.
use Rattle.std.specs.Prelude.{◌≡◌, ℕ, zero, suc, List, length, map, slice_get, Option, Some}
use Rattle.infer_obligations.specs.Words.{Goal, TypeAliasId, GenericArg, Ty, bindings, resolved_type, asked_goal, IsTypeRead, IsSystemOf, system, needs_at, pat_needs_at, IsInHand, Given, InferenceContext, OnlyBinds, SameOrDiffer, Settles}
use Rattle.hir_types.specs.declared.goal.Goal.TheVariants as goal
use Rattle.hir_types.specs.declared.ty.Ty.TheVariants as ty
use Rattle.infer_obligations.specs.Selection.{SelectsInWalk}

-- the two were made equal, or differ, where both are such types; and nothing is recorded
pub record UnifiesInHand (g : Given) (t u : Ty) (old new : InferenceContext) : Type 0 where
  pub binds : OnlyBinds g old new
  pub settled : IsInHand g.scope old.goals.table t → IsInHand g.scope old.goals.table u → SameOrDiffer new t u

-- ---- what associated types are

-- The type was made equal with what the associated type reads as, with what is known of its holes, if that is a type and both can be
-- written in the body; nothing is recorded.
pub record ReadsAlias (g : Given) (alias t : Ty) (old new : InferenceContext) : Type 0 where
  pub of_item : IsSystemOf old.goals.sources.facts old.goals.sources.item (system old.goals.sources.sources)
  pub found : Option Ty
  pub is : IsTypeRead (system old.goals.sources.sources) old.goals.sources.facts.limits.goal_depth (resolved_type old.goals.table alias)
      found
  pub made : (u : Ty) → found ≡ Some u → UnifiesInHand g (resolved_type old.goals.table t) u old new
  pub binds : OnlyBinds g old new

-- so was the type of a goal about an associated type
pub record ReadsGoal (g : Given) (q : Goal) (old new : InferenceContext) : Type 0 where
  pub binds : OnlyBinds g old new
  pub reads : (a : TypeAliasId) (xs : List GenericArg) (t : Ty) → q ≡ goal.Projection a xs t → ReadsAlias g (ty.Projection a xs) t old new

-- so were those of the first goals of these, one after another
abbrev pub ReadsFirst : Given → List Goal → ℕ → InferenceContext → InferenceContext → Type 0
ReadsFirst g qs zero old new = new ≡ old
ReadsFirst g qs (suc n) old new =
    (mid : InferenceContext) × ReadsFirst g qs n old mid × ((q : Goal) → slice_get qs n ≡ Some q → ReadsGoal g q mid new)

pub record ReadsEach (g : Given) (qs : List Goal) (old new : InferenceContext) : Type 0 where
  pub binds : OnlyBinds g old new
  pub reads : ReadsFirst g qs (length qs) old new

-- so they were where nothing was known of the type
pub record ReadsFor (g : Given) (qs : List Goal) (t : Ty) (old new : InferenceContext) : Type 0 where
  pub binds : OnlyBinds g old new
  pub reads : (n : ℕ) → resolved_type old.goals.table t ≡ ty.Var n → ReadsEach g qs old new

-- goals were selected, these were read, and goals were selected
pub record SelectsAndReads (g : Given) (qs : List Goal) (old new : InferenceContext) : Type 0 where
  pub selected : InferenceContext
  pub selects : SelectsInWalk g old selected
  pub read : InferenceContext
  pub reads : ReadsEach g qs selected read
  pub again : SelectsInWalk g read new
  pub binds : OnlyBinds g old new

-- ---- once the body is walked

-- what the expression of this number needs was read, at the type that is recorded
pub record ReadsPath (g : Given) (n : ℕ) (old new : InferenceContext) : Type 0 where
  pub needed : List Goal
  pub are : map asked_goal needed ≡ needs_at g.scope.facts g.body old.result n
  pub reads : ReadsEach g needed old new

-- so was what the first expressions need, one after another
abbrev pub ReadsFirstPaths : Given → ℕ → InferenceContext → InferenceContext → Type 0
ReadsFirstPaths g zero old new = new ≡ old
ReadsFirstPaths g (suc n) old new = (mid : InferenceContext) × ReadsFirstPaths g n old mid × ReadsPath g n mid new

pub record ReadsPaths (g : Given) (n : ℕ) (old new : InferenceContext) : Type 0 where
  pub binds : OnlyBinds g old new
  pub reads : ReadsFirstPaths g n old new

-- what the pattern of this number needs was read, at the item that is recorded
pub record ReadsPat (g : Given) (n : ℕ) (old new : InferenceContext) : Type 0 where
  pub needed : List Goal
  pub are : map asked_goal needed ≡ pat_needs_at g.scope.facts old.result n
  pub reads : ReadsEach g needed old new

-- so was what the first patterns need, one after another
abbrev pub ReadsFirstPats : Given → ℕ → InferenceContext → InferenceContext → Type 0
ReadsFirstPats g zero old new = new ≡ old
ReadsFirstPats g (suc n) old new = (mid : InferenceContext) × ReadsFirstPats g n old mid × ReadsPat g n mid new

pub record ReadsPats (g : Given) (n : ℕ) (old new : InferenceContext) : Type 0 where
  pub binds : OnlyBinds g old new
  pub reads : ReadsFirstPats g n old new

-- what all expressions need was read, and then what all patterns need
abbrev pub ReadsAll : Given → InferenceContext → InferenceContext → Type 0
ReadsAll g old new = (mid : InferenceContext) × ReadsPaths g (length g.body.exprs) old mid × ReadsPats g (length g.body.pats) mid new

-- so many times
abbrev pub ReadsTimes : Given → ℕ → InferenceContext → InferenceContext → Type 0
ReadsTimes g zero old new = new ≡ old
ReadsTimes g (suc n) old new = (mid : InferenceContext) × ReadsTimes g n old mid × ReadsAll g mid new

-- again and again, and the last time bound no hole
pub record ReadsOn (g : Given) (old new : InferenceContext) : Type 0 where
  pub binds : OnlyBinds g old new
  pub times : ℕ
  pub before : InferenceContext
  pub first : ReadsTimes g times old before
  pub again : ReadsAll g before new
  pub none : length (bindings new.goals.table) ≡ length (bindings before.goals.table)

-- what all nodes need was read, goals were selected with what that said, and then nothing that is asked of an expression was left open
pub record SettlesNeeds (g : Given) (old new : InferenceContext) : Type 0 where
  pub read : InferenceContext
  pub reads : ReadsOn g old read
  pub selected : InferenceContext
  pub selects : SelectsInWalk g read selected
  pub settles : Settles g selected new

-- so the walk ended
pub record EndsSettled (g : Given) (c : InferenceContext) : Type 0 where
  pub walked : InferenceContext
  pub settles : SettlesNeeds g walked c
