-- What selection does to what was found out about a body.
use Rattle.std.specs.Prelude.{◌≡◌, ℕ, zero, suc, length, Some, None}
use Rattle.infer_end.specs.Words.{DefWithBodyId, FellBack, bindings, General, Given, InferenceContext, BodyDone, OnlyBinds, ReadsOn, IsSelection, SelectsInWalk}

-- the table of goals alone may change, with its holes
pub record OnlyGoals (old new : InferenceContext) : Type 0 where
  pub result : new.result ≡ old.result
  pub asked : new.asked ≡ old.asked
  pub clock : new.clock ≡ old.clock

-- nothing is done where types before fallback are kept
abbrev pub StaysOfPlain : InferenceContext → InferenceContext → Type 0
StaysOfPlain old new = (x : General) → old.result.general ≡ Some x → new ≡ old

-- open holes for integer types fell back, and nothing is recorded
pub record FallsBack (g : Given) (old new : InferenceContext) : Type 0 where
  pub binds : OnlyBinds g old new
  pub fell : FellBack old.goals.table new.goals.table

-- ---- selected and read in turn

-- goals were selected, and then what all nodes need was read
pub record SelectsThenReads (g : Given) (old new : InferenceContext) : Type 0 where
  pub selected : InferenceContext
  pub selects : SelectsInWalk g old selected
  pub reads : ReadsOn g selected new

-- so many times
abbrev pub SelectsThenReadsTimes : Given → ℕ → InferenceContext → InferenceContext → Type 0
SelectsThenReadsTimes g zero old new = new ≡ old
SelectsThenReadsTimes g (suc n) old new = (mid : InferenceContext) × SelectsThenReadsTimes g n old mid × SelectsThenReads g mid new

-- again and again, and the last time bound no hole
pub record SelectsAndReadsOn (g : Given) (old new : InferenceContext) : Type 0 where
  pub binds : OnlyBinds g old new
  pub times : ℕ
  pub before : InferenceContext
  pub first : SelectsThenReadsTimes g times old before
  pub again : SelectsThenReads g before new
  pub none : length (bindings new.goals.table) ≡ length (bindings before.goals.table)

-- ---- in the end

-- Goals were selected, open holes for integer types fell back, goals were selected and associated types read in turn, and goals were
-- selected for the last time.
pub record SettlesBody (d : DefWithBodyId) (g : Given) (old new : InferenceContext) : Type 0 where
  pub selected : InferenceContext
  pub selects : SelectsInWalk g old selected
  pub fallen : InferenceContext
  pub falls : FallsBack g selected fallen
  pub read : InferenceContext
  pub reads : SelectsAndReadsOn g fallen read
  pub last : IsSelection g.scope.facts d g.body read new

-- that was done where no types before fallback are kept; else nothing is
pub record SettlesLast (d : DefWithBodyId) (g : Given) (old new : InferenceContext) : Type 0 where
  pub done : BodyDone g new
  pub only : OnlyGoals old new
  pub plain : StaysOfPlain old new
  pub settles : old.result.general ≡ None → SettlesBody d g old new
