-- Types made equal, and the pairs that wait for it.
use Rattle.std.specs.Prelude.{◌≡◌, ◌⊎◌, Bool, true, false, ℕ, List, slice_get, Some}
use Rattle.infer_coerce.specs.Words.{Ty, Assignment, folded, State, AllUnknown, TakesFirstKnown, waiting, WaitingPair, Given, mismatch, InferenceContext, Closes, IsDecided, AskedIsDecided, OnlyBinds}

-- they are the same, or they differ
abbrev pub Are : Bool → Ty → Ty → Type 0
Are true t u = t ≡ u
Are false t u = t ≡ u → ⊥

-- the two types are the same from here on, or they differ, and nothing is recorded
pub record IsUnifiedIf (yes : Bool) (g : Given) (t u : Ty) (old new : InferenceContext) : Type 0 where
  pub binds : OnlyBinds g old new
  pub each : (a : Assignment) → Closes a new → Are yes (folded a t) (folded a u)

-- the two types are the same from here on, or they differ
abbrev pub SameOrDiffer : InferenceContext → Ty → Ty → Type 0
SameOrDiffer c t u =
    ((a : Assignment) → Closes a c → folded a t ≡ folded a u) ⊎ ((a : Assignment) → Closes a c → folded a t ≡ folded a u → ⊥)

-- the two types were made equal, or they differ, and nothing is recorded
pub record UnifiesOne (g : Given) (t u : Ty) (old new : InferenceContext) : Type 0 where
  pub binds : OnlyBinds g old new
  pub settled : SameOrDiffer new t u

-- each of these types was made equal with its one of the others, or differs, and nothing is recorded
pub record UnifiesAll (g : Given) (ts us : List Ty) (old new : InferenceContext) : Type 0 where
  pub binds : OnlyBinds g old new
  pub each : (i : ℕ) (t u : Ty) → slice_get ts i ≡ Some t → slice_get us i ≡ Some u → SameOrDiffer new t u

-- ---- pairs that wait

-- of no pair that waits a side is known
abbrev pub NoneIsKnown : InferenceContext → Type 0
NoneIsKnown c = AllUnknown c.goals.table (waiting c.goals.table.pairs)

-- the first pair that waited with a side known waits no longer, and its two types were made equal, or differ; the other
-- pairs wait on, and nothing is recorded
pub record UnifiesFirst (g : Given) (old new : InferenceContext) : Type 0 where
  pub pair : WaitingPair
  pub taken : State
  pub takes : TakesFirstKnown old.goals.table taken pair
  pub others : new.goals.table.pairs ≡ taken.pairs
  pub binds : OnlyBinds g old new
  pub settled : SameOrDiffer new pair.source pair.target

-- that is done, or there was no such pair, and nothing changes
abbrev pub UnifiesNext : Bool → Given → InferenceContext → InferenceContext → Type 0
UnifiesNext true g old new = UnifiesFirst g old new
UnifiesNext false g old new = NoneIsKnown old × (new ≡ old)

-- of no pair that waits a side is known any more, and nothing is recorded
pub record UnifiesKnown (g : Given) (old new : InferenceContext) : Type 0 where
  pub binds : OnlyBinds g old new
  pub none : NoneIsKnown new

-- each of these pairs was unified or refused, and nothing is recorded
pub record UnifiesEach (g : Given) (pairs : List WaitingPair) (old new : InferenceContext) : Type 0 where
  pub binds : OnlyBinds g old new
  pub decided : (i : ℕ) (p : WaitingPair) → slice_get pairs i ≡ Some p → IsDecided new.goals.table (mismatch p.target p.source)

-- nothing that is asked of an expression is left open, and nothing is recorded
pub record Settles (g : Given) (old new : InferenceContext) : Type 0 where
  pub binds : OnlyBinds g old new
  pub decided : AskedIsDecided new.goals.table new.asked
