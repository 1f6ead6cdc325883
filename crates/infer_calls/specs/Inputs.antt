-- What is expected of the arguments of a call, from what is expected of the call: upstream `infer/expr.rs`, the
-- beginning of `check_call_arguments`.
use Rattle.std.specs.Prelude.{ℕ, ◌≡◌, List, slice_get, map, Option, Some, None, Result, Ok, Err}
use Rattle.infer_calls.specs.Words.{Ty, Scope, IsLawfulState, State, resolved_type, AreUnified, AreRefused, CanBeEqual, Given, InferenceContext, AllFine, OnlyBinds, SameOrDiffer}

-- Once what the call gives is made equal with the type e, it takes the types ss.
pub record TakesOnce (before : State) (inputs : List Ty) (output e : Ty) (ss : List Ty) : Type 0 where
  pub during : State
  pub unified : AreUnified before during output e
  pub takes : ss ≡ map (resolved_type during) inputs

-- The types ss are expected of the arguments; none are where nothing is expected of the call, or where what it
-- gives cannot be equal with that.
abbrev pub AreExpectedInputs : State → Option Ty → List Ty → Ty → Option (List Ty) → Type 0
AreExpectedInputs before x inputs output (Some ss) = (e : Ty) × (x ≡ Some e) × TakesOnce before inputs output e ss
AreExpectedInputs before x inputs output None = (e : Ty) → x ≡ Some e → CanBeEqual before output e → ⊥

-- these are fine, if any
abbrev pub AreFineInputs : Scope → State → Option (List Ty) → Type 0
AreFineInputs sc state None = Unit {0}
AreFineInputs sc state (Some ss) = AllFine sc state ss

-- they are found, and nothing else is found out
pub record FindsInputs (g : Given) (x : Option Ty) (inputs : List Ty) (output : Ty) (wanted : Option (List Ty))
    (old new : InferenceContext) : Type 0 where
  pub binds : OnlyBinds g old new
  pub are : AreExpectedInputs old.goals.table x inputs output wanted
  pub fine : AreFineInputs g.scope new.goals.table wanted

-- what the call takes was made equal with what is expected of its arguments, or differs
pub record ExpectsInputs (g : Given) (x : Option Ty) (inputs : List Ty) (output : Ty) (old new : InferenceContext) : Type 0 where
  pub binds : OnlyBinds g old new
  pub wanted : Option (List Ty)
  pub are : AreExpectedInputs old.goals.table x inputs output wanted
  pub each : (ss : List Ty) → wanted ≡ Some ss → (i : ℕ) (t u : Ty) → slice_get inputs i ≡ Some t → slice_get ss i ≡ Some u
      → SameOrDiffer new t u

-- what the call gives was made equal with the type e, and it takes what it did; or it was refused
abbrev pub IsTried : {E : Type 0} → List Ty → Ty → Ty → State → State → Result (List Ty) E → Type 0
IsTried inputs output e old new (Ok ts) = AreUnified old new output e × (ts ≡ inputs) × IsLawfulState new
IsTried inputs output e old new (Err refusal) = AreRefused old new output e
