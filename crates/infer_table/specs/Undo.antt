-- What trying a closure on a table comes to.
use Rattle.std.specs.Prelude.{◌≡◌, ℕ, ◌≤◌, false, Some, slice_get, Result, Ok, Err}
use Rattle.infer_table.specs.declared.binding.Binding.{Binding}
use Rattle.infer_table.specs.Words.{Hole, Replacement, with_holes, hole_number, occurs}
use Rattle.infer_table.specs.Bindings.{bound_hole, bound_term}
use Rattle.infer_table.specs.Resolution.{resolution}
use Rattle.infer_table.specs.Table.{State, IsBack, bindings, hole_count}

-- going back, all holes that were made meanwhile staying made
pub record GoesBack (before during after : State) : Type 0 where
  pub back : IsBack before after
  pub kinds : after.substitution.kinds ≡ during.substitution.kinds

-- kept as it was left where the answer is `Ok(Ok(_))`, else gone back
abbrev pub KeptIfOk : {T E O : Type 0} → State → State → State → Result (Result T E) O → Type 0
KeptIfOk before during after (Ok (Ok x)) = after ≡ during
KeptIfOk before during after (Ok (Err e)) = GoesBack before during after
KeptIfOk before during after (Err e) = GoesBack before during after

-- the closure gave the answer, and what it did is kept where that is `Ok(Ok(_))`
abbrev pub CommitsIfOk : {T E O : Type 0} → (Result (Result T E) O → State → Type 0) → State → State → Result (Result T E) O → Type 0
CommitsIfOk returns before after answer = (during : State) × returns answer during × KeptIfOk before during after answer

-- the holes from this number on are open and unused
abbrev pub AreUnusedFrom : ℕ → State → Type 0
AreUnusedFrom n s = (k : Hole) → n ≤ hole_number k → (b : Binding) (i : ℕ) → slice_get (bindings s) i ≡ Some b → (bound_hole b ≡ k → ⊥)
    × (occurs k (bound_term b) ≡ false)

-- what is answered of a value that the closure gave: what it was resolved to, or want of memory
abbrev pub IsResolvedOr : {T E O : Type 0} → (Replacement → T → T) → State → Result (Result T E) O → Result (Result T E) O → Type 0
IsResolvedOr put_in during (Ok (Ok x)) (Ok (Ok y)) = y ≡ put_in (with_holes (resolution (bindings during))) x
IsResolvedOr put_in during (Ok (Ok x)) (Ok (Err e)) = ⊥
IsResolvedOr put_in during (Ok (Ok x)) (Err e) = Unit {0}
IsResolvedOr put_in during (Ok (Err e)) answer = answer ≡ Ok (Err e)
IsResolvedOr put_in during (Err e) answer = answer ≡ Err e

-- the closure was tried and undone
pub record Fudges {T E O : Type 0} (put_in : Replacement → T → T) (returns : Result (Result T E) O → State → Type 0) (before after : State)
    (answer : Result (Result T E) O) : Type 0 where
  pub during : State
  pub given : Result (Result T E) O
  pub returned : returns given during
  pub resolved : IsResolvedOr put_in during given answer
  pub undone : GoesBack before during after
  pub fresh : AreUnusedFrom (hole_count before) after
