-- What a family of kinds is told of the call that types a part.
use Rattle.std.specs.Prelude.{ℕ, ◌≤◌, Result, IfOk}
use Rattle.std.specs.Borrow.{MutBor}
use Rattle.std.specs.declared.alloc.AllocError.{AllocError}
use Rattle.infer_coerce.specs.Words.{ExprId, Ty, Schedule, Given, InferenceContext, Expectation, expected_type, Before, OwnDone}

-- it may be made from the clock k on, and does as `OwnDone` says
pub record InfersFrom (g : Given) (s : Schedule) (k : ℕ) (pre : MutBor InferenceContext → ExprId → Expectation → Type 0)
    (post : MutBor InferenceContext → ExprId → Expectation → Result Ty AllocError → MutBor InferenceContext → Type 0) : Type 0 where
  pub may : (c : MutBor InferenceContext) (e : ExprId) (x : Expectation) → k ≤ c.now.clock → Before g s e (expected_type x) c.now
      → pre c e x
  pub does : (old : MutBor InferenceContext) (e : ExprId) (x : Expectation) (r : Result Ty AllocError) (new : MutBor InferenceContext)
      → post old e x r new → IfOk r (λ t. OwnDone g s e (expected_type x) t old.now new.now)
