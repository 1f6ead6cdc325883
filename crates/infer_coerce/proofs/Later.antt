-- The call that types a part may be made later too.
use Rattle.std.proofs.Common.{ℕ, ◌≤◌, arith}
use Rattle.std.specs.Prelude.{Result}
use Rattle.std.specs.Borrow.{MutBor}
use Rattle.std.specs.declared.alloc.AllocError.{AllocError}
use Rattle.infer_coerce.specs.Words.{ExprId, Ty, Schedule, Given, InferenceContext, Expectation}
use Rattle.infer_coerce.specs.Own.{InfersFrom}

pub later : (g : Given) (s : Schedule) (k n : ℕ) (pre : MutBor InferenceContext → ExprId → Expectation → Type 0) (post : MutBor InferenceContext → ExprId → Expectation → Result Ty AllocError → MutBor InferenceContext → Type 0) → k ≤ n → InfersFrom g s k pre post → InfersFrom g s n pre post
later g s k n pre post low h = record { may = λ c e x m b. h.may c e x (omega (arith, low, m)) b; does = h.does }
