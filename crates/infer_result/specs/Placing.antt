-- How the parts of a node may stand at their types.
use Rattle.std.specs.Prelude.{ℕ, ◌⊎◌, List}
use Rattle.infer_result.specs.Words.{ExprId, PatId, Ty, unit, Same, element}
use Rattle.infer_result.specs.declared.result.InferenceResult.{InferenceResult}
use Rattle.infer_result.specs.declared.diagnostics.InferenceDiagnostic.TheVariants as diagnostic
use Rattle.infer_result.specs.Table.{HasMismatch, MismatchAt, AnyMismatch, HasDiagnostic, WasSeen}
use Rattle.infer_result.specs.Places.{Given, IsAt, IsAtOrMismatch, PatIsAtOrMismatch}

pub record Placing : Type 1 where
  -- an expression at its type
  pub at : ExprId → Ty → Type 0
  -- a part of a tuple, or an argument of a call, at its type
  pub element : ExprId → Ty → Type 0
  -- one of several alternatives at the common type, where these expressions give it
  pub alternative : List ExprId → ExprId → Ty → Type 0
  -- a pattern at what comes into it
  pub pattern : PatId → Ty → Type 0
  -- `()` at the type of a block without tail
  pub no_tail : ExprId → Ty → Type 0
  -- `()` at the type of an `if` without `else`, where these expressions give it
  pub no_else : List ExprId → Ty → Type 0
  -- a complaint that a call has another number of arguments, the last number, than its item has inputs
  pub wrong_count : ExprId → ℕ → ℕ → Type 0
  -- that what a call calls is no function
  pub no_callee : ExprId → Type 0

-- Each part is at its type, or a mismatch is listed at that very part. For alternatives it may be at
-- any of them, for `()` at the node itself: at a block that very mismatch. That a call has a wrong number of
-- arguments is listed at the call; that it calls no function is kept in what was seen.
abbrev pub at_or_mismatch : Given → InferenceResult → Placing
at_or_mismatch g r = record {
  at = IsAtOrMismatch r;
  element = IsAtOrMismatch r;
  alternative = λ es e t. IsAt r e t ⊎ AnyMismatch r es;
  pattern = PatIsAtOrMismatch g r;
  no_tail = λ n t. Same unit t ⊎ MismatchAt r n t unit;
  no_else = λ es t. Same unit t ⊎ AnyMismatch r es;
  wrong_count = λ n expected found. HasDiagnostic r n (diagnostic.MismatchedArgCount n expected found);
  no_callee = λ n. WasSeen r n;
}

-- Each part is at its type, but that a part of a tuple and an argument may have a mismatch of their own, and
-- a pattern too; no call has a wrong number of arguments, and each calls a function.
abbrev pub at_types : Given → InferenceResult → Placing
at_types g r = record {
  at = IsAt r;
  element = λ e t. IsAt r e t ⊎ HasMismatch r e;
  alternative = λ es e t. IsAt r e t;
  pattern = PatIsAtOrMismatch g r;
  no_tail = λ n t. Same unit t;
  no_else = λ es t. Same unit t;
  wrong_count = λ n expected found. ⊥;
  no_callee = λ n. ⊥;
}
