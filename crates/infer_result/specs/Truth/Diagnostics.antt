-- When a complaint other than a mismatch is true.
use Rattle.std.specs.Prelude.{◌≡◌}
use Rattle.infer_result.specs.Words.{ExprId, PatId}
use Rattle.hir_types.specs.declared.ids.ExprOrPatId.TheVariants as node
use Rattle.infer_result.specs.declared.result.InferenceResult.{InferenceResult}
use Rattle.infer_result.specs.declared.diagnostics.InferenceDiagnostic.{InferenceDiagnostic}
use Rattle.infer_result.specs.declared.diagnostics.InferenceDiagnostic.TheVariants as diagnostic
use Rattle.infer_result.specs.Places.{Given}
use Rattle.infer_result.specs.Kinds.Call.{IsNoFunction, IsWrongCount}
use Rattle.infer_result.specs.Pats.Constructor.{IsWrongFieldCount}

-- the complaint at e is about e, and what it says is so
abbrev pub IsTrueDiagnostic : Given → InferenceResult → ExprId → InferenceDiagnostic → Type 0
IsTrueDiagnostic g r e (diagnostic.MismatchedArgCount n expected found) =
    (n ≡ e) × IsWrongCount g r e expected found
IsTrueDiagnostic g r e (diagnostic.MismatchedTupleStructPatArgCount n expected found) = ⊥
IsTrueDiagnostic g r e (diagnostic.ExpectedFunction n s) = (n ≡ e) × IsNoFunction g r e s

-- the complaint at p is about p, and what it says is so
abbrev pub IsTruePatDiagnostic : Given → PatId → InferenceDiagnostic → Type 0
IsTruePatDiagnostic g p (diagnostic.MismatchedTupleStructPatArgCount n expected found) =
    (n ≡ node.PatId p) × IsWrongFieldCount g p expected found
IsTruePatDiagnostic g p _ = ⊥
