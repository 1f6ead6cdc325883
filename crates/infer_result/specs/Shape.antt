-- What a table is whatever its nodes' rules, and that what it complains of is so.
use Rattle.std.specs.Prelude.{ℕ, ◌≡◌, slice_get, Some}
use Rattle.infer_result.specs.Words.{ExprId, PatId}
use Rattle.infer_result.specs.declared.result.InferenceResult.{InferenceResult}
use Rattle.infer_result.specs.declared.result.TypeMismatch.{TypeMismatch}
use Rattle.infer_result.specs.declared.result.Seen.{Seen}
use Rattle.infer_result.specs.declared.diagnostics.InferenceDiagnostic.{InferenceDiagnostic}
use Rattle.infer_result.specs.Table.{At}
use Rattle.infer_result.specs.Closed.{IsOfBody, IsClosedTable, OnlyBindersHaveModes, OnlyCtorPatsHaveItems, OnlyNamedVariants}
use Rattle.infer_result.specs.Places.{Given, OnlyPlaceholdersHaveTypes}
use Rattle.infer_result.specs.Kinds.Call.{IsSaid}
use Rattle.infer_result.specs.Truth.Mismatch.{IsTruePatMismatch}
use Rattle.infer_result.specs.Truth.Seen.{IsTrueSeen}
use Rattle.infer_result.specs.Truth.Diagnostics.{IsTrueDiagnostic, IsTruePatDiagnostic}

-- The table has an entry for each node, and no hole; modes, variants, items of patterns and what `_`s stand for are recorded
-- where they belong.
pub record IsShaped (g : Given) (r : InferenceResult) : Type 0 where
  pub of_body : IsOfBody g.body r
  pub closed : IsClosedTable r
  pub modes : OnlyBindersHaveModes g.body r
  pub placeholders : OnlyPlaceholdersHaveTypes g r
  pub variants : OnlyNamedVariants g.body r
  pub items : OnlyCtorPatsHaveItems g.scope.facts g.body r

-- Each complaint other than a mismatch of an expression is true, and so is each failed look-up that is kept,
-- of which a complaint tells unless `{unknown}` is in the type.
pub record IsTruthful (g : Given) (r : InferenceResult) : Type 0 where
  pub diagnostics : (e : ExprId) (x : InferenceDiagnostic) → At r.expr_diagnostics e.0 x
      → IsTrueDiagnostic g r e x
  pub pat_diagnostics : (p : PatId) (x : InferenceDiagnostic) → At r.pat_diagnostics p.0 x
      → IsTruePatDiagnostic g p x
  pub pat_truths : (p : PatId) (x : TypeMismatch) → At r.pat_mismatches p.0 x → IsTruePatMismatch g r p x
  pub seen : (i : ℕ) (x : Seen) → slice_get r.seen i ≡ Some x → IsTrueSeen g r x
  pub said : (i : ℕ) (x : Seen) → slice_get r.seen i ≡ Some x → IsSaid g r x
