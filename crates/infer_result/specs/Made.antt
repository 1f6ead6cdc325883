-- What a walk of a body shows of its table, node by node; the rest of what is promised follows from it.
use Rattle.std.specs.Prelude.{ℕ, ◌≡◌, ◌<◌, length, slice_get, Some}
use Rattle.infer_result.specs.Words.{ExprId, PatId, BindingId, Ty, Same}
use Rattle.infer_result.specs.declared.result.InferenceResult.{InferenceResult}
use Rattle.infer_result.specs.declared.result.TypeMismatch.{TypeMismatch}
use Rattle.infer_result.specs.Table.{At, BindingTy}
use Rattle.infer_result.specs.Shape.{IsShaped, IsTruthful}
use Rattle.infer_result.specs.Places.{Given, PatIsAtOrMismatch}
use Rattle.infer_result.specs.Incoming.{IsInput}
use Rattle.infer_result.specs.Demands.{Demand}
use Rattle.infer_result.specs.Rules.{ObeysOrMismatch, BodyObeysOrMismatch, PatRule}
use Rattle.infer_result.specs.Truth.Mismatch.{IsActual}

-- the two types differ, and the second is the actual one
pub record IsMisfit (g : Given) (r : InferenceResult) (e : ExprId) (x : TypeMismatch) : Type 0 where
  pub differ : Same x.expected x.actual → ⊥
  pub actual : IsActual g r e x.actual

pub record IsMade (g : Given) (r : InferenceResult) : Type 0 where
  pub shape : IsShaped g r
  pub clauses : (e : ExprId) → e.0 < length g.body.exprs → ObeysOrMismatch g r e
  pub kinds : (p : PatId) → p.0 < length g.body.pats → PatRule g r p (slice_get g.body.pats p.0)
  pub params : (i : ℕ) (p : PatId) (t : Ty) → slice_get g.body.params i ≡ Some p → IsInput g i t → PatIsAtOrMismatch g r p t
  pub bindings : (v : BindingId) → v.0 < length g.body.bindings → (t : Ty) × BindingTy r v t
  pub body_clause : BodyObeysOrMismatch g r
  pub misfits : (e : ExprId) (x : TypeMismatch) → At r.expr_mismatches e.0 x → IsMisfit g r e x
  pub demands : (e : ExprId) (x : TypeMismatch) → At r.expr_mismatches e.0 x → Demand g r e x.expected
  pub complaints : IsTruthful g r
