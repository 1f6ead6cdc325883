-- Derivations: tables without complaint, of types that are known, in which each node obeys its rule.
use Rattle.std.specs.Prelude.{◌≡◌, ◌<◌, ℕ, List, length, slice_get, Some}
use Rattle.infer_result.specs.Words.{ExprId, PatId, BindingId, CallableDefId, DefWithBodyId, ExprOrPatId, Ty, RawBody, RawFacts, body_of, IsPlainIn, ArePlainIn, Scope, scope_of, type_args}
use Rattle.hir_types.specs.declared.ty.Ty.TheVariants as ty
use Rattle.infer_result.specs.Words.hir_raw.declared.raw.RawExpr.TheVariants as expr
use Rattle.infer_result.specs.declared.result.InferenceResult.{InferenceResult}
use Rattle.infer_result.specs.Table.{HasTy, PatTy, BindingTy}
use Rattle.infer_result.specs.Columns.{Column, Entry, entry_kind, IsIn, AreComplaints}
use Rattle.infer_result.specs.Closed.{IsTotal, AllTypes}
use Rattle.infer_result.specs.TypesFit.{TypesFit}
use Rattle.infer_result.specs.Unknown.{IsKnown}
use Rattle.infer_result.specs.Rules.{ObeysExpression, BodyObeys, ObeysPattern}
use Rattle.infer_result.specs.Shape.{IsShaped}
use Rattle.infer_result.specs.Typed.{given}
use Rattle.infer_result.specs.declared.gaps.Gap.{Gap}
use Rattle.infer_result.specs.Needs.{HasGap, NeedsHold}

-- no complaint stands in the table
pub record HasNoComplaint (r : InferenceResult) : Type 0 where
  pub complaints : (c : Column) → AreComplaints (entry_kind c) → (n : ℕ) (x : Entry c) → IsIn r c n x → ⊥
  pub gaps : (n : ExprOrPatId) (x : Gap) → HasGap r n x → ⊥

-- The table is one of the definition's body, with a type for each node and binding. No hole and no
-- `{unknown}` stands in it, but for what failed look-ups saw and for types before fallback, and no complaint;
-- its types name what the facts have; each node, and the body, obeys its rule whole; and what nodes need holds.
pub record IsDerivation (raw : RawFacts) (d : DefWithBodyId) (r : InferenceResult) : Type 0 where
  pub body : RawBody
  pub is_body : body_of raw d ≡ Some body
  pub shape : IsShaped (given raw d body) r
  pub total : IsTotal body r
  pub known : AllTypes IsKnown r
  pub fit : TypesFit raw d r
  pub clean : HasNoComplaint r
  pub exprs : (e : ExprId) → e.0 < length body.exprs → ObeysExpression (given raw d body) r e
  pub pats : (p : PatId) → p.0 < length body.pats → ObeysPattern (given raw d body) r p
  pub root : BodyObeys (given raw d body) r
  pub goals : NeedsHold d (given raw d body) r

-- ---- plain ones

-- the expression is what a call calls
abbrev pub IsCalled : RawBody → ExprId → Type 0
IsCalled b e = (n : ExprId) × (args : List ExprId) × (slice_get b.exprs n.0 ≡ Some (expr.Call e args))

-- a function or a constructor, at plain types
abbrev pub IsPlainItem : Scope → Ty → Type 0
IsPlainItem sc t = (id : CallableDefId) × (ts : List Ty) × (t ≡ ty.FnDef id (type_args ts)) × ArePlainIn sc ts

-- The types of a derivation are plain, but that what is called has that of an item at plain types.
-- Adjustments, of which it has none, are not carried yet.
pub record IsPlainDerivation (raw : RawFacts) (d : DefWithBodyId) (r : InferenceResult) : Type 0 where
  pub derivation : IsDerivation raw d r
  pub called : (e : ExprId) (t : Ty) → HasTy r e t → IsCalled derivation.body e
      → IsPlainItem (scope_of raw d) t
  pub exprs : (e : ExprId) (t : Ty) → HasTy r e t → (IsCalled derivation.body e → ⊥)
      → IsPlainIn (scope_of raw d) t
  pub pats : (p : PatId) (t : Ty) → PatTy r p t → IsPlainIn (scope_of raw d) t
  pub bindings : (v : BindingId) (t : Ty) → BindingTy r v t → IsPlainIn (scope_of raw d) t
