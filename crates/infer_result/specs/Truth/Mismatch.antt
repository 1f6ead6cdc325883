-- When a mismatch is true.
use Rattle.std.specs.Prelude.{◌≡◌, ◌⊎◌, slice_get, Option, Some}
use Rattle.infer_result.specs.Words.{ExprId, PatId, Ty, unit, Same, RawPat, RawBody}
use Rattle.infer_result.specs.Words.hir_raw.declared.raw.RawPat.TheVariants as pat
use Rattle.infer_result.specs.declared.result.InferenceResult.{InferenceResult}
use Rattle.infer_result.specs.declared.result.TypeMismatch.{TypeMismatch}
use Rattle.infer_result.specs.Table.{HasTy, PatTy}
use Rattle.infer_result.specs.Places.{Given}
use Rattle.infer_result.specs.Incoming.{Incoming}
use Rattle.infer_result.specs.Demands.{Demand}
use Rattle.infer_result.specs.Upward.{Up, Stated, Leads}
use Rattle.infer_result.specs.Kinds.Block.{IsBlockWithoutTail}
use Rattle.infer_result.specs.Kinds.If.{IsIfWithoutElse}

-- the expression may end without a value
abbrev pub EndsInUnit : RawBody → ExprId → Type 0
EndsInUnit b e = IsBlockWithoutTail b e ⊎ IsIfWithoutElse b e

-- the actual type is the expression's, or `()` at a block without tail or an `if` without `else`
abbrev pub IsActual : Given → InferenceResult → ExprId → Ty → Type 0
IsActual g r e t = HasTy r e t ⊎ (EndsInUnit g.body e × (t ≡ unit))

-- The two types differ; the first is what the place asks for, the second what stands there; and
-- where the node has a type by itself and another is written at its place, no coercion leads from
-- the one to the other.
pub record IsTrueMismatch (g : Given) (r : InferenceResult) (e : ExprId) (x : TypeMismatch) : Type 0 where
  pub differ : Same x.expected x.actual → ⊥
  pub actual : IsActual g r e x.actual
  pub demand : Demand g r e x.expected
  pub no_coercion : (u t : Ty) → Up g e u → Stated g e t → Leads u t → ⊥

-- The pattern has a type of its own beside the one that comes in: a tuple, and a constructor. The mismatch of
-- a literal pattern stands at its literal.
abbrev pub SaysItsType : Option RawPat → Type 0
SaysItsType (Some (pat.Tuple ps)) = Unit {0}
SaysItsType (Some (pat.TupleStruct v ps)) = Unit {0}
SaysItsType (Some (pat.Path q)) = Unit {0}
SaysItsType _ = ⊥

-- The pattern is one that may have a mismatch; the two types differ; the first is what comes into the
-- pattern, the second its own.
pub record IsTruePatMismatch (g : Given) (r : InferenceResult) (p : PatId) (x : TypeMismatch) : Type 0 where
  pub says : SaysItsType (slice_get g.body.pats p.0)
  pub differ : Same x.expected x.actual → ⊥
  pub actual : PatTy r p x.actual
  pub incoming : Incoming g r p x.expected
