-- When what is kept of a failed look-up is so: at a call, that what it calls is no function.
use Rattle.std.specs.Prelude.{ℕ, ◌≡◌, false, List, slice_get, Some, None}
use Rattle.infer_result.specs.Words.{ExprId, Ty, IntegerTy, integer_type, Assignment, folded}
use Rattle.hir_types.specs.declared.ids.ExprOrPatId.TheVariants as node
use Rattle.infer_result.specs.Words.hir_raw.declared.raw.RawExpr.TheVariants as expr
use Rattle.infer_result.specs.declared.result.InferenceResult.{InferenceResult}
use Rattle.infer_result.specs.declared.result.Seen.{Seen}
use Rattle.infer_result.specs.Table.{HasTy}
use Rattle.infer_result.specs.Places.{Given}
use Rattle.infer_result.specs.Upward.{Up}
use Rattle.infer_result.specs.Heads.{Outermost, HasHead, HeadOf}
use Rattle.infer_result.specs.Kinds.Call.{is_callable, IsPathToItem}

-- the second type is the first with types in the place of holes, integer types in that of integer holes
pub record IsInstance (general special : Ty) : Type 0 where
  pub types : Assignment
  pub integers : (n : ℕ) → (i : IntegerTy) × (types.int_var n ≡ integer_type i)
  pub is : folded types general ≡ special

-- The entry is about a call. Of what that calls, the type was known so far as the entry says: what is
-- recorded is an instance of it, it is the type that the callee has by itself, or has its head. As far as it
-- was known it cannot be called, and the callee is no path to a function or a tuple constructor.
pub record IsTrueSeen (g : Given) (r : InferenceResult) (x : Seen) : Type 0 where
  pub call : ExprId
  pub called : ExprId
  pub args : List ExprId
  pub is_node : x.node ≡ node.ExprId call
  pub is_call : slice_get g.body.exprs call.0 ≡ Some (expr.Call called args)
  pub alone : x.other ≡ None
  pub type : Ty
  pub has : HasTy r called type
  pub instance : IsInstance x.ty type
  pub not_callable : is_callable x.ty ≡ false
  pub no_item : IsPathToItem g called → ⊥
  pub upward : (t : Ty) → Up g called t → x.ty ≡ t
  pub head : (h : Outermost) → HeadOf g called h → HasHead x.ty h
