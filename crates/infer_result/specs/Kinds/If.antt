-- An `if`, whose branches stand at its type: Reference, "if expressions"; upstream `infer/expr.rs`,
-- `Expr::If`.
use Rattle.std.specs.Prelude.{◌≡◌, List, slice_get, Option, Some, None, [], ◌∷◌}
use Rattle.infer_result.specs.Words.{ExprId, Ty, RawBody, condition}
use Rattle.hir_types.specs.declared.ty.Ty.TheVariants as ty
use Rattle.infer_result.specs.Words.hir_raw.declared.raw.RawExpr.TheVariants as expr
use Rattle.infer_result.specs.declared.result.InferenceResult.{InferenceResult}
use Rattle.infer_result.specs.Table.{HasTy}
use Rattle.infer_result.specs.Placing.{Placing}

-- ---- its rule

-- Which expressions give an `if` its type: its branches, without `else` its branch and itself.
abbrev pub branches_of : ExprId → ExprId → Option ExprId → List ExprId
branches_of n first (Some other) = first ∷ other ∷ []
branches_of n first None = n ∷ first ∷ []

-- the `else` at the type of the `if`; without one that is `()`
abbrev pub ElseRule : Placing → ExprId → ExprId → Option ExprId → Ty → Type 0
ElseRule P n first (Some other) t = P.alternative (branches_of n first (Some other)) other t
ElseRule P n first None t = P.no_else (branches_of n first None) t

-- the condition at `bool`, the branches at the type of the `if`
pub record IfRule (P : Placing) (r : InferenceResult) (n c first : ExprId) (other : Option ExprId) : Type 0 where
  pub condition : P.at c ty.Bool
  pub type : Ty
  pub has : HasTy r n type
  pub branch : P.alternative (branches_of n first other) first type
  pub otherwise : ElseRule P n first other type

-- ---- what is asked of one without `else`

-- the expression is an `if` without `else`, and its branch has this type
pub record IsOfBranch (b : RawBody) (r : InferenceResult) (e : ExprId) (t : Ty) : Type 0 where
  pub condition : ExprId
  pub branch : ExprId
  pub is_if : slice_get b.exprs e.0 ≡ Some (expr.If condition branch None)
  pub has : HasTy r branch t

-- ---- what its complaints say

pub record IsIfWithoutElse (b : RawBody) (e : ExprId) : Type 0 where
  pub condition : ExprId
  pub branch : ExprId
  pub is_if : slice_get b.exprs e.0 ≡ Some (expr.If condition branch None)
