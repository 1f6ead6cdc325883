-- The alternatives of an `if` and of a `match`, one of which gives the node its value: Reference, "Least
-- upper bound coercions"; upstream `infer/coerce.rs`, `CoerceMany`.
use Rattle.std.specs.Prelude.{ℕ, ◌<◌, ◌≡◌, ◌⊎◌, Some}
use Rattle.infer_result.specs.Words.{ExprId, Ty, RawBody, Role, then_branch, else_branch, arm, expr_part, inner, part_at}
use Rattle.hir_types.specs.declared.ids.ExprOrPatId.TheVariants as node
use Rattle.infer_result.specs.declared.result.InferenceResult.{InferenceResult}
use Rattle.infer_result.specs.Table.{HasTy}
use Rattle.infer_result.specs.Places.{Given}

-- ---- what is asked of them

-- Of the branches of an `if`, or of the arms of a `match`, one gives the node its value. The first of
-- these comes before the second.
abbrev pub IsBefore : Role → Role → Type 0
IsBefore then_branch else_branch = Unit {0}
IsBefore (arm i) (arm j) = i < j
IsBefore _ _ = ⊥

-- an alternative of the node n before that in this role has the type t
pub record IsOfOther (b : RawBody) (r : InferenceResult) (n : ExprId) (role : Role) (t : Ty) : Type 0 where
  pub other : Role
  pub expr : ExprId
  pub at_part : ℕ
  pub stands : part_at b (inner (node.ExprId n)) at_part ≡ Some (expr_part other expr)
  pub is_before : IsBefore other role
  pub has : HasTy r expr t

-- an alternative is to have the type of the node, or that of an earlier alternative
abbrev pub AsksOfAlternative : Given → InferenceResult → ExprId → Role → Ty → Type 0
AsksOfAlternative g r n role t = HasTy r n t ⊎ IsOfOther g.body r n role t
