-- What the place of an expression asks of it.
use Rattle.std.specs.Prelude.{ℕ, ◌≡◌, ◌⊎◌, false, List, slice_get, Some}
use Rattle.infer_result.specs.Words.{ExprId, Ty, unit, Role, root, initializer, statement, tail, element, condition, then_branch, else_branch, guard, arm, argument, pattern_literal, Node, the_body, inner}
use Rattle.hir_types.specs.declared.ids.ExprOrPatId.TheVariants as node
use Rattle.hir_types.specs.declared.ty.Ty.TheVariants as ty
use Rattle.infer_result.specs.declared.result.InferenceResult.{InferenceResult}
use Rattle.infer_result.specs.Table.{HasTy}
use Rattle.infer_result.specs.Places.{Given, StandsAt, IsDeclared}
use Rattle.infer_result.specs.Incoming.{Incoming}
use Rattle.infer_result.specs.Kinds.Alternative.{AsksOfAlternative}
use Rattle.infer_result.specs.Kinds.If.{IsOfBranch}
use Rattle.infer_result.specs.Kinds.Call.{IsInputAt}

-- the type that an expression asks of its part in this role
abbrev pub AsksOf : Given → InferenceResult → ExprId → Role → Ty → Type 0
AsksOf g r n (initializer (Some w)) t = IsDeclared g r w t
AsksOf g r n (statement false) t = t ≡ unit
AsksOf g r n tail t = HasTy r n t
AsksOf g r n (element i) t = (ss : List Ty) × HasTy r n (ty.Tuple ss) × (slice_get ss i ≡ Some t)
AsksOf g r n condition t = t ≡ ty.Bool
AsksOf g r n then_branch t = AsksOfAlternative g r n then_branch t
AsksOf g r n else_branch t = AsksOfAlternative g r n else_branch t
AsksOf g r n (guard i) t = t ≡ ty.Bool
AsksOf g r n (arm i) t = AsksOfAlternative g r n (arm i) t
AsksOf g r n (argument i) t = IsInputAt g r n i t
AsksOf g r n _ t = ⊥

-- The type that a node asks of its part in this role: the body asks that its root have the output, a
-- pattern that its literal have the type that comes into it.
abbrev pub Asks : Given → InferenceResult → Node → Role → Ty → Type 0
Asks g r the_body role t = (role ≡ root) × (g.output ≡ Some t)
Asks g r (inner (node.ExprId n)) role t = AsksOf g r n role t
Asks g r (inner (node.PatId p)) role t = (role ≡ pattern_literal) × Incoming g r p t

-- what the place of an expression asks of it
pub record IsAsked (g : Given) (r : InferenceResult) (e : ExprId) (t : Ty) : Type 0 where
  pub parent : Node
  pub at_part : ℕ
  pub role : Role
  pub stands : StandsAt g.body (node.ExprId e) parent at_part role
  pub asks : Asks g r parent role t

-- the demand on an expression: what its place asks of it, and of an `if` without `else` the type of
-- its branch too
abbrev pub Demand : Given → InferenceResult → ExprId → Ty → Type 0
Demand g r e t = IsAsked g r e t ⊎ IsOfBranch g.body r e t
