-- What a finished table is, node by node: no order, no state.
use Rattle.std.specs.Prelude.{◌≡◌, ◌<◌, ◌⊎◌, List, [], length, Option, Some}
use Rattle.infer_result.specs.Words.{ExprId, PatId, DefWithBodyId, Ty, term, RawBody, RawFacts, body_of, return_type, scope_of, IsRead}
use Rattle.infer_result.specs.declared.result.InferenceResult.{InferenceResult}
use Rattle.infer_result.specs.declared.result.TypeMismatch.{TypeMismatch}
use Rattle.infer_result.specs.Table.{At, HasTy}
use Rattle.infer_result.specs.Closed.{IsTotal, AllTypes}
use Rattle.infer_result.specs.TypesFit.{TypesFit, SeenFit}
use Rattle.infer_result.specs.Shape.{IsShaped, IsTruthful}
use Rattle.infer_result.specs.OwnTypes.{AreOwnTypes, AreLetTypes, written_inputs}
use Rattle.infer_result.specs.Places.{Given}
use Rattle.infer_result.specs.Rules.{ObeysOrMismatch, ObeysExpression, BodyObeysOrMismatch, BodyObeys, ObeysPattern}
use Rattle.infer_result.specs.Excused.{IsExcused, BodyIsExcused}
use Rattle.infer_result.specs.Upward.{Up}
use Rattle.infer_result.specs.Truth.Mismatch.{IsTrueMismatch}

-- Each node obeys its rule, clause by clause but for listed mismatches, and so each node that is not
-- excused obeys it whole; each type that a node has by itself stands; and each complaint is true.
pub record IsTyped (g : Given) (r : InferenceResult) : Type 0 where
  pub shape : IsShaped g r
  pub total : IsTotal g.body r
  pub clauses : (e : ExprId) → e.0 < length g.body.exprs → ObeysOrMismatch g r e
  pub exprs : (e : ExprId) → e.0 < length g.body.exprs → IsExcused g r e ⊎ ObeysExpression g r e
  pub pats : (p : PatId) → p.0 < length g.body.pats → ObeysPattern g r p
  pub body_clause : BodyObeysOrMismatch g r
  pub body_rule : BodyIsExcused g r ⊎ BodyObeys g r
  pub upward : (e : ExprId) (t : Ty) → Up g e t → HasTy r e t
  pub truths : (e : ExprId) (x : TypeMismatch) → At r.expr_mismatches e.0 x → IsTrueMismatch g r e x
  pub complaints : IsTruthful g r

-- the body of a definition among its facts, with these types of what the definition takes and gives, and of the associated types in its
-- `let`s
abbrev pub given_by : RawFacts → DefWithBodyId → RawBody → List (Option Ty) → Option Ty → List (Option Ty) → Given
given_by raw d b inputs output aliases = record { scope = scope_of raw d; body = b; inputs = inputs; output = output; aliases = aliases }

-- with the types as they are written
abbrev pub given : RawFacts → DefWithBodyId → RawBody → Given
given raw d b = given_by raw d b (written_inputs raw d) (Some (return_type raw d)) []

-- the table is one of the definition's body, typed, its types name what the facts have, and in none of them is an associated type left to
-- be read
pub record IsTableOf (raw : RawFacts) (d : DefWithBodyId) (r : InferenceResult) : Type 0 where
  pub body : RawBody
  pub is_body : body_of raw d ≡ Some body
  pub inputs : List (Option Ty)
  pub output : Option Ty
  pub own : AreOwnTypes raw d inputs output
  pub aliases : List (Option Ty)
  pub lets : AreLetTypes raw d body aliases
  pub typed : IsTyped (given_by raw d body inputs output aliases) r
  pub fit : TypesFit raw d r
  pub seen_fit : SeenFit raw d r
  pub read : AllTypes (λ t. IsRead (term t)) r
