-- Node rules are stable: what obeys its rule obeys it too where types stand in the place of more holes.
use Rattle.std.specs.Prelude.{ℕ, ◌≡◌, ◌<◌, List, length, slice_get, Option, Some}
use Rattle.infer_result.specs.Words.{ExprId, PatId, DefWithBodyId, Ty, Assignment, folded, composed, RawBody, RawFacts, body_of, Role, inner}
use Rattle.hir_types.specs.declared.ids.ExprOrPatId.TheVariants as node
use Rattle.infer_result.specs.declared.result.InferenceResult.{InferenceResult}
use Rattle.infer_result.specs.Columns.{with_columns, column_under}
use Rattle.infer_result.specs.Places.{Given, StandsAt}
use Rattle.infer_result.specs.Rules.{ObeysOrMismatch, ObeysExpression, BodyObeysOrMismatch, BodyObeys, PatRule, ObeysPattern}
use Rattle.infer_result.specs.Typed.{given_by}

-- ---- a table under an assignment

-- The table with each of its types under the assignment, those of complaints too. Modes and variants stay, and so do proofs and
-- gaps, and what failed look-ups saw, since that is kept as it was when they failed.
abbrev pub table_under : Assignment → InferenceResult → InferenceResult
table_under a r = with_columns r (column_under a r)

-- ---- stable

-- what holds of a table under an assignment holds of it under each that refines this one, with more types for the holes left
abbrev pub IsStable : (InferenceResult → Type 0) → Type 0
IsStable Holds = (t : InferenceResult) (s r : Assignment) → Holds (table_under s t) → Holds (table_under (composed r s) t)

-- the pattern of which this one is a part, where there is one, obeys the rule of its kind
abbrev pub WholeObeys : Given → InferenceResult → PatId → Type 0
WholeObeys g r p = (whole : PatId) (k : ℕ) (role : Role) → StandsAt g.body (node.PatId p) (inner (node.PatId whole)) k role
    → PatRule g r whole (slice_get g.body.pats whole.0)

-- Each rule is stable. No proviso on the types that stand for holes is needed, not even that `{unknown}` is in none: here it is a
-- type like another, and the integer type that a literal is to have has no hole. Kinds with projections, look-ups of methods,
-- references and arrays will bring provisos.
--
-- What comes into a part of a pattern is only there once the type of the whole is a tuple or an adt. So a part by itself may obey
-- its rule while the whole has a hole for its type, and no longer with a tuple in the place of that: the law of a pattern asks that
-- its whole obey too.
pub record RulesAreStable (g : Given) : Type 0 where
  pub exprs : (e : ExprId) → IsStable (λ t. ObeysExpression g t e)
  pub clauses : (e : ExprId) → IsStable (λ t. ObeysOrMismatch g t e)
  pub pats : (p : PatId) → IsStable (λ t. WholeObeys g t p × ObeysPattern g t p)
  pub all_pats : IsStable (λ t. (p : PatId) → p.0 < length g.body.pats → ObeysPattern g t p)
  pub root : IsStable (λ t. BodyObeys g t)
  pub root_clause : IsStable (λ t. BodyObeysOrMismatch g t)

-- no assignment changes the type
abbrev pub IsClosedType : Ty → Type 0
IsClosedType t = (a : Assignment) → folded a t ≡ t

-- nor what the body knows of what its definition takes and gives
pub record HasClosedTypes (g : Given) : Type 0 where
  pub inputs : (i : ℕ) (t : Ty) → slice_get g.inputs i ≡ Some (Some t) → IsClosedType t
  pub output : (t : Ty) → g.output ≡ Some t → IsClosedType t

-- the rules of each body of the facts are, whatever closed types the body knows of what its definition takes and gives
abbrev pub NodeRulesAreStable : RawFacts → Type 0
NodeRulesAreStable raw = (d : DefWithBodyId) (b : RawBody) → body_of raw d ≡ Some b
    → (inputs : List (Option Ty)) (output : Option Ty) (aliases : List (Option Ty))
    → HasClosedTypes (given_by raw d b inputs output aliases) → RulesAreStable (given_by raw d b inputs output aliases)
