-- The body of a definition, and the laws that a walk of it rests on.
use Rattle.std.specs.Prelude.{ℕ, ◌≡◌, ◌<◌, List, [], length, slice_get, Option, Some, None, IsSome, IsSomeAnd, IsTrue}
use Rattle.std.specs.Option.{option_and_then}
use Rattle.hir_facts.specs.Words.{BodyId, ExprId, PatId, BindingId, TypeRefId, DefWithBodyId, RawFn, RawBody, RawFacts, Schedule, Ty, written_type, IsSchedule, PartsFit, Binds, start, inner}
use Rattle.hir_types.specs.declared.ids.DefWithBodyId.TheVariants as def
use Rattle.hir_types.specs.declared.ty.Ty.TheVariants as ty
use Rattle.hir_types.specs.declared.ids.ExprOrPatId.TheVariants as node
use Rattle.hir_raw.specs.declared.raw.RawPath.TheVariants as path
use Rattle.hir_raw.specs.declared.raw.RawExpr.TheVariants as expr
use Rattle.hir_facts.specs.Carried.{is_carried_body}
use Rattle.hir_facts.specs.Trees.{BoundByPattern}
use Rattle.hir_facts.specs.Literals.{IsPatternOf, IsLiteral}

-- no constant, static or variant is carried yet
abbrev pub body_id_of : RawFacts → DefWithBodyId → Option BodyId
body_id_of raw (def.FunctionId f) = option_and_then (λ x. x.body) (slice_get raw.fns f.0)
body_id_of raw _ = None

-- the definition is in range and has a body
abbrev pub HasBody : RawFacts → DefWithBodyId → Type 0
HasBody raw d = IsSome (body_id_of raw d)

abbrev pub body_of : RawFacts → DefWithBodyId → Option RawBody
body_of raw d = option_and_then (λ i. slice_get raw.bodies i.0) (body_id_of raw d)

-- the definition has a body, which is carried
abbrev pub HasCarriedBody : RawFacts → DefWithBodyId → Type 0
HasCarriedBody raw d = IsSomeAnd (body_of raw d) (λ b. IsTrue (is_carried_body b))

abbrev pub output_by : RawFacts → Option RawFn → Ty
output_by raw None = ty.Error
output_by raw (Some f) = written_type raw.types f.output

-- the type that the body is typed against
abbrev pub return_type : RawFacts → DefWithBodyId → Ty
return_type raw (def.FunctionId f) = output_by raw (slice_get raw.fns f.0)
return_type raw (def.ConstId c) = ty.Error
return_type raw (def.StaticId s) = ty.Error
return_type raw (def.VariantId v) = ty.Error

abbrev pub inputs_by : Option RawFn → List TypeRefId
inputs_by None = []
inputs_by (Some f) = f.inputs

-- the written types of the parameters
abbrev pub inputs_of : RawFacts → DefWithBodyId → List TypeRefId
inputs_of raw (def.FunctionId f) = inputs_by (slice_get raw.fns f.0)
inputs_of raw _ = []

-- a pattern that comes before the expression e binds v
abbrev pub IsTypedBefore : RawBody → Schedule → ExprId → BindingId → Type 0
IsTypedBefore b s e v =
    (p : PatId) × Binds b p v × (start b s (inner (node.PatId p)) < start b s (inner (node.ExprId e)))

-- the laws of one body, with the order of its walk
pub record IsWalkable (b : RawBody) (s : Schedule) : Type 0 where
  pub schedule : IsSchedule b s
  pub carried : IsTrue (is_carried_body b)
  pub fit : PartsFit b
  pub binders : (p : PatId) (v : BindingId) → Binds b p v → v.0 < length b.bindings
  pub bound : (v : BindingId) → v.0 < length b.bindings → BoundByPattern b v
  pub scopes : (e : ExprId) (v : BindingId) → slice_get b.exprs e.0 ≡ Some (expr.Path (path.Local v))
      → IsTypedBefore b s e v
  pub literals : (p : ℕ) (e : ExprId) → IsPatternOf b p e → IsLiteral (slice_get b.exprs e.0)
