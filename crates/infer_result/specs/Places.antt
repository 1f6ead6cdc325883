-- What a body is given, and where its expressions and patterns stand.
use Rattle.std.specs.Prelude.{ℕ, ◌≡◌, ◌⊎◌, List, slice_get, unwrap_or, Option, Some, None}
use Rattle.infer_result.specs.Words.{ExprId, PatId, TypeRefId, ExprOrPatId, Ty, Same, RawPat, RawType, RawBody, filled_type, StandsIn, masked, Scope, Role, Node, IsNode, part_at, stmt_at}
use Rattle.hir_types.specs.declared.ty.Ty.TheVariants as ty
use Rattle.infer_result.specs.Words.hir_raw.declared.raw.RawStmt.TheVariants as stmt
use Rattle.infer_result.specs.Words.hir_raw.declared.raw.RawPat.TheVariants as pat
use Rattle.infer_result.specs.declared.result.InferenceResult.{InferenceResult}
use Rattle.infer_result.specs.Table.{recorded, HasTy, PatTy, PlaceholderTy, HasMismatch, HasPatMismatch}

-- a body among its facts: what its types may name, the types of its parameters, the type that it is typed against, and what the associated
-- types are that its `let`s are written with, by the numbers of these types, each where the body knows of one
pub record Given : Type 0 where
  pub scope : Scope
  pub body : RawBody
  pub inputs : List (Option Ty)
  pub output : Option Ty
  pub aliases : List (Option Ty)

-- x is part k of the node n, in this role
pub record StandsAt (b : RawBody) (x : ExprOrPatId) (n : Node) (k : ℕ) (role : Role) : Type 0 where
  pub node_is : IsNode b n
  pub part : part_at b n k ≡ Some (record { node = x; role = role })

-- ---- the types of `let`s

-- the written types of the facts as `let`s read them: an associated type as a `_`
abbrev pub let_types : Given → List RawType
let_types g = masked g.scope.facts.types

-- what the `_` that is type k of the facts stands for
abbrev pub hole_type : InferenceResult → ℕ → Ty
hole_type r k = unwrap_or (recorded r.type_of_placeholder k) ty.Error

-- what the written type of a `let` stands for
abbrev pub declared : Given → InferenceResult → TypeRefId → Ty
declared g r w = filled_type (hole_type r) (let_types g) w

-- of each `_` that stands in it the type is recorded
abbrev pub AreRecorded : Given → InferenceResult → TypeRefId → Type 0
AreRecorded g r w = (k : ℕ) → StandsIn (let_types g) k w.0 → (t : Ty) × PlaceholderTy r k t

-- they are, and t is what the written type stands for
abbrev pub IsDeclared : Given → InferenceResult → TypeRefId → Ty → Type 0
IsDeclared g r w t = AreRecorded g r w × (t ≡ declared g r w)

-- type k of the facts is a `_`, or an associated type that is read as one, and stands in the type of a `let` of the body
pub record IsPlaceholder (g : Given) (k : ℕ) : Type 0 where
  pub block : ExprId
  pub at_stmt : ℕ
  pub pattern : PatId
  pub written : TypeRefId
  pub init : Option ExprId
  pub other : Option ExprId
  pub is_let : stmt_at g.body block at_stmt ≡ Some (stmt.Let pattern (Some written) init other)
  pub stands : StandsIn (let_types g) k written.0

-- the type is what the body knows of the associated type that is type k of the facts, if it knows of one
abbrev pub IsAsKnown : Given → ℕ → Ty → Type 0
IsAsKnown g k t = (u : Ty) → recorded g.aliases k ≡ Some u → t ≡ u

-- what a type is recorded for as that of a `_` is one of the body, and the type is what the body knows of it
abbrev pub OnlyPlaceholdersHaveTypes : Given → InferenceResult → Type 0
OnlyPlaceholdersHaveTypes g r = (k : ℕ) (t : Ty) → PlaceholderTy r k t → IsPlaceholder g k × IsAsKnown g k t

-- ---- where an expression and a pattern are

-- the expression is at the type t
abbrev pub IsAt : InferenceResult → ExprId → Ty → Type 0
IsAt r e t = (a : Ty) × HasTy r e a × Same a t

-- it is, or a mismatch is listed at it
abbrev pub IsAtOrMismatch : InferenceResult → ExprId → Ty → Type 0
IsAtOrMismatch r e t = (a : Ty) × HasTy r e a × (Same a t ⊎ HasMismatch r e)

-- the expression is at the type, if there is one, or has any type
abbrev pub IsAtMaybe : InferenceResult → ExprId → Option Ty → Type 0
IsAtMaybe r e None = (a : Ty) × HasTy r e a
IsAtMaybe r e (Some t) = IsAt r e t

abbrev pub IsAtMaybeOrMismatch : InferenceResult → ExprId → Option Ty → Type 0
IsAtMaybeOrMismatch r e None = (a : Ty) × HasTy r e a
IsAtMaybeOrMismatch r e (Some t) = IsAtOrMismatch r e t

-- A mismatch stands at the pattern, or at the literal that it is. What binds a name or nothing has none.
abbrev pub MisfitsAs : InferenceResult → PatId → Option RawPat → Type 0
MisfitsAs r p (Some (pat.Tuple ps)) = HasPatMismatch r p
MisfitsAs r p (Some (pat.TupleStruct named ps)) = HasPatMismatch r p
MisfitsAs r p (Some (pat.Path named)) = HasPatMismatch r p
MisfitsAs r p (Some (pat.Lit e)) = HasMismatch r e
MisfitsAs r p _ = ⊥

-- the pattern has the type that comes in, or a mismatch is listed at it
abbrev pub PatIsAtOrMismatch : Given → InferenceResult → PatId → Ty → Type 0
PatIsAtOrMismatch g r p t = (a : Ty) × PatTy r p a × ((a ≡ t) ⊎ MisfitsAs r p (slice_get g.body.pats p.0))
