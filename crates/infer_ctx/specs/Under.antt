-- What each function of the walk is given, and what it does, under one assignment of types to holes.
use Rattle.std.specs.Prelude.{ℕ, ◌≡◌, slice_get, Some, ◌⊎◌, Option, ◌<◌, ◌^◌, List, [], length, None, ◌+◌}
use Rattle.infer_ctx.specs.Words.{CallableDefId, Ty, VariantId, ExprId, FunctionId, PatId, TypeRefId, RawFacts, callable_params, adt_params, variant_arity, types_scope, variant_aliases, Signature, signature_of, taken_types, RawVariant, FitsThere, stmt_at, end, the_body, Node, Part, IsNode, part_at, Fits, Schedule, IsWalkable, RawBody, IsCarriedType, NamesVariant, IsVariantPat, Given, IsAtOrMismatch, HasTy, recorded, InferenceResult, ObeysOrMismatch}
use Rattle.hir_types.specs.declared.ids.CallableDefId.TheVariants as callable
use Rattle.infer_ctx.specs.Words.hir_raw.declared.raw.RawCtor.TheVariants as ctor
use Rattle.infer_ctx.specs.Words.hir_raw.declared.raw.RawExpr.TheVariants as expr
use Rattle.infer_ctx.specs.Words.hir_raw.declared.raw.RawPath.TheVariants as path
use Rattle.infer_ctx.specs.Words.hir_raw.declared.raw.RawStmt.TheVariants as stmt
use Rattle.infer_ctx.specs.Fine.{IsCarriedIn}
use Rattle.infer_ctx.specs.Found.{Found}
use Rattle.infer_ctx.specs.Context.{IsCarriedExpectation}
use Rattle.infer_ctx.specs.Walks.{IsWalked, expr_start, Walks, Owed, expr_end, Extends, PaidBy}

-- the function or constructor exists, and what its signature is written with is in its own scope
pub record IsItem (facts : RawFacts) (id : CallableDefId) : Type 0 where
  pub signature : Signature
  pub found : signature_of facts id ≡ Some signature
  pub count : callable_params facts id ≡ Some signature.params
  pub inputs : (k : ℕ) (t : Ty) → slice_get signature.inputs k ≡ Some t → IsCarriedIn (types_scope facts signature.params) t
  pub output : IsCarriedIn (types_scope facts signature.params) signature.output

-- the variant exists, its fields have no names, and what its constructor takes is in the scope of that
pub record IsVariant (facts : RawFacts) (v : VariantId) : Type 0 where
  pub variant : RawVariant
  pub found : slice_get facts.variants v.0 ≡ Some variant
  pub params : ℕ
  pub count : adt_params facts variant.adt ≡ Some params
  pub fields : (k : ℕ) (t : Ty) → slice_get (taken_types facts.types params variant) k ≡ Some t
      → IsCarriedIn (types_scope facts (variant_arity facts.types variant params)) t
  pub unnamed : (variant.ctor ≡ ctor.Unit) ⊎ (variant.ctor ≡ ctor.Tuple)
  pub unit : variant.ctor ≡ ctor.Unit → variant_aliases facts.types variant ≡ []

-- each type that a `let` of the body is written with is one of the facts', what is known of an associated type in it and the type of a
-- parameter are in scope, each function and constructor that is named exists, and so does each item that has a signature
pub record WrittenExist (g : Given) : Type 0 where
  pub lets : (e : ExprId) (i : ℕ) (p : PatId) (w : TypeRefId) (init other : Option ExprId)
      → stmt_at g.body e i ≡ Some (stmt.Let p (Some w) init other) → FitsThere g.scope.facts g.scope.params w.0
  pub aliases : (k : ℕ) (t : Ty) → recorded g.aliases k ≡ Some t → IsCarriedIn g.scope t
  pub inputs : (i : ℕ) (t : Ty) → slice_get g.inputs i ≡ Some (Some t) → IsCarriedIn g.scope t
  pub functions : (e : ExprId) (f : FunctionId) → slice_get g.body.exprs e.0 ≡ Some (expr.Path (path.Function f))
      → IsItem g.scope.facts (callable.FunctionId f)
  pub constructors : (e : ExprId) (v : VariantId) → NamesVariant g.body e v → IsVariant g.scope.facts v
  pub patterns : (p : PatId) (v : VariantId) → IsVariantPat g.body p v → IsVariant g.scope.facts v
  pub items : (id : CallableDefId) (σ : Signature) → signature_of g.scope.facts id ≡ Some σ → IsItem g.scope.facts id

-- the laws of the body, and room for the clock
pub record IsReady (g : Given) (s : Schedule) : Type 0 where
  pub law : IsWalkable g.body s
  pub written : WrittenExist g
  pub room : end g.body s the_body < 2 ^ 64

-- the parts ps of the node n come one after another, the first with the number `from`
pub record LieAhead (b : RawBody) (s : Schedule) (n : Node) (from : ℕ) (ps : List Part) : Type 0 where
  pub node_is : IsNode b n
  pub fit : Fits b s from ps
  pub stand : (k : ℕ) (p : Part) → slice_get ps k ≡ Some p → (j : ℕ) × (part_at b n j ≡ Some p)

-- ---- expressions

-- the walk comes to the expression e, of which x is expected
pub record ComesTo (g : Given) (s : Schedule) (e : ExprId) (x : Option Ty) (c : Found) : Type 0 where
  pub ready : IsReady g s
  pub state : IsWalked g s c
  pub within : e.0 < length g.body.exprs
  pub here : expr_start g.body s e ≡ c.clock
  pub expected : IsCarriedExpectation x

-- the expression has the type t; where something else is expected, nothing is said of that yet
pub record OwnWalked (g : Given) (s : Schedule) (e : ExprId) (x : Option Ty) (t : Ty) (old new : Found) : Type 0 where
  pub walks : Walks g s (Owed e x) old new
  pub clock : new.clock ≡ expr_end g.body s e
  pub type_is : HasTy new.result e t

-- the expression is at the type t, which is the expected one where one is
abbrev pub IsPlaced : InferenceResult → ExprId → Option Ty → Ty → Type 0
IsPlaced r e None t = HasTy r e t
IsPlaced r e (Some u) t = (t ≡ u) × IsAtOrMismatch r e u

pub record CoerceWalked (g : Given) (s : Schedule) (e : ExprId) (x : Option Ty) (t : Ty) (old new : Found) : Type 0 where
  pub walks : Walks g s (Owed e x) old new
  pub clock : new.clock ≡ expr_end g.body s e
  pub placed : IsPlaced new.result e x t

-- ---- the kinds of expressions

-- the walk has come to the expression e, whose parts lie ahead
pub record IsInside (g : Given) (s : Schedule) (e : ExprId) (x : Option Ty) (c : Found) : Type 0 where
  pub ready : IsReady g s
  pub state : IsWalked g s c
  pub within : e.0 < length g.body.exprs
  pub clock : c.clock ≡ expr_start g.body s e + 1
  pub expected : IsCarriedExpectation x

-- Everything is done at the expression, but that its type t is to be recorded: its rule holds and
-- what is owed is paid as soon as it is, or by its place.
pub record KindWalked (g : Given) (s : Schedule) (e : ExprId) (x : Option Ty) (t : Ty) (old new : Found) : Type 0 where
  pub walks : Walks g s (PaidBy g e x t) old new
  pub clock : new.clock ≡ expr_end g.body s e
  pub carried : IsCarriedType t
  pub rule : (r : InferenceResult) → Extends new.result r → HasTy r e t → ObeysOrMismatch g r e
