-- A path, which has the type of the local that it names, or of the function or constructor: Reference, "Path
-- expressions"; upstream `infer/path.rs`, `infer_path`.
use Rattle.std.specs.Prelude.{ℕ, ◌≡◌, List, length, slice_get, Option, Some, None}
use Rattle.infer_result.specs.Words.{ExprId, PatId, TypeRefId, VariantId, Ty, unit, BindingId, RawBody, RawVariant, type_args, callable_params, let_pattern, Node, RawPath}
use Rattle.hir_types.specs.declared.ids.ExprOrPatId.TheVariants as node
use Rattle.hir_types.specs.declared.ty.Ty.TheVariants as ty
use Rattle.hir_types.specs.declared.ids.CallableDefId.TheVariants as callable
use Rattle.infer_result.specs.Words.hir_raw.declared.raw.RawExpr.TheVariants as expr
use Rattle.infer_result.specs.Words.hir_raw.declared.raw.RawPat.TheVariants as pat
use Rattle.infer_result.specs.Words.hir_raw.declared.raw.RawPath.TheVariants as path
use Rattle.infer_result.specs.Words.hir_raw.declared.raw.RawCtor.TheVariants as ctor
use Rattle.infer_result.specs.declared.result.InferenceResult.{InferenceResult}
use Rattle.infer_result.specs.Table.{HasTy, BindingTy, ExprVariant}
use Rattle.infer_result.specs.Places.{Given, StandsAt}
use Rattle.infer_result.specs.Kinds.Constructor.{IsCtorPath}

-- ---- its rule

-- a function stands at as many types as it has parameters, those for associated types in its signature among
-- them, a constructor at as many as its adt has and one for each associated type in its fields; which variant it
-- is of is recorded
abbrev pub PathRule : Given → InferenceResult → ExprId → RawPath → Type 0
PathRule g r e (path.Local v) = (t : Ty) × HasTy r e t × BindingTy r v t
PathRule g r e (path.Function f) =
    (ts : List Ty) × HasTy r e (ty.FnDef (callable.FunctionId f) (type_args ts))
    × (callable_params g.scope.facts (callable.FunctionId f) ≡ Some (length ts))
PathRule g r e (path.Ctor v) = (t : Ty) × HasTy r e t × IsCtorPath g v t × ExprVariant r e v

-- ---- the type that it has by itself

-- the path e names a local that a `let` of this written type and initializer binds by its whole pattern
pub record NamesLet (b : RawBody) (e : ExprId) (written : Option TypeRefId) (init : Option ExprId) : Type 0 where
  pub binding : BindingId
  pub pattern : PatId
  pub names : slice_get b.exprs e.0 ≡ Some (expr.Path (path.Local binding))
  pub binds : slice_get b.pats pattern.0 ≡ Some (pat.Bind binding None)
  pub parent : Node
  pub at_part : ℕ
  pub stands : StandsAt b (node.PatId pattern) parent at_part (let_pattern written init)

-- the path e names a local that the parameter at this position binds by its whole pattern
pub record NamesParameter (b : RawBody) (e : ExprId) (i : ℕ) : Type 0 where
  pub binding : BindingId
  pub pattern : PatId
  pub names : slice_get b.exprs e.0 ≡ Some (expr.Path (path.Local binding))
  pub binds : slice_get b.pats pattern.0 ≡ Some (pat.Bind binding None)
  pub stands : slice_get b.params i ≡ Some pattern

-- the path e names the constructor of this variant, which is a `V` without generic parameters
pub record NamesUnit (g : Given) (e : ExprId) (x : RawVariant) : Type 0 where
  pub variant : VariantId
  pub names : slice_get g.body.exprs e.0 ≡ Some (expr.Path (path.Ctor variant))
  pub is_variant : slice_get g.scope.facts.variants variant.0 ≡ Some x
  pub unit : x.ctor ≡ ctor.Unit
  pub non_generic : callable_params g.scope.facts (callable.VariantId variant) ≡ Some 0
