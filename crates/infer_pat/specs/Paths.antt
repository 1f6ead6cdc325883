-- What a path is given and gives.
use Rattle.std.specs.Prelude.{◌≡◌, List, length, Some, slice_get, ℕ}
use Rattle.infer_pat.specs.Words.{Ty, ExprId, Assignment, folded, GenericArg, RawPath, callable_params, Scope, type_args, Grew, StaysButHoles, InferenceResult, BindingTy, Given, IsCtorPath, IsVariant, IsItem, InferenceContext, IsFine, Tells, Closes, closed_table, IsSound, ArePartTypes}
use Rattle.hir_types.specs.declared.ids.CallableDefId.TheVariants as callable
use Rattle.hir_types.specs.declared.ty.Ty.TheVariants as ty
use Rattle.infer_pat.specs.Words.hir_raw.declared.raw.RawPath.TheVariants as path
use Rattle.infer_pat.specs.Words.hir_raw.declared.raw.RawExpr.TheVariants as expr

-- the path names a local of this type, or a function or a constructor at as many types as it has parameters
abbrev pub IsPathType : Given → InferenceResult → RawPath → Ty → Type 0
IsPathType g r (path.Local v) t = BindingTy r v t
IsPathType g r (path.Function f) t =
    (ts : List Ty) × (t ≡ ty.FnDef (callable.FunctionId f) (type_args ts))
    × (callable_params g.scope.facts (callable.FunctionId f) ≡ Some (length ts))
IsPathType g r (path.Ctor v) t = IsCtorPath g v t

-- it names a local that has a type, or a function or a constructor that exists
abbrev pub NamesTyped : Given → InferenceResult → RawPath → Type 0
NamesTyped g r (path.Local v) = (t : Ty) × BindingTy r v t
NamesTyped g r (path.Function f) = IsItem g.scope.facts (callable.FunctionId f)
NamesTyped g r (path.Ctor v) = IsVariant g.scope.facts v

-- ---- paths

-- the type is that of what the path names
pub record PathDone (g : Given) (p : RawPath) (t : Ty) (old new : InferenceContext) : Type 0 where
  pub result : new.result ≡ old.result
  pub asked : new.asked ≡ old.asked
  pub clock : new.clock ≡ old.clock
  pub grew : Grew old.goals.table new.goals.table
  pub stays : StaysButHoles old.goals new.goals
  pub sound : IsSound g.scope new
  pub fine : IsFine g.scope new.goals.table t
  pub tells : (e : ExprId) → slice_get g.body.exprs e.0 ≡ Some (expr.Path p) → Tells g e t
  pub each : (a : Assignment) → Closes a new → IsPathType g (closed_table a old.asked old.result) p (folded a t)

-- new holes in the place of an item's parameters
pub record AreFreshArgs (sc : Scope) (count : ℕ) (xs : List GenericArg) (old new : InferenceContext) : Type 0 where
  pub types : List Ty
  pub are : xs ≡ type_args types
  pub made : ArePartTypes sc count types old new
