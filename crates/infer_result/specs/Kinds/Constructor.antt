-- What the constructor of a variant is: Reference, "Struct expressions", "Enumerations"; upstream
-- `infer/path.rs`.
use Rattle.std.specs.Prelude.{ℕ, ◌≡◌, List, length, map, slice_get, Some}
use Rattle.hir_types.specs.declared.ids.CallableDefId.TheVariants as callable
use Rattle.infer_result.specs.Words.{VariantId, Ty, RawVariant, type_args, at_args, taken_types, ctor_type, adt_params, callable_params}
use Rattle.hir_types.specs.declared.ty.Ty.TheVariants as ty
use Rattle.infer_result.specs.Places.{Given}

-- the variant, at as many types as its adt has parameters
pub record IsVariantAt (g : Given) (v : VariantId) (x : RawVariant) (ts : List Ty) : Type 0 where
  pub found : slice_get g.scope.facts.variants v.0 ≡ Some x
  pub count : adt_params g.scope.facts x.adt ≡ Some (length ts)

-- its adt at these types
abbrev pub adt_at : RawVariant → List Ty → Ty
adt_at x ts = ty.Adt x.adt (type_args ts)

-- the variant, and as many types as its constructor has parameters: those of the adt, and one for each associated type in its fields
pub record IsCtorAt (g : Given) (v : VariantId) (x : RawVariant) (ts : List Ty) : Type 0 where
  pub found : slice_get g.scope.facts.variants v.0 ≡ Some x
  pub count : callable_params g.scope.facts (callable.VariantId v) ≡ Some (length ts)

-- the types of the fields at these types, of which the first n are for the parameters of the adt
abbrev pub fields_at : Given → RawVariant → ℕ → List Ty → List Ty
fields_at g x n ts = map (at_args ts) (taken_types g.scope.facts.types n x)

-- t is the type of a path to the constructor, at some types
pub record IsCtorPath (g : Given) (v : VariantId) (t : Ty) : Type 0 where
  pub variant : RawVariant
  pub types : List Ty
  pub is_ctor : IsCtorAt g v variant types
  pub is : t ≡ ctor_type variant v types
