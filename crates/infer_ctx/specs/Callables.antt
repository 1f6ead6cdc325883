-- What a callable item takes and gives.
use Rattle.std.specs.Prelude.{ℕ, List, ◌≡◌, map, length, Some, Option, None, take}
use Rattle.infer_ctx.specs.Words.{TypeRefId, GenericArg, Ty, with_params, replaced, CallableDefId, VariantId, RawType, written_type, RawField, RawFn, RawVariant, RawFacts, Signature, fn_types, variant_types, signature_of, type_args, at_args}
use Rattle.hir_types.specs.declared.ids.CallableDefId.TheVariants as callable
use Rattle.hir_types.specs.declared.ty.Ty.TheVariants as ty
use Rattle.infer_ctx.specs.declared.given.CallableSig.{CallableSig}

-- what the written type stands for, with these arguments in the place of parameters
abbrev pub written_at : List RawType → List GenericArg → TypeRefId → Ty
written_at types xs w = replaced (with_params xs) (written_type types w)

abbrev pub field_at : List RawType → List GenericArg → RawField → Ty
field_at types xs f = written_at types xs f.type_

-- it is what the function takes and gives at these arguments
pub record IsFnSig (types : List RawType) (x : RawFn) (xs : List GenericArg) (sig : CallableSig) : Type 0 where
  pub inputs : sig.inputs ≡ map (written_at (fn_types types x) xs) x.inputs
  pub output : sig.output ≡ written_at (fn_types types x) xs x.output

-- the constructor at these arguments
abbrev pub ctor_at : VariantId → List GenericArg → Ty
ctor_at v xs = ty.FnDef (callable.VariantId v) xs

-- it is what the constructor takes and gives, of an adt with n parameters
pub record IsCtorSig (types : List RawType) (n : ℕ) (x : RawVariant) (xs : List GenericArg) (sig : CallableSig) : Type 0 where
  pub inputs : sig.inputs ≡ map (field_at (variant_types types n x) xs) x.fields
  pub output : sig.output ≡ ty.Adt x.adt (take n xs)

-- the type is that of an item that can be called, at as many types as it has parameters
pub record IsCallableItem (facts : RawFacts) (t : Ty) : Type 0 where
  pub id : CallableDefId
  pub types : List Ty
  pub is : t ≡ ty.FnDef id (type_args types)
  pub signature : Signature
  pub found : signature_of facts id ≡ Some signature
  pub count : length types ≡ signature.params

-- it is what an item of this signature takes and gives at these types
pub record IsSigOf (σ : Signature) (ts : List Ty) (sig : CallableSig) : Type 0 where
  pub inputs : sig.inputs ≡ map (at_args ts) σ.inputs
  pub output : sig.output ≡ at_args ts σ.output

-- it is what the item of this type takes and gives
abbrev pub IsSigOfItem : RawFacts → Ty → CallableSig → Type 0
IsSigOfItem facts t sig = (id : CallableDefId) (ts : List Ty) (σ : Signature) → t ≡ ty.FnDef id (type_args ts)
    → signature_of facts id ≡ Some σ → length ts ≡ σ.params → IsSigOf σ ts sig

-- where the type is that of an item, that can be called
abbrev pub ItemsAreCallable : RawFacts → Ty → Type 0
ItemsAreCallable facts t = (id : CallableDefId) (xs : List GenericArg) → t ≡ ty.FnDef id xs → IsCallableItem facts t

-- what the item of this type takes and gives, or it is that of no item
abbrev pub IsSigIfItem : RawFacts → Ty → Option CallableSig → Type 0
IsSigIfItem facts t None = (id : CallableDefId) (xs : List GenericArg) → t ≡ ty.FnDef id xs → ⊥
IsSigIfItem facts t (Some sig) = IsCallableItem facts t × IsSigOfItem facts t sig
