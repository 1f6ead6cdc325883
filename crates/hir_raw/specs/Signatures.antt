-- What callable items take and give.
use Rattle.std.specs.Prelude.{◌≡◌, ◌+◌, ℕ, zero, suc, List, [], ◌∷◌, map, length, slice_get, Option, Some, None, option_map, refl}
use Rattle.std.specs.Option.{option_and_then}
use Rattle.std.proofs.Common.{arith, ap, ◌∙◌, subst}
use Rattle.hir_raw.specs.Words.{AdtId, VariantId, CallableDefId, GenericArg, Ty, with_params, Replacement, replaced, replaced_adt, param_at, types_args_replaced}
use Rattle.hir_types.specs.declared.ids.CallableDefId.TheVariants as callable
use Rattle.hir_types.specs.declared.ty.GenericArg.TheVariants as arg
use Rattle.hir_types.specs.declared.ty.Ty.TheVariants as ty
use Rattle.hir_raw.specs.declared.raw.RawType.{RawType}
use Rattle.hir_raw.specs.declared.raw.RawCtor.{RawCtor}
use Rattle.hir_raw.specs.declared.raw.RawCtor.TheVariants as ctor
use Rattle.hir_raw.specs.declared.raw.RawVariant.{RawVariant}
use Rattle.hir_raw.specs.declared.raw.RawFn.{RawFn}
use Rattle.hir_raw.specs.declared.raw.RawFacts.{RawFacts}
use Rattle.hir_raw.specs.WrittenTypes.{written_type}
use Rattle.hir_raw.specs.Hidden.{fn_aliases, variant_aliases, opened}
use Rattle.hir_raw.specs.Scope.{adt_params, fn_arity, variant_arity}

-- how many parameters an item has, those for associated types in what it takes and gives among them, and in these what it takes and gives
pub record Signature : Type 0 where
  pub params : ℕ
  pub inputs : List Ty
  pub output : Ty

-- the written types of a function, where each associated type that it takes or gives is a parameter after its own
abbrev pub fn_types : List RawType → RawFn → List RawType
fn_types types f = opened (length f.params) (fn_aliases types f) types

abbrev pub fn_signature : List RawType → RawFn → Signature
fn_signature types f =
    record {
      params = fn_arity types f;
      inputs = map (written_type (fn_types types f)) f.inputs;
      output = written_type (fn_types types f) f.output;
    }

-- types as arguments
abbrev pub type_args : List Ty → List GenericArg
type_args ts = map arg.Ty ts

-- the type with these in the place of parameters
abbrev pub at_args : List Ty → Ty → Ty
at_args ts t = replaced (with_params (type_args ts)) t

-- ---- constructors

-- so many parameters from this one on
abbrev pub params_from : ℕ → ℕ → List Ty
params_from i zero = []
params_from i (suc n) = ty.Param i ∷ params_from (suc i) n

-- an adt with this many parameters, at these themselves
abbrev pub own_adt : AdtId → ℕ → Ty
own_adt a n = ty.Adt a (type_args (params_from 0 n))

abbrev pub field_types : List RawType → RawVariant → List Ty
field_types types x = map (λ f. written_type types f.type_) x.fields

-- the written types of a variant of an adt with n parameters, where each associated type in a field is a parameter after these
abbrev pub variant_types : List RawType → ℕ → RawVariant → List RawType
variant_types types n x = opened n (variant_aliases types x) types

-- what its constructor takes
abbrev pub taken_types : List RawType → ℕ → RawVariant → List Ty
taken_types types n x = field_types (variant_types types n x) x

-- the constructor of a variant `V(..)` takes its fields and gives its adt, at the adt's own parameters
abbrev pub signature_by : RawCtor → List RawType → ℕ → RawVariant → Option Signature
signature_by ctor.Unit types n x = None
signature_by ctor.Tuple types n x =
    Some (record { params = variant_arity types x n; inputs = taken_types types n x; output = own_adt x.adt n })
signature_by ctor.Record types n x = None

-- where the variant's adt has n parameters
abbrev pub ctor_signature : List RawType → ℕ → RawVariant → Option Signature
ctor_signature types n x = signature_by x.ctor types n x

-- a constructor at these types, as an item that can be called
abbrev pub ctor_item : VariantId → List Ty → Ty
ctor_item v ts = ty.FnDef (callable.VariantId v) (type_args ts)

-- What a path to a constructor is, at these types for its parameters. No associated type stands in a field of a variant `V`, so its
-- parameters are
-- those of its adt.
abbrev pub ctor_type_by : RawCtor → AdtId → VariantId → List Ty → Ty
ctor_type_by ctor.Unit a v ts = ty.Adt a (type_args ts)
ctor_type_by ctor.Tuple a v ts = ty.FnDef (callable.VariantId v) (type_args ts)
ctor_type_by ctor.Record a v ts = ty.Error

abbrev pub ctor_type : RawVariant → VariantId → List Ty → Ty
ctor_type x v ts = ctor_type_by x.ctor x.adt v ts

-- ---- callable items

abbrev pub signature_of : RawFacts → CallableDefId → Option Signature
signature_of raw (callable.FunctionId f) = option_map (fn_signature raw.types) (slice_get raw.fns f.0)
signature_of raw (callable.VariantId v) =
    option_and_then (λ x. option_and_then (λ n. ctor_signature raw.types n x) (adt_params raw x.adt)) (slice_get raw.variants v.0)

-- ---- an adt at its own parameters

from_zero : (k : ℕ) → k ≡ 0 + k
from_zero k = omega arith

plus_zero : (i : ℕ) → i + 0 ≡ i
plus_zero i = omega arith

plus_suc : (i k : ℕ) → i + suc k ≡ suc i + k
plus_suc i k = omega arith

params_at : (ts us : List Ty) (i : ℕ)
    → ((k : ℕ) (u : Ty) → slice_get us k ≡ Some u → slice_get ts (i + k) ≡ Some u)
    → map (at_args ts) (params_from i (length us)) ≡ us
params_at ts [] i h = refl
params_at ts (u ∷ us) i h =
    let first : at_args ts (ty.Param i) ≡ u = param_at ts i u (subst (λ n. slice_get ts n ≡ Some u) (plus_zero i) (h 0 u refl)) in
    let rest : map (at_args ts) (params_from (suc i) (length us)) ≡ us =
    params_at ts us (suc i) (λ k t e. subst (λ n. slice_get ts n ≡ Some t) (plus_suc i k) (h (suc k) t e)) in
    λ j. first j ∷ rest j

-- at types of which the first are for its parameters it is the adt at these
pub own_adt_first : (a : AdtId) (ts us : List Ty) → ((k : ℕ) (u : Ty) → slice_get us k ≡ Some u → slice_get ts k ≡ Some u)
    → at_args ts (own_adt a (length us)) ≡ ty.Adt a (type_args us)
own_adt_first a ts us first =
    let s : Replacement = with_params (type_args ts) in
    replaced_adt s a (type_args (params_from 0 (length us)))
    ∙ ap (ty.Adt a) (types_args_replaced s (params_from 0 (length us)) ∙ ap type_args
    (params_at ts us 0 (λ k u e. subst (λ n. slice_get ts n ≡ Some u) (from_zero k) (first k u e))))

pub own_adt_at : (a : AdtId) (ts : List Ty) → at_args ts (own_adt a (length ts)) ≡ ty.Adt a (type_args ts)
own_adt_at a ts = own_adt_first a ts ts (λ k u e. e)
