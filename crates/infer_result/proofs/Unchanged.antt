-- What facts write has no holes that inference made, so no assignment changes it.
use Rattle.std.proofs.Common.{ℕ, zero, suc, ◌≡◌, refl, sym, ap, subst, ◌∙◌, List, [], ◌∷◌, map, length, Option, Some, None, slice_get, option_map, option_and_then}
use Rattle.infer_result.specs.Words.{AdtId, CallableDefId, TypeRefId, IntegerTy, Ty, Assignment, with_holes, folded, replaced_bool, replaced_char, replaced_int, replaced_uint, replaced_tuple, replaced_adt, replaced_param, integer_type, types_args_folded, instance_at_types, RawAdt, RawCtor, RawField, RawFn, RawType, RawVariant, RawFacts, IsLawful, HasNoHole, filled_written, filled_folded, adt_params, fn_arity, variant_arity, Signature, fn_signature, fn_types, signature_of, signature_by, ctor_signature, taken_types, variant_types, own_adt, params_from, type_args, at_args, written_type}
use Rattle.hir_types.specs.declared.ids.CallableDefId.TheVariants as callable
use Rattle.hir_types.specs.declared.ty.IntegerTy.TheVariants.{Int, Uint}
use Rattle.hir_types.specs.declared.ty.Ty.TheVariants as ty
use Rattle.infer_result.specs.Words.hir_raw.declared.raw.RawCtor.TheVariants as ctor
use Rattle.infer_result.proofs.Words.{Each, IsOver, over_input, over_output, over_field}

-- no assignment changes the type
abbrev pub IsUnchanged : Ty → Type 0
IsUnchanged t = (a : Assignment) → folded a t ≡ t

-- none changes any of these
abbrev pub AllUnchanged : List Ty → Type 0
AllUnchanged [] = Unit {0}
AllUnchanged (t ∷ ts) = IsUnchanged t × AllUnchanged ts

-- at types for its parameters, such a type is changed as these are
pub instances_under : (a : Assignment) (ts us : List Ty) → AllUnchanged us → map (folded a) (map (at_args ts) us) ≡ map (at_args (map (folded a) ts)) us
instances_under a ts [] h = refl
instances_under a ts (u ∷ us) h = λ i. instance_at_types a ts u h.0 i ∷ instances_under a ts us h.1 i

-- ---- written types

fill : ℕ → Ty
fill k = ty.Bool

pub written_unchanged : (types : List RawType) (w : TypeRefId) → HasNoHole types w → IsUnchanged (written_type types w)
written_unchanged types w none a =
    ap (folded a) (sym (filled_written fill types w none)) ∙ (filled_folded a fill types w ∙ filled_written (λ k. folded a (fill k)) types w none)

all_opened : (types : List RawType) (ws : List TypeRefId) → ((k : ℕ) (w : TypeRefId) → slice_get ws k ≡ Some w → IsUnchanged (written_type types w)) → AllUnchanged (map (written_type types) ws)
all_opened types [] each = tt
all_opened types (w ∷ ws) each = (each 0 w refl, all_opened types ws (λ k v e. each (suc k) v e))

all_fields : (types : List RawType) (fs : List RawField) → ((k : ℕ) (f : RawField) → slice_get fs k ≡ Some f → IsUnchanged (written_type types f.type_)) → AllUnchanged (map (λ (f : RawField). written_type types f.type_) fs)
all_fields types [] each = tt
all_fields types (f ∷ fs) each = (each 0 f refl, all_fields types fs (λ k x e. each (suc k) x e))

-- an adt at its own parameters
params_unchanged : (a : Assignment) (i n : ℕ) → map (folded a) (params_from i n) ≡ params_from i n
params_unchanged a i zero = refl
params_unchanged a i (suc n) = λ j. replaced_param (with_holes a) i j ∷ params_unchanged a (suc i) n j

own_adt_unchanged : (id : AdtId) (n : ℕ) → IsUnchanged (own_adt id n)
own_adt_unchanged id n a =
    replaced_adt (with_holes a) id (type_args (params_from 0 n)) ∙ ap (ty.Adt id) (types_args_folded a (params_from 0 n) ∙ ap type_args (params_unchanged a 0 n))

-- ---- over the kinds of written types

same_types : (a : Assignment) (ts : List Ty) → Each IsUnchanged ts → map (folded a) ts ≡ ts
same_types a [] each = refl
same_types a (t ∷ ts) each = λ i. each.0 a i ∷ same_types a ts each.1 i

integer_unchanged : (i : IntegerTy) → IsUnchanged (integer_type i)
integer_unchanged (Int i) a = replaced_int (with_holes a) i
integer_unchanged (Uint i) a = replaced_uint (with_holes a) i

over_unchanged : (raw : RawFacts) (n : ℕ) → IsOver raw n IsUnchanged
over_unchanged raw n = record {
  bool = λ a. replaced_bool (with_holes a);
  char = λ a. replaced_char (with_holes a);
  integer = integer_unchanged;
  tuple = λ ts each a. replaced_tuple (with_holes a) ts ∙ ap ty.Tuple (same_types a ts each);
  adt = λ id ts count each a. replaced_adt (with_holes a) id (type_args ts) ∙ ap (ty.Adt id) (types_args_folded a ts ∙ ap type_args (same_types a ts each));
  param = λ k within a. replaced_param (with_holes a) k;
}

-- ---- what lawful facts write

-- of a function or a constructor: what it takes and gives
pub record IsUnchangedSignature (σ : Signature) : Type 0 where
  pub inputs : AllUnchanged σ.inputs
  pub output : IsUnchanged σ.output

module _ (raw : RawFacts) (law : IsLawful raw) where
  fields_by : (v : ℕ) (x : RawVariant) → slice_get raw.variants v ≡ Some x → (o : Option RawAdt) → slice_get raw.adts x.adt.0 ≡ o → (n : ℕ) → option_map (λ a. length a.params) o ≡ Some n → AllUnchanged (taken_types raw.types n x)
  fields_by v x found None is n count = absurd (cc)
  fields_by v x found (Some a) is n count =
      let same : length a.params ≡ n = cc in
      let over = over_unchanged raw (variant_arity raw.types x (length a.params)) in
      subst (λ m. AllUnchanged (taken_types raw.types m x)) same
      (all_fields (variant_types raw.types (length a.params) x) x.fields (λ k f e. over_field raw law v x a found is IsUnchanged over k f e))

  -- what a constructor takes, of an adt with n parameters
  pub fields_unchanged : (v : ℕ) (x : RawVariant) → slice_get raw.variants v ≡ Some x → (n : ℕ) → adt_params raw x.adt ≡ Some n → AllUnchanged (taken_types raw.types n x)
  fields_unchanged v x found n count = fields_by v x found (slice_get raw.adts x.adt.0) refl n count

  by_fn : (f : ℕ) (o : Option RawFn) (σ : Signature) → slice_get raw.fns f ≡ o → option_map (fn_signature raw.types) o ≡ Some σ → IsUnchangedSignature σ
  by_fn f None σ found is = absurd (cc)
  by_fn f (Some x) σ found is =
      let same : fn_signature raw.types x ≡ σ = cc in
      subst IsUnchangedSignature same (record {
        inputs = all_opened (fn_types raw.types x) x.inputs (λ k w e. over_input raw law f x found IsUnchanged (over_unchanged raw (fn_arity raw.types x)) k w e);
        output = over_output raw law f x found IsUnchanged (over_unchanged raw (fn_arity raw.types x));
      })

  by_ctor : (v : ℕ) (x : RawVariant) → slice_get raw.variants v ≡ Some x → (k : RawCtor) (n : ℕ) → adt_params raw x.adt ≡ Some n → (σ : Signature) → signature_by k raw.types n x ≡ Some σ → IsUnchangedSignature σ
  by_ctor v x found ctor.Unit n count σ is = absurd (cc)
  by_ctor v x found ctor.Record n count σ is = absurd (cc)
  by_ctor v x found ctor.Tuple n count σ is =
      let own : record { params = variant_arity raw.types x n; inputs = taken_types raw.types n x; output = own_adt x.adt n } ≡ σ = cc in
      subst IsUnchangedSignature own (record { inputs = fields_unchanged v x found n count; output = own_adt_unchanged x.adt n })

  by_params : (v : ℕ) (x : RawVariant) → slice_get raw.variants v ≡ Some x → (o : Option ℕ) → adt_params raw x.adt ≡ o → (σ : Signature) → option_and_then (λ n. ctor_signature raw.types n x) o ≡ Some σ → IsUnchangedSignature σ
  by_params v x found None count σ is = absurd (cc)
  by_params v x found (Some n) count σ is = by_ctor v x found x.ctor n count σ is

  by_variant : (v : ℕ) (o : Option RawVariant) (σ : Signature) → slice_get raw.variants v ≡ o → option_and_then (λ x. option_and_then (λ n. ctor_signature raw.types n x) (adt_params raw x.adt)) o ≡ Some σ → IsUnchangedSignature σ
  by_variant v None σ found is = absurd (cc)
  by_variant v (Some x) σ found is = by_params v x found (adt_params raw x.adt) refl σ is

  pub signature_unchanged : (item : CallableDefId) (σ : Signature) → signature_of raw item ≡ Some σ → IsUnchangedSignature σ
  signature_unchanged (callable.FunctionId f) σ is = by_fn f.0 (slice_get raw.fns f.0) σ refl is
  signature_unchanged (callable.VariantId v) σ is = by_variant v.0 (slice_get raw.variants v.0) σ refl is
