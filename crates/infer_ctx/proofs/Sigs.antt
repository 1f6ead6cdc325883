-- What functions and constructors take and give, at types in the place of parameters.
use Rattle.std.proofs.Common.{ℕ, ◌≡◌, ◌≤◌, arith, refl, sym, ap, subst, ◌∙◌, List, length, take, Option, Some, None, slice_get, option_map, option_and_then}
use Rattle.std.proofs.lemmas.List.{length-map, length-take-le, take-map}
use Rattle.infer_ctx.specs.Words.{AdtId, FunctionId, VariantId, GenericArg, Ty, map_twice, fn_def_tells, RawAdt, RawCtor, RawFacts, RawField, RawFn, RawType, RawVariant, adt_params, variant_arity, Signature, fn_types, fn_signature, signature_of, signature_by, ctor_signature, variant_types, taken_types, own_adt, own_adt_first, type_args, at_args, written_type}
use Rattle.hir_types.specs.declared.ids.CallableDefId.TheVariants as callable
use Rattle.hir_types.specs.declared.ty.GenericArg.TheVariants as arg
use Rattle.hir_types.specs.declared.ty.Ty.TheVariants as ty
use Rattle.infer_ctx.specs.Words.hir_raw.declared.raw.RawCtor.TheVariants as ctor
use Rattle.infer_ctx.proofs.Words.{get_from_take}
use Rattle.infer_ctx.specs.Own.{CallableSig, IsCallableItem, IsFnSig, IsCtorSig, IsSigOf, IsSigOfItem, ctor_at}
use Rattle.infer_ctx.proofs.Items.{signature_count}

module _ (raw : RawFacts) (sig : CallableSig) where
  fn_gives : (o : Option RawFn) (ts : List Ty) (σ : Signature) → ((x : RawFn) → o ≡ Some x → IsFnSig raw.types x (type_args ts) sig) → option_map (fn_signature raw.types) o ≡ Some σ → IsSigOf σ ts sig
  fn_gives None ts σ h found = absurd (cc)
  fn_gives (Some x) ts σ h found =
      let own : fn_signature raw.types x ≡ σ = cc in
      let k = h x refl in
      subst (λ s. IsSigOf s ts sig) own (record {
        inputs = k.inputs ∙ sym (map_twice (at_args ts) (written_type (fn_types raw.types x)) x.inputs);
        output = k.output;
      })

  pub sig_of_function : (f : FunctionId) (xs : List GenericArg) (t : Ty) → t ≡ ty.FnDef (callable.FunctionId f) xs → ((x : RawFn) → slice_get raw.fns f.0 ≡ Some x → IsFnSig raw.types x xs sig) → IsSigOfItem raw t sig
  sig_of_function f xs t is h id ts σ at found count =
      let same = fn_def_tells (callable.FunctionId f) id xs (type_args ts) (sym is ∙ at) in
      fn_gives (slice_get raw.fns f.0) ts σ (λ x e. subst (λ ys. IsFnSig raw.types x ys sig) same.1 (h x e)) (subst (λ i. signature_of raw i ≡ Some σ) (sym same.0) found)

  -- the adt at the first of these types
  own_at : (a : AdtId) (ts : List Ty) (n : ℕ) → n ≤ length ts → ty.Adt a (take n (type_args ts)) ≡ at_args ts (own_adt a n)
  own_at a ts n le =
      let us : List Ty = take n ts in
      ap (ty.Adt a) (take-map arg.Ty n ts)
      ∙ (sym (own_adt_first a ts us (λ k u e. (get_from_take ts n k u e).1))
      ∙ ap (λ m. at_args ts (own_adt a m)) (length-take-le n ts le))

  ctor_gives : (x : RawVariant) (n : ℕ) (k : RawCtor) (ts : List Ty) (σ : Signature) → IsCtorSig raw.types n x (type_args ts) sig → signature_by k raw.types n x ≡ Some σ → length ts ≡ σ.params → IsSigOf σ ts sig
  ctor_gives x n ctor.Unit ts σ h found count = absurd (cc)
  ctor_gives x n ctor.Record ts σ h found count = absurd (cc)
  ctor_gives x n ctor.Tuple ts σ h found count =
      let types : List RawType = variant_types raw.types n x in
      let m : ℕ = variant_arity raw.types x n in
      let own : record { params = m; inputs = taken_types raw.types n x; output = own_adt x.adt n } ≡ σ = cc in
      let size : length ts ≡ m = count ∙ sym (ap (λ (s : Signature). s.params) own) in
      subst (λ s. IsSigOf s ts sig) own (record {
        inputs = h.inputs ∙ sym (map_twice (at_args ts) (λ (f : RawField). written_type types f.type_) x.fields);
        output = h.output ∙ own_at x.adt ts n (omega (arith, size));
      })

  -- of an adt with so many parameters
  abbrev GivesCtor : RawVariant → List GenericArg → Type 0
  GivesCtor x xs = (n : ℕ) → adt_params raw x.adt ≡ Some n → IsCtorSig raw.types n x xs sig

  params_given : (x : RawVariant) (o : Option ℕ) (ts : List Ty) (σ : Signature) → ((n : ℕ) → o ≡ Some n → IsCtorSig raw.types n x (type_args ts) sig) → option_and_then (λ n. ctor_signature raw.types n x) o ≡ Some σ → length ts ≡ σ.params → IsSigOf σ ts sig
  params_given x None ts σ h found count = absurd (cc)
  params_given x (Some n) ts σ h found count = ctor_gives x n x.ctor ts σ (h n refl) found count

  variant_gives : (o : Option RawVariant) (ts : List Ty) (σ : Signature) → ((x : RawVariant) → o ≡ Some x → GivesCtor x (type_args ts)) → option_and_then (λ x. option_and_then (λ n. ctor_signature raw.types n x) (adt_params raw x.adt)) o ≡ Some σ → length ts ≡ σ.params → IsSigOf σ ts sig
  variant_gives None ts σ h found count = absurd (cc)
  variant_gives (Some x) ts σ h found count = params_given x (adt_params raw x.adt) ts σ (h x refl) found count

  pub sig_of_variant : (v : VariantId) (xs : List GenericArg) (t : Ty) → t ≡ ty.FnDef (callable.VariantId v) xs
      → ((x : RawVariant) (n : ℕ) → slice_get raw.variants v.0 ≡ Some x → adt_params raw x.adt ≡ Some n → IsCtorSig raw.types n x xs sig) → IsSigOfItem raw t sig
  sig_of_variant v xs t is h id ts σ at found count =
      let same = fn_def_tells (callable.VariantId v) id xs (type_args ts) (sym is ∙ at) in
      variant_gives (slice_get raw.variants v.0) ts σ (λ x e. subst (λ ys. GivesCtor x ys) same.1 (λ n c. h x n e c)) (subst (λ i. signature_of raw i ≡ Some σ) (sym same.0) found) count

-- a constructor that is called has an argument for each parameter of its adt
pub ctor_enough : (raw : RawFacts) (v : VariantId) (xs : List GenericArg) → IsCallableItem raw (ctor_at v xs) → (x : RawVariant) (a : RawAdt) → slice_get raw.variants v.0 ≡ Some x → slice_get raw.adts x.adt.0 ≡ Some a → length a.params ≤ length xs
ctor_enough raw v xs h x a at adt =
    let same = fn_def_tells (callable.VariantId v) h.id xs (type_args h.types) h.is in
    let found : signature_of raw (callable.VariantId v) ≡ Some h.signature = subst (λ i. signature_of raw i ≡ Some h.signature) (sym same.0) h.found in
    let counted : Some (variant_arity raw.types x (length a.params)) ≡ Some h.signature.params =
    ap (λ o. option_map (variant_arity raw.types x) (option_map (λ (y : RawAdt). length y.params) o)) (sym adt)
    ∙ (ap (option_and_then (λ (z : RawVariant). option_map (variant_arity raw.types z) (adt_params raw z.adt))) (sym at) ∙ signature_count raw (callable.VariantId v) h.signature found) in
    let many : variant_arity raw.types x (length a.params) ≡ h.signature.params = cc in
    let size : length xs ≡ length h.types = ap (λ ys. length ys) same.1 ∙ length-map h.types arg.Ty in
    omega (arith, many, size, h.count)
