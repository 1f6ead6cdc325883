-- What lawful facts say of variants.
use Rattle.std.specs.Prelude.{◌≡◌, ◌<◌, ◌⊎◌, ℕ, zero, suc, List, [], ◌∷◌, length, slice_get, Some, IsTrue, refl, is_none}
use Rattle.std.specs.Cmp.{first_so}
use Rattle.std.proofs.Common.{arith, inl, inr, subst}
use Rattle.hir_facts.specs.Words.{RawCtor, RawAdt, RawVariant, RawFacts, RawField, field_refs, variant_aliases, TypeRefId}
use Rattle.hir_raw.specs.declared.raw.RawCtor.TheVariants as ctor
use Rattle.hir_facts.specs.Own.{is_carried_ctor, IsNoProjection, IsLawful, carried_variants, variants_carried, variant_ids}
use Rattle.hir_facts.proofs.NoAliases.{no_field_aliases}

adt_there : (adts : List RawAdt) (i : ℕ) → i < length adts → (a : RawAdt) × (slice_get adts i ≡ Some a)
adt_there [] i lt = absurd (omega arith)
adt_there (a ∷ adts) zero lt = (a, refl)
adt_there (a ∷ adts) (suc i) lt = adt_there adts i (omega arith)

-- the adt of a variant is there
pub variant_adt : (raw : RawFacts) → IsLawful raw → (v : ℕ) (x : RawVariant) → slice_get raw.variants v ≡ Some x → (a : RawAdt) × (slice_get raw.adts x.adt.0 ≡ Some a)
variant_adt raw law v x found = adt_there raw.adts x.adt.0 (variant_ids raw law v x found).here.adt

no_record : (c : RawCtor) → IsTrue (is_carried_ctor c) → (c ≡ ctor.Unit) ⊎ (c ≡ ctor.Tuple)
no_record ctor.Unit h = inl refl
no_record ctor.Tuple h = inr refl
no_record ctor.Record h = absurd (cc)

-- it is no record
pub variant_ctor : (raw : RawFacts) → IsLawful raw → (v : ℕ) (x : RawVariant) → slice_get raw.variants v ≡ Some x → (x.ctor ≡ ctor.Unit) ⊎ (x.ctor ≡ ctor.Tuple)
variant_ctor raw law v x found = no_record x.ctor (first_so (is_carried_ctor x.ctor) (is_none x.body) (variants_carried raw law v x found))

-- a variant `V` has no associated type in a field

of_field : (fs : List RawField) (k : ℕ) (w : TypeRefId) → slice_get (field_refs fs) k ≡ Some w → (f : RawField) × (slice_get fs k ≡ Some f) × (f.type_ ≡ w)
of_field [] k w at = absurd (cc)
of_field (f ∷ fs) zero w at = (f, refl, cc)
of_field (f ∷ fs) (suc k) w at = of_field fs k w at

pub unit_aliases : (raw : RawFacts) → IsLawful raw → (v : ℕ) (x : RawVariant) → slice_get raw.variants v ≡ Some x → x.ctor ≡ ctor.Unit → variant_aliases raw.types x ≡ []
unit_aliases raw law v x found unit =
    no_field_aliases raw law x (λ k w at.
    (let f = of_field x.fields k w at in
    subst (λ (t : TypeRefId). IsNoProjection raw t.0) f.2 ((carried_variants raw law v x found).fields unit k f.0 f.1)))
