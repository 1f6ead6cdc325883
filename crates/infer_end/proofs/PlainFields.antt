-- A variant of a plain adt has no associated type in a field.
use Rattle.std.specs.List.{flat_map}
use Rattle.std.proofs.Common.{ℕ, zero, suc, ◌≡◌, ◌⊎◌, inl, inr, refl, sym, ap, ◌∙◌, subst, List, [], ◌∷◌, ◌++◌, map, length, Some, slice_get, true}
use Rattle.infer_end.specs.Words.{VariantId, RawAdt, RawFacts, RawVariant, variant_aliases, adt_variants, IsLawful, adt_ids, variant_ids, In, in_flat, IsPlainAdt, adt_fields, fields_by}
use Rattle.infer_end.proofs.Words.{no_field_aliases, type_direct}

-- ---- lists

from_both : {X : Type 0} (xs ys : List X) (j : ℕ) (x : X) → slice_get (xs ++ ys) j ≡ Some x → In xs x ⊎ In ys x
from_both [] ys j x at = inr (j, at)
from_both (y ∷ xs) ys zero x at = inl (0, at)
from_both (y ∷ xs) ys (suc j) x at = elim (from_both xs ys j x at) [ inl h ↦ inl (suc h.0, h.1) | inr h ↦ inr h ]

-- what stands in a list of parts stands in one of them
from_flat : {X Y : Type 0} (f : X → List Y) (xs : List X) (j : ℕ) (y : Y) → slice_get (flat_map f xs) j ≡ Some y → (i : ℕ) × (x : X) × (slice_get xs i ≡ Some x) × In (f x) y
from_flat f [] j y at = absurd (cc)
from_flat f (x ∷ xs) j y at = elim (from_both (f x) (flat_map f xs) j y at) [
  | inl h ↦ (0, x, refl, h)
  | inr h ↦ let q = from_flat f xs h.0 y h.1 in (suc q.0, q.1, q.2, q.3)
]

numbered : (vs : List VariantId) (j n : ℕ) → slice_get (map (λ (v : VariantId). Some v.0) vs) j ≡ Some (Some n) → (k : ℕ) × (v : VariantId) × (slice_get vs k ≡ Some v) × (v.0 ≡ n)
numbered [] j n at = absurd (cc)
numbered (v ∷ vs) zero n at = (0, v, refl, cc)
numbered (v ∷ vs) (suc j) n at = let q = numbered vs j n at in (suc q.0, q.1, q.2, q.3)

-- ---- the variant

module _ (raw : RawFacts) (law : IsLawful raw) (v : ℕ) (x : RawVariant) (at : slice_get raw.variants v ≡ Some x) where
  abbrev own : VariantId
  own = record { 0 = v }

  -- its adt lists it
  listed : (a : RawAdt) → slice_get raw.adts x.adt.0 ≡ Some a → In a.variants own
  listed a found =
      let once = (variant_ids raw law v x at).listed in
      let q = from_flat adt_variants raw.adts once.entry (Some v) once.names in
      let w = numbered q.1.variants q.3.0 v q.3.1 in
      let here = (adt_ids raw law q.0 q.1 q.2).variants w.0 w.1 w.2 in
      let same : here.0 ≡ x = (let both : Some here.0 ≡ Some x = sym here.1 ∙ (ap (slice_get raw.variants) w.3 ∙ at) in cc) in
      let number : x.adt.0 ≡ q.0 = ap (λ (y : RawVariant). y.adt.0) (sym same) ∙ here.2 in
      let adt : q.1 ≡ a = (let both : Some q.1 ≡ Some a = sym q.2 ∙ (ap (slice_get raw.adts) (sym number) ∙ found) in cc) in
      let is : w.1 ≡ own = ap (λ (n : ℕ). record { 0 = n }) w.3 in
      (w.0, subst (λ (b : RawAdt). slice_get b.variants w.0 ≡ Some own) adt (w.2 ∙ ap (λ u. Some u) is))

  pub adt_aliases : IsPlainAdt raw x.adt.0 → variant_aliases raw.types x ≡ []
  adt_aliases plain =
      let y = plain.is_plain.each x.adt.0 plain.has in
      let place = listed y.adt y.found in
      no_field_aliases raw law x (λ k w here.
      (let among : In (adt_fields raw y.adt) w = in_flat (λ (u : VariantId). fields_by (slice_get raw.variants u.0)) y.adt.variants place.0 own w place.1 (k, ap (λ o. slice_get (fields_by o) k) at ∙ here) in
      type_direct raw (λ b. plain.set b ≡ true) (length y.adt.params) w.0 (y.fields among.0 w among.1)))
