-- The names of fields, one after another.
use Rattle.std.proofs.Common.{◌≡◌, ◌<◌, ◌^◌, ℕ, zero, suc, List, [], ◌∷◌, length, take, Some, refl, sym, ◌∙◌, arith}
use Rattle.std.specs.Prelude.{slice_get}
use Rattle.std.specs.Fmt.{decimal}
use Rattle.std.proofs.lemmas.Fmt.{decimal_injective}
use Rattle.std.proofs.lemmas.Option.{slice_get_within}
use Rattle.hir_laws.specs.Words.{RawField, RawVariant, AllHold, NamesFit}
use Rattle.hir_laws.specs.Own.{IsNew}

take_get : {A : Type 0} (xs : List A) (n j : ℕ) → j < n → slice_get (take n xs) j ≡ slice_get xs j
take_get xs zero j lt = absurd (omega arith)
take_get [] (suc n) j lt = refl
take_get (x ∷ xs) (suc n) zero lt = refl
take_get (x ∷ xs) (suc n) (suc j) lt = take_get xs n j (omega arith)

-- none of the fields before position i has this name
pub new_here : (fields : List RawField) (i : ℕ) (f : RawField) → ((j : ℕ) (g : RawField) → slice_get (take i fields) j ≡ Some g → g.name ≡ f.name → ⊥) → IsNew fields i f
new_here fields i f none j g lt found = none j g (take_get fields i j lt ∙ found)

pub numbered_fits : (v : RawVariant) → length v.fields < 2 ^ 64 → AllHold (λ i f. f.name ≡ decimal i) v.fields → NamesFit v
numbered_fits v small all = record {
  distinct = λ i j f g at_i at_j same.
      (let below_i : i < length v.fields = slice_get_within v.fields i f at_i in
      let below_j : j < length v.fields = slice_get_within v.fields j g at_j in
      decimal_injective i j (omega (arith, small)) (omega (arith, small)) (sym (all i f at_i) ∙ (same ∙ all j g at_j)));
  numbered = λ is i f found. all i f found;
}
