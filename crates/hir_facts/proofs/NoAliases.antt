-- Where no projection stands in what a function takes and gives, none of its parameters stands for one.
use Rattle.std.specs.Prelude.{◌≡◌, ◌<◌, ℕ, zero, suc, ◌+◌, Bool, true, false, List, [], ◌∷◌, ◌++◌, length, slice_get, Option, Some, None, option_map, if◌then◌else◌, flat_map, refl}
use Rattle.std.proofs.Common.{arith, ap, sym, true≢false, ◌∙◌}
use Rattle.std.proofs.lemmas.Option.{slice_get-map}
use Rattle.hir_facts.specs.Words.{TypeRefId, RawFacts, RawField, RawFn, RawType, RawVariant, is_alias, aliases_by, aliases_within, aliases_at, aliases_in, fn_aliases, field_refs, variant_aliases, fn_arity, type_parts}
use Rattle.hir_facts.specs.Own.{HoldsProjection, is_one, in_part, IsNoProjection, SignatureNamesNone, IsLawful, type_ids, variant_ids, fn_ids, direct_here}

none_of : (f : ℕ → List ℕ) (ws : List TypeRefId) → ((k : ℕ) (w : TypeRefId) → slice_get ws k ≡ Some w → f w.0 ≡ []) → flat_map (λ w. f w.0) ws ≡ []
none_of f [] none = refl
none_of f (w ∷ ws) none = ap (λ ks. ks ++ flat_map (λ v. f v.0) ws) (none 0 w refl) ∙ none_of f ws (λ k v at. none (suc k) v at)

no_more : (n : ℕ) → n + 0 ≡ n
no_more n = omega arith

module _ (raw : RawFacts) (law : IsLawful raw) where
  in_parts : (f : ℕ → List ℕ) → ((j : ℕ) → IsNoProjection raw j → f j ≡ []) → (i : ℕ) (x : RawType) → slice_get raw.types i ≡ Some x → IsNoProjection raw i → flat_map (λ w. f w.0) (type_parts x) ≡ []
  in_parts f none i x found free = none_of f (type_parts x) (λ k w at. none w.0 (λ held. free (in_part i x k w found at (type_ids raw law i x found k w at) held)))

  by_type : (f : ℕ → List ℕ) → ((j : ℕ) → IsNoProjection raw j → f j ≡ []) → (i : ℕ) → IsNoProjection raw i → (o : Option RawType) → slice_get raw.types i ≡ o → aliases_by i f o ≡ []
  by_type f none i free None is = refl
  by_type f none i free (Some x) is = ap (λ b. if b then i ∷ [] else flat_map (λ w. f w.0) (type_parts x)) (direct_here raw i x is free) ∙ in_parts f none i x is free

  pub none_within : (n i : ℕ) → IsNoProjection raw i → aliases_within n raw.types i ≡ []
  none_within zero i free = refl
  none_within (suc n) i free = by_type (aliases_within n raw.types) (λ j h. none_within n j h) i free (slice_get raw.types i) refl

  pub no_aliases : (x : RawFn) → SignatureNamesNone raw x → fn_aliases raw.types x ≡ []
  no_aliases x names =
      let inputs : aliases_in raw.types x.inputs ≡ [] = none_of (aliases_within (length raw.types) raw.types) x.inputs (λ k w at. none_within (length raw.types) w.0 (names.inputs k w at)) in
      let output : aliases_at raw.types x.output.0 ≡ [] = none_within (length raw.types) x.output.0 names.output in
      λ i. inputs i ++ output i

  -- nor of a constructor, where none stands in a field
  pub no_field_aliases : (x : RawVariant) → ((k : ℕ) (w : TypeRefId) → slice_get (field_refs x.fields) k ≡ Some w → IsNoProjection raw w.0) → variant_aliases raw.types x ≡ []
  no_field_aliases x none = none_of (aliases_within (length raw.types) raw.types) (field_refs x.fields) (λ k w at. none_within (length raw.types) w.0 (none k w at))

  pub own_arity : (x : RawFn) → SignatureNamesNone raw x → fn_arity raw.types x ≡ length x.params
  own_arity x names = ap (λ ks. length x.params + length ks) (no_aliases x names) ∙ no_more (length x.params)

-- ---- where none is among them, none stands there

both_none : (xs ys : List ℕ) → xs ++ ys ≡ [] → (xs ≡ []) × (ys ≡ [])
both_none [] ys h = (refl, h)
both_none (x ∷ xs) ys h = absurd (cc)

none_in : (f : ℕ → List ℕ) (ws : List TypeRefId) → flat_map (λ w. f w.0) ws ≡ [] → (k : ℕ) (w : TypeRefId) → slice_get ws k ≡ Some w → f w.0 ≡ []
none_in f [] none k w at = absurd (cc)
none_in f (v ∷ ws) none zero w at = (let same : v ≡ w = cc in ap (λ (u : TypeRefId). f u.0) (sym same) ∙ (both_none (f v.0) (flat_map (λ u. f u.0) ws) none).0)
none_in f (v ∷ ws) none (suc k) w at = none_in f ws (both_none (f v.0) (flat_map (λ u. f u.0) ws) none).1 k w at

module _ (types : List RawType) where
  free_parts : (b : Bool) (i : ℕ) (ks : List ℕ) → (if b then i ∷ [] else ks) ≡ [] → ks ≡ []
  free_parts true i ks h = absurd (cc)
  free_parts false i ks h = h

  free_type : (b : Bool) (i : ℕ) (ks : List ℕ) → (if b then i ∷ [] else ks) ≡ [] → b ≡ true → ⊥
  free_type true i ks h is = cc
  free_type false i ks h is = true≢false (sym is)

  held_is_found : (i : ℕ) → HoldsProjection types i → (n : ℕ) → i < n → aliases_within n types i ≡ [] → ⊥
  held_is_found i held zero lt none = absurd (omega (arith, lt))
  held_is_found i (is_one _ x at alias) (suc n) lt none =
      free_type (is_alias x) i (flat_map (λ w. aliases_within n types w.0) (type_parts x)) (ap (aliases_by i (aliases_within n types)) (sym at) ∙ none) alias
  held_is_found i (in_part _ x k u at here before deeper) (suc n) lt none =
      held_is_found u.0 deeper n (omega (arith, before, lt))
      (none_in (aliases_within n types) (type_parts x) (free_parts (is_alias x) i (flat_map (λ w. aliases_within n types w.0) (type_parts x)) (ap (aliases_by i (aliases_within n types)) (sym at) ∙ none)) k u here)

pub names_none : (raw : RawFacts) → IsLawful raw → (f : ℕ) (x : RawFn) → slice_get raw.fns f ≡ Some x → fn_aliases raw.types x ≡ [] → SignatureNamesNone raw x
names_none raw law f x found none =
    let both = both_none (aliases_in raw.types x.inputs) (aliases_at raw.types x.output.0) none in
    record {
      inputs = λ k w at held. held_is_found raw.types w.0 held (length raw.types) ((fn_ids raw law f x found).inputs k w at) (none_in (aliases_within (length raw.types) raw.types) x.inputs both.0 k w at);
      output = λ held. held_is_found raw.types x.output.0 held (length raw.types) (fn_ids raw law f x found).output both.1;
    }

-- nor in a field of a variant
pub field_direct : (raw : RawFacts) → IsLawful raw → (v : ℕ) (x : RawVariant) → slice_get raw.variants v ≡ Some x → variant_aliases raw.types x ≡ [] → (k : ℕ) (f : RawField) → slice_get x.fields k ≡ Some f → IsNoProjection raw f.type_.0
field_direct raw law v x found none k f here held =
    held_is_found raw.types f.type_.0 held (length raw.types) ((variant_ids raw law v x found).here.fields k f here).written
    (none_in (aliases_within (length raw.types) raw.types) (field_refs x.fields) none k f.type_ (slice_get-map (λ (g : RawField). g.type_) x.fields k ∙ ap (option_map (λ (g : RawField). g.type_)) here))
