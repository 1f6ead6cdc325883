-- The associated types that stand in a written type, step by step, and how many they are.
use Rattle.std.specs.Prelude.{◌≡◌, ◌≢◌, ◌<◌, ◌≤◌, ℕ, zero, suc, ◌+◌, ◌-◌, true, false, if◌then◌else◌, List, [], ◌∷◌, length, get_or, take, drop, slice_get, Option, Some, None, refl}
use Rattle.std.specs.List.{flat_map}
use Rattle.std.specs.Option.{option_and_then, SomeIff}
use Rattle.std.proofs.Common.{arith, ap, sym, ◌∙◌, length-append}
use Rattle.std.proofs.lemmas.List.{drop_more, get_or-map, length-map, take_all}
use Rattle.std.proofs.lemmas.List.Folds.{flat_map-map}
use Rattle.std.proofs.lemmas.Option.{slice_get_read, slice_get_past}
use Rattle.hir_raw.specs.Words.{TypeRefId}
use Rattle.hir_raw.specs.Own.{RawField, RawFn, RawType, type_parts, has_params, is_alias, aliases_by, aliases_within, parts_aliases, aliases_at, aliases_in, fn_aliases, field_refs, less}

-- ---- at a type

pub none_within : (types : List RawType) (t : ℕ) → aliases_within 0 types t ≡ []
none_within types t = refl

one_less : (n : ℕ) → suc n - 1 ≡ n
one_less n = omega arith

pub aliases_step : (n : ℕ) (types : List RawType) (t : ℕ) → 0 < n → aliases_within n types t ≡ aliases_by t (aliases_within (n - 1) types) (slice_get types t)
aliases_step zero types t lt = absurd (omega arith)
aliases_step (suc n) types t lt = ap (λ m. aliases_by t (aliases_within m types) (slice_get types t)) (sym (one_less n))

pub none_past : (n : ℕ) (types : List RawType) (t : ℕ) → 0 < n → slice_get types t ≡ None → aliases_within n types t ≡ []
none_past n types t lt found = aliases_step n types t lt ∙ ap (aliases_by t (aliases_within (n - 1) types)) found

pub at_alias : (n : ℕ) (types : List RawType) (t : ℕ) (x : RawType) → 0 < n → slice_get types t ≡ Some x → is_alias x ≡ true → aliases_within n types t ≡ t ∷ []
at_alias n types t x lt found is =
    aliases_step n types t lt ∙ (ap (aliases_by t (aliases_within (n - 1) types)) found
    ∙ ap (λ b. if b then t ∷ [] else flat_map (λ w. aliases_within (n - 1) types w.0) (type_parts x)) is)

pub at_parts : (n : ℕ) (types : List RawType) (t : ℕ) (x : RawType) → 0 < n → slice_get types t ≡ Some x → is_alias x ≡ false → aliases_within n types t ≡ parts_aliases (n - 1) types (type_parts x)
at_parts n types t x lt found is =
    aliases_step n types t lt ∙ (ap (aliases_by t (aliases_within (n - 1) types)) found
    ∙ ap (λ b. if b then t ∷ [] else flat_map (λ w. aliases_within (n - 1) types w.0) (type_parts x)) is)

-- the same from what a read gives
pub read_alias : (n : ℕ) (types : List RawType) (t : ℕ) (x : RawType) → n ≢ 0 → t < length types → x ≡ get_or types t x → true ≡ is_alias x → aliases_within n types t ≡ t ∷ []
read_alias n types t x some lt read is = at_alias n types t x (omega arith) (slice_get_read types (length types) t x refl lt read) (sym is)

pub read_parts : (n : ℕ) (types : List RawType) (t : ℕ) (x : RawType) → n ≢ 0 → t < length types → x ≡ get_or types t x → false ≡ is_alias x → aliases_within n types t ≡ parts_aliases (n - 1) types (type_parts x)
read_parts n types t x some lt read is = at_parts n types t x (omega arith) (slice_get_read types (length types) t x refl lt read) (sym is)

pub read_past : (n : ℕ) (types : List RawType) (t : ℕ) → n ≢ 0 → length types ≤ t → aliases_within n types t ≡ []
read_past n types t some le = none_past n types t (omega arith) (slice_get_past types t le)

-- ---- how many they are

next_is : (a b : ℕ) → suc a + b ≡ suc (a + b)
next_is a b = omega arith

next_at : (p k : ℕ) → p + suc k ≡ suc (p + k)
next_at p k = omega arith

none_more : (b : ℕ) → 0 + b ≡ b
none_more b = omega arith

-- taking some, and then more, from what is left
pub less_sum : (n a b : ℕ) → less n (a + b) ≡ option_and_then (λ m. less m b) (less n a)
less_sum n zero b = ap (less n) (none_more b)
less_sum zero (suc a) b = ap (less zero) (next_is a b)
less_sum (suc n) (suc a) b = ap (less (suc n)) (next_is a b) ∙ less_sum n a b

same_counted : (p n : ℕ) → has_params (Some n) p ≡ has_params (Some (p + 0)) n
same_counted p n = grind arith

none_counted : (p k : ℕ) → false ≡ has_params (Some (p + suc k)) 0
none_counted p k = grind arith

more_counted : (p k n : ℕ) → has_params (Some (p + k)) n ≡ has_params (Some (p + suc k)) (suc n)
more_counted p k n = grind arith

-- so many and k more are as many as n where so many are left of n
pub counted_less : (n k p : ℕ) → has_params (less n k) p ≡ has_params (Some (p + k)) n
counted_less n zero p = same_counted p n
counted_less zero (suc k) p = none_counted p k
counted_less (suc n) (suc k) p = counted_less n k p ∙ more_counted p k n

-- one is taken
pub one_taken : (n : ℕ) (o : Option ℕ) (ks : List ℕ) (t : ℕ) → SomeIff o (1 ≤ n) (n - 1) → ks ≡ t ∷ [] → o ≡ less n (length ks)
one_taken n o ks t taken is = by_cases n o taken ∙ ap (λ js. less n (length js)) (sym is)
  where
    by_cases : (n : ℕ) (o : Option ℕ) → SomeIff o (1 ≤ n) (n - 1) → o ≡ less n 1
    by_cases zero None h = refl
    by_cases zero (Some m) h = absurd (omega (arith, h))
    by_cases (suc n) None h = absurd (omega (arith, h))
    by_cases (suc n) (Some m) h = ap Some (omega (arith, h))

-- those of the first part, then those of the rest
pub less_next : (n : ℕ) (types : List RawType) (parts : List TypeRefId) (i : ℕ) (d : TypeRefId) (left : ℕ) → i < length parts
    → less left (length (parts_aliases n types (drop i parts))) ≡ option_and_then (λ m. less m (length (parts_aliases n types (drop (i + 1) parts)))) (less left (length (aliases_within n types (get_or parts i d).0)))
less_next n types parts i d left lt =
    let here : List ℕ = aliases_within n types (get_or parts i d).0 in
    let rest : List ℕ = parts_aliases n types (drop (i + 1) parts) in
    ap (λ ps. less left (length (parts_aliases n types ps))) (drop_more parts i d lt) ∙ (ap (less left) (length-append here rest) ∙ less_sum left (length here) (length rest))

pub less_then : (types : List RawType) (f : RawFn) (count : ℕ)
    → less count (length (fn_aliases types f)) ≡ option_and_then (λ m. less m (length (aliases_at types f.output.0))) (less count (length (aliases_in types f.inputs)))
less_then types f count =
    ap (less count) (length-append (aliases_in types f.inputs) (aliases_at types f.output.0)) ∙ less_sum count (length (aliases_in types f.inputs)) (length (aliases_at types f.output.0))

-- ---- of fields

pub of_fields : (types : List RawType) (fields : List RawField) (i : ℕ) → length fields ≤ i → flat_map (λ (f : RawField). aliases_at types f.type_.0) (take i fields) ≡ aliases_in types (field_refs fields)
of_fields types fields i over =
    ap (flat_map (λ (f : RawField). aliases_at types f.type_.0)) (take_all i fields over)
    ∙ sym (flat_map-map (λ (w : TypeRefId). aliases_at types w.0) (λ (f : RawField). f.type_) fields)

-- those of the first field, then those of the rest
pub less_field : (types : List RawType) (fields : List RawField) (i : ℕ) (g : RawField) (left : ℕ) → i < length fields → g ≡ get_or fields i g
    → less left (length (aliases_in types (drop i (field_refs fields)))) ≡ option_and_then (λ m. less m (length (aliases_in types (drop (i + 1) (field_refs fields))))) (less left (length (aliases_at types g.type_.0)))
less_field types fields i g left lt here =
    let size : length (field_refs fields) ≡ length fields = length-map fields (λ (f : RawField). f.type_) in
    let read : get_or (field_refs fields) i g.type_ ≡ g.type_ = get_or-map (λ (f : RawField). f.type_) fields i g g.type_ lt ∙ ap (λ (f : RawField). f.type_) (sym here) in
    less_next (length types) types (field_refs fields) i g.type_ left (omega (arith, lt, size))
    ∙ ap (λ (w : TypeRefId). option_and_then (λ m. less m (length (aliases_in types (drop (i + 1) (field_refs fields))))) (less left (length (aliases_at types w.0)))) read
