-- Written types where associated types are read as parameters: what stays as it is.
use Rattle.std.specs.Prelude.{◌≡◌, ◌<◌, ℕ, zero, suc, ◌+◌, Bool, true, false, ◌==◌, if◌then◌else◌, List, [], ◌∷◌, length, slice_get, Option, Some, None, option_map, refl}
use Rattle.std.proofs.Common.{arith, ap, sym, ◌∙◌}
use Rattle.hir_raw.specs.Words.{TypeRefId}
use Rattle.hir_raw.specs.declared.raw.RawType.{RawType}
use Rattle.hir_raw.specs.WrittenTypes.{type_parts}
use Rattle.hir_raw.specs.Hidden.{is_alias, place_in, opened_by, opened_type, opened_from, opened}

-- ---- type by type

zero_more : (k : ℕ) → 0 + k ≡ k
zero_more k = omega arith

none_more : (j : ℕ) → j + 0 ≡ j
none_more j = omega arith

next_more : (j k : ℕ) → suc j + k ≡ j + suc k
next_more j k = omega arith

opened_from_at : (n : ℕ) (ks : List ℕ) (j : ℕ) (types : List RawType) (k : ℕ)
    → slice_get (opened_from n ks j types) k ≡ option_map (opened_type n ks (j + k)) (slice_get types k)
opened_from_at n ks j [] k = refl
opened_from_at n ks j (x ∷ xs) zero = ap (λ m. Some (opened_type n ks m x)) (sym (none_more j))
opened_from_at n ks j (x ∷ xs) (suc k) =
    opened_from_at n ks (suc j) xs k ∙ ap (λ m. option_map (opened_type n ks m) (slice_get xs k)) (next_more j k)

pub opened_at : (n : ℕ) (ks : List ℕ) (types : List RawType) (k : ℕ)
    → slice_get (opened n ks types) k ≡ option_map (opened_type n ks k) (slice_get types k)
opened_at n ks types k = opened_from_at n ks zero types k ∙ ap (λ m. option_map (opened_type n ks m) (slice_get types k)) (zero_more k)

-- there are as many
opened_from_length : (n : ℕ) (ks : List ℕ) (j : ℕ) (types : List RawType) → length (opened_from n ks j types) ≡ length types
opened_from_length n ks j [] = refl
opened_from_length n ks j (x ∷ xs) = ap suc (opened_from_length n ks (suc j) xs)

pub opened_length : (n : ℕ) (ks : List ℕ) (types : List RawType) → length (opened n ks types) ≡ length types
opened_length n ks types = opened_from_length n ks zero types

-- ---- what stays

pub stays_if_none : (n : ℕ) (ks : List ℕ) (k : ℕ) (x : RawType) → place_in k ks ≡ None → opened_type n ks k x ≡ x
stays_if_none n ks k x none = by_alias (is_alias x)
  where
    by_alias : (b : Bool) → (if b then opened_by n x (place_in k ks) else x) ≡ x
    by_alias true = ap (opened_by n x) none
    by_alias false = refl

pub stays_if_no_alias : (n : ℕ) (ks : List ℕ) (k : ℕ) (x : RawType) → is_alias x ≡ false → opened_type n ks k x ≡ x
stays_if_no_alias n ks k x plain = ap (λ b. if b then opened_by n x (place_in k ks) else x) plain

-- where none is opened all is as it was
none_from : (n j : ℕ) (types : List RawType) → opened_from n [] j types ≡ types
none_from n j [] = refl
none_from n j (x ∷ xs) = λ i. stays_if_none n [] j x refl i ∷ none_from n (suc j) xs i

pub none_opened : (n : ℕ) (types : List RawType) → opened n [] types ≡ types
none_opened n types = none_from n zero types

-- each part of an opened type is a part of the type
pub opened_parts : (n : ℕ) (ks : List ℕ) (k : ℕ) (x : RawType) (i : ℕ) (w : TypeRefId)
    → slice_get (type_parts (opened_type n ks k x)) i ≡ Some w → slice_get (type_parts x) i ≡ Some w
opened_parts n ks k x i w found = by_alias (is_alias x) found
  where
    by_place : (o : Option ℕ) → slice_get (type_parts (opened_by n x o)) i ≡ Some w → slice_get (type_parts x) i ≡ Some w
    by_place None at = at
    by_place (Some p) at = absurd (cc)

    by_alias : (b : Bool) → slice_get (type_parts (if b then opened_by n x (place_in k ks) else x)) i ≡ Some w
        → slice_get (type_parts x) i ≡ Some w
    by_alias true at = by_place (place_in k ks) at
    by_alias false at = at

-- ---- the places

pub place_below : (k : ℕ) (ks : List ℕ) (p : ℕ) → place_in k ks ≡ Some p → p < length ks
place_below k [] p found = absurd (cc)
place_below k (j ∷ js) p found = by_first (k == j) (λ q is. place_below k js q is) found
  where
    by_rest : (o : Option ℕ) → place_in k js ≡ o → ((q : ℕ) → place_in k js ≡ Some q → q < length js) → option_map suc o ≡ Some p
        → p < suc (length js)
    by_rest None is rest at = absurd (cc)
    by_rest (Some q) is rest at = (let below : q < length js = rest q is in let next : suc q ≡ p = cc in omega arith)

    by_first : (b : Bool) → ((q : ℕ) → place_in k js ≡ Some q → q < length js)
        → (if b then Some zero else option_map suc (place_in k js)) ≡ Some p → p < suc (length js)
    by_first true rest at = (let first : zero ≡ p = cc in omega arith)
    by_first false rest at = by_rest (place_in k js) refl rest at
