-- The capped measures of written types, one after another.
use Rattle.std.proofs.Common.{◌≡◌, ◌<◌, ◌+◌, ℕ, zero, suc, List, [], ◌∷◌, ◌++◌, length, map, max, min, sum, Some, refl, sym, ◌∙◌, ap, arith, inl, inr, length-append}
use Rattle.std.specs.Prelude.{slice_get, slice_index}
use Rattle.std.proofs.lemmas.List.{get_or_push, get_or_append_left}
use Rattle.std.proofs.Math.Nat.{eq-or-lt_of_le}
use Rattle.hir_counts.specs.Words.{TypeRefId, RawType, Ty, most, measured, depth, size, type_parts, lowered, lowered_by, AllHold, ChildrenBefore, lowered_parts}
use Rattle.hir_counts.specs.Words.hir_raw.declared.raw.RawType.TheVariants as type
use Rattle.hir_types.specs.declared.ty.GenericArg.TheVariants as arg
use Rattle.hir_counts.proofs.Words.{measured_tuple, measured_bool, measured_char, measured_integer, measured_error}
use Rattle.hir_counts.proofs.AdtLayers.{measured_of_arg, measured_type_arg, measured_adt, measured_projection, measured_param, measured_hole}
use Rattle.hir_counts.specs.Own.{measured_by, depth_by, size_by, AreMeasures}
use Rattle.hir_counts.proofs.Measured.{sum-cons}

-- a measure that reads the parts alone, and no more of each than the bound
pub record Measuring (bound : ℕ) (measure : Ty → ℕ) (over : (ℕ → ℕ) → RawType → ℕ) : Type 0 where
  pub of_parts : (g : ℕ → Ty) (x : RawType) → measure (lowered_by g (Some x)) ≡ over (λ t. measure (g t)) x
  pub bounds : (n : ℕ) (f g : ℕ → ℕ) (x : RawType) → ChildrenBefore n x → ((j : ℕ) → j < n → f j ≡ min bound (g j)) → min bound (over f x) ≡ min bound (over g x)

map_twice : {A B C : Type 0} (f : B → C) (g : A → B) (xs : List A) → map f (map g xs) ≡ map (λ x. f (g x)) xs
map_twice f g [] = refl
map_twice f g (x ∷ xs) = let r : map f (map g xs) ≡ map (λ x. f (g x)) xs = map_twice f g xs in λ i. f (g x) ∷ r i

map_same : {A B : Type 0} (f g : A → B) (xs : List A) → ((x : A) → f x ≡ g x) → map f xs ≡ map g xs
map_same f g [] same = refl
map_same f g (x ∷ xs) same = let here : f x ≡ g x = same x in let rest : map f xs ≡ map g xs = map_same f g xs same in λ i. here i ∷ rest i

-- a list of none comes to nothing
module _ (of_list : List ℕ → ℕ) (of_two : ℕ → ℕ → ℕ) (none : of_list [] ≡ 0) where
  abbrev measure : Ty → ℕ
  measure = measured of_list of_two

  single : (n : ℕ) → n ≡ 1 → n ≡ of_list [] + 1
  single n is = is ∙ ap (λ (m : ℕ). m + 1) (sym none)

  measured_args : (g : ℕ → Ty) (ts : List TypeRefId) → of_list (map (measured_of_arg of_list of_two) (map (λ t. arg.Ty (g t.0)) ts)) + 1 ≡ of_list (map (λ t. measure (g t.0)) ts) + 1
  measured_args g ts =
      ap (λ (ns : List ℕ). of_list ns + 1) (map_twice (measured_of_arg of_list of_two) (λ (t : TypeRefId). arg.Ty (g t.0)) ts ∙ map_same _ _ ts (λ t. measured_type_arg of_list of_two (g t.0)))

  measured_parts : (g : ℕ → Ty) (x : RawType) → measure (lowered_by g (Some x)) ≡ measured_by of_list (λ t. measure (g t)) x
  measured_parts g type.Bool = single _ (measured_bool of_list of_two)
  measured_parts g type.Char = single _ (measured_char of_list of_two)
  measured_parts g (type.Integer i) = single _ (measured_integer of_list of_two i)
  measured_parts g (type.Tuple ts) =
      measured_tuple of_list of_two (map (λ t. g t.0) ts)
      ∙ ap (λ (ns : List ℕ). of_list ns + 1) (map_twice measure (λ (t : TypeRefId). g t.0) ts)
  measured_parts g (type.Adt a ts) = measured_adt of_list of_two a (map (λ t. arg.Ty (g t.0)) ts) ∙ measured_args g ts
  measured_parts g (type.Projection a ts) = measured_projection of_list of_two a (map (λ t. arg.Ty (g t.0)) ts) ∙ measured_args g ts
  measured_parts g (type.Param n) = single _ (measured_param of_list of_two n)
  measured_parts g type.Hole = single _ (measured_hole of_list of_two)
  measured_parts g type.Other = single _ (measured_error of_list of_two)

most_bound : (bound : ℕ) (f g : TypeRefId → ℕ) (ts : List TypeRefId) → ((k : ℕ) (t : TypeRefId) → slice_get ts k ≡ Some t → f t ≡ min bound (g t)) → min bound (most (map f ts)) ≡ min bound (most (map g ts))
most_bound bound f g [] same = refl
most_bound bound f g (t ∷ ts) same =
    let here : f t ≡ min bound (g t) = same zero t refl in
    let rest : min bound (most (map f ts)) ≡ min bound (most (map g ts)) = most_bound bound f g ts (λ k u found. same (suc k) u found) in omega arith

sum_bound : (bound : ℕ) (f g : TypeRefId → ℕ) (ts : List TypeRefId) → ((k : ℕ) (t : TypeRefId) → slice_get ts k ≡ Some t → f t ≡ min bound (g t)) → min bound (sum (map f ts)) ≡ min bound (sum (map g ts))
sum_bound bound f g [] same = refl
sum_bound bound f g (t ∷ ts) same =
    let here : f t ≡ min bound (g t) = same zero t refl in
    let rest : min bound (sum (map f ts)) ≡ min bound (sum (map g ts)) = sum_bound bound f g ts (λ k u found. same (suc k) u found) in
    let a : sum (map f (t ∷ ts)) ≡ f t + sum (map f ts) = sum-cons (f t) (map f ts) in
    let b : sum (map g (t ∷ ts)) ≡ g t + sum (map g ts) = sum-cons (g t) (map g ts) in
    rw (a, b) (sums (f t) (g t) (sum (map f ts)) (sum (map g ts)) bound here rest)
  where
    sums : (a b c d bound : ℕ) → a ≡ min bound b → min bound c ≡ min bound d → min bound (a + c) ≡ min bound (b + d)
    sums a b c d bound p q = omega arith

one_more : (bound a b : ℕ) → min bound a ≡ min bound b → min bound (a + 1) ≡ min bound (b + 1)
one_more bound a b e = omega arith

pub depth_measures : (bound : ℕ) → Measuring bound depth depth_by
depth_measures bound = record {
  of_parts = measured_parts most max refl;
  bounds = λ n f g x before same. one_more bound _ _ (most_bound bound (λ t. f t.0) (λ t. g t.0) (type_parts x) (λ k t found. same t.0 (before k t found)));
}

pub size_measures : (bound : ℕ) → Measuring bound size size_by
size_measures bound = record {
  of_parts = measured_parts sum (λ m n. m + n) refl;
  bounds = λ n f g x before same. one_more bound _ _ (sum_bound bound (λ t. f t.0) (λ t. g t.0) (type_parts x) (λ k t found. same t.0 (before k t found)));
}

pub measures_none : (bound : ℕ) (measure : Ty → ℕ) (types : List RawType) (xs : List ℕ) → xs ≡ [] → AreMeasures bound measure types 0 xs
measures_none bound measure types xs e = record { count = ap length e; each = λ i lt. absurd (omega arith) }

pub measures_more : (bound : ℕ) (measure : Ty → ℕ) (over : (ℕ → ℕ) → RawType → ℕ) (types : List RawType) (n : ℕ) (xs ys : List ℕ) (x : RawType) (d : ℕ) → Measuring bound measure over → AllHold ChildrenBefore types
    → AreMeasures bound measure types n xs → slice_get types n ≡ Some x → d ≡ min bound (over (λ t. slice_index xs t) x) → ys ≡ xs ++ d ∷ [] → AreMeasures bound measure types (n + 1) ys
measures_more bound measure over types n xs ys x d m all h found is e =
    let new : d ≡ min bound (measure (lowered types n)) =
    is ∙ (m.bounds n (λ t. slice_index xs t) (λ t. measure (lowered types t)) x (all n x found) h.each ∙ ap (min bound) (sym (ap measure (lowered_parts types all n x found) ∙ m.of_parts (lowered types) x))) in
    let size : length xs ≡ n = h.count in
    record {
      count = rw (e, length-append xs (d ∷ [])) (omega arith);
      each = λ i lt. rw e (elim (eq-or-lt_of_le {n = i} {m = n} (omega arith)) [
        | inl q ↦ get_or_push xs d 0 i (size ∙ sym q) ∙ (new ∙ ap (λ (j : ℕ). min bound (measure (lowered types j))) (sym q))
        | inr l ↦ get_or_append_left xs (d ∷ []) 0 i (omega arith) ∙ h.each i l
      ]);
    }

pub before_here : (types : List RawType) (n : ℕ) (xs : List ℕ) (x : RawType) → AllHold ChildrenBefore types → length xs ≡ n → slice_get types n ≡ Some x → ChildrenBefore (length xs) x
before_here types n xs x all e found = rw e (all n x found)
