-- The marks of the written types that hold a projection, one type after another.
use Rattle.std.specs.Prelude.{◌↔◌, ◌||◌, IsTrue, not}
use Rattle.std.specs.List.{list_any}
use Rattle.std.proofs.Common.{◌≡◌, inl, inr, ℕ, zero, suc, ◌+◌, ◌<◌, Bool, true, false, true≢false, List, [], ◌∷◌, ◌++◌, length, get_or, Some, refl, sym, ◌∙◌, ap, subst, arith, slice_get}
use Rattle.std.proofs.lemmas.Bool.{or_cases, or_left, or_right}
use Rattle.std.proofs.lemmas.List.{get_or_push, get_or_append_left, length_push}
use Rattle.std.proofs.lemmas.Option.{slice_get_within}
use Rattle.std.proofs.Math.Nat.{eq-or-lt_of_le}
use Rattle.hir_ids.specs.Words.{TypeRefId, RawType, is_alias, type_parts, HoldsProjection, is_one}
use Rattle.hir_facts.specs.Projections.{in_part}
use Rattle.hir_ids.specs.Own.{AreMarked}

some_of : (p : TypeRefId → Bool) (xs : List TypeRefId) → list_any p xs ≡ true → (i : ℕ) × (x : TypeRefId) × (slice_get xs i ≡ Some x) × (p x ≡ true)
some_of p [] h = absurd (true≢false (sym h))
some_of p (x ∷ xs) h = by_first (p x) refl (λ k. some_of p xs k) h
  where
    by_first : (b : Bool) → p x ≡ b → (list_any p xs ≡ true → (i : ℕ) × (y : TypeRefId) × (slice_get xs i ≡ Some y) × (p y ≡ true)) → (b || list_any p xs) ≡ true → (i : ℕ) × (y : TypeRefId) × (slice_get (x ∷ xs) i ≡ Some y) × (p y ≡ true)
    by_first true is later h = (zero, x, refl, is)
    by_first false is later h = (let rest = later h in (suc rest.0, rest.1, rest.2, rest.3))

any_at : (p : TypeRefId → Bool) (xs : List TypeRefId) (i : ℕ) (x : TypeRefId) → slice_get xs i ≡ Some x → p x ≡ true → list_any p xs ≡ true
any_at p [] i x at h = absurd (cc)
any_at p (y ∷ xs) zero x at h = (let same : y ≡ x = cc in or_left (p y) (list_any p xs) (ap p same ∙ h))
any_at p (y ∷ xs) (suc i) x at h = or_right (p y) (list_any p xs) (any_at p xs i x at h)

marked_inside : (marks : List Bool) (i : ℕ) → get_or marks i false ≡ true → i < length marks
marked_inside [] i h = absurd (true≢false (sym h))
marked_inside (b ∷ marks) zero h = omega arith
marked_inside (b ∷ marks) (suc i) h = (let inside = marked_inside marks i h in omega (arith, inside))

module _ (types : List RawType) where
  -- what is told of a type by the marks of those before it
  told : (n : ℕ) (marks : List Bool) (x : RawType) → AreMarked types n marks → slice_get types n ≡ Some x → IsTrue (is_alias x || list_any (λ u. get_or marks u.0 false) (type_parts x)) ↔ HoldsProjection types n
  told n marks x are found = (forth, back)
    where
      p : TypeRefId → Bool
      p u = get_or marks u.0 false

      by_part : list_any p (type_parts x) ≡ true → HoldsProjection types n
      by_part h =
          let s = some_of p (type_parts x) h in
          let inside : s.1.0 < length marks = marked_inside marks s.1.0 s.3 in
          let before : s.1.0 < n = omega (arith, inside, are.size) in
          in_part n x s.0 s.1 found s.2 before ((are.each s.1.0 before).0 s.3)

      forth : IsTrue (is_alias x || list_any p (type_parts x)) → HoldsProjection types n
      forth h = elim (or_cases (is_alias x) (list_any p (type_parts x)) h) as (λ _. HoldsProjection types n) [
        | inl alias ↦ is_one n x found alias
        | inr part ↦ by_part part
      ]

      back : HoldsProjection types n → IsTrue (is_alias x || list_any p (type_parts x))
      back (is_one _ y at alias) = (let same : y ≡ x = (let both : Some y ≡ Some x = sym at ∙ found in cc) in or_left (is_alias x) (list_any p (type_parts x)) (ap is_alias (sym same) ∙ alias))
      back (in_part _ y k u at here before deeper) =
          let same : y ≡ x = (let both : Some y ≡ Some x = sym at ∙ found in cc) in
          or_right (is_alias x) (list_any p (type_parts x)) (any_at p (type_parts x) k u (ap (λ (z : RawType). slice_get (type_parts z) k) (sym same) ∙ here) ((are.each u.0 before).1 deeper))

  pub no_marks : AreMarked types 0 []
  no_marks = record { size = refl; each = λ t lt. absurd (omega (arith, lt)) }

  pub marks_more : (n : ℕ) (marks new : List Bool) (x : RawType) (b : Bool) → AreMarked types n marks → slice_get types n ≡ Some x → b ≡ (is_alias x || list_any (λ u. get_or marks u.0 false) (type_parts x)) → new ≡ marks ++ b ∷ [] → AreMarked types (n + 1) new
  marks_more n marks new x b are found is grown = record {
    size = ap length grown ∙ (length_push marks b ∙ ap (λ (k : ℕ). k + 1) are.size);
    each = λ t lt. elim (eq-or-lt_of_le {n = t} {m = n} (omega (arith, lt))) as (λ _. IsTrue (get_or new t false) ↔ HoldsProjection types t) [
      | inl same ↦ (
          let last : get_or new t false ≡ b = ap (λ (l : List Bool). get_or l t false) grown ∙ get_or_push marks b false t (are.size ∙ sym same) in
          let says : IsTrue b ↔ HoldsProjection types n = subst (λ c. IsTrue c ↔ HoldsProjection types n) (sym is) (told n marks x are found) in
          subst (λ k. IsTrue (get_or new t false) ↔ HoldsProjection types k) (sym same) (subst (λ c. IsTrue c ↔ HoldsProjection types n) (sym last) says))
      | inr before ↦ (
          let size : length marks ≡ n = are.size in
          let kept : get_or new t false ≡ get_or marks t false = ap (λ (l : List Bool). get_or l t false) grown ∙ get_or_append_left marks (b ∷ []) false t (omega (arith, size, before)) in
          subst (λ c. IsTrue c ↔ HoldsProjection types t) (sym kept) (are.each t before))
    ];
  }

  held_within : (t : ℕ) → HoldsProjection types t → t < length types
  held_within t (is_one _ x at alias) = slice_get_within types t x at
  held_within t (in_part _ x k u at here before deeper) = slice_get_within types t x at

  -- an unmarked type holds none, nor does one past the end
  pub none_held : (marks : List Bool) (t : ℕ) → AreMarked types (length types) marks → IsTrue (not (get_or marks t false)) ↔ (HoldsProjection types t → ⊥)
  none_held marks t are = by (get_or marks t false) refl
    where
      by : (b : Bool) → get_or marks t false ≡ b → IsTrue (not b) ↔ (HoldsProjection types t → ⊥)
      by true is = (λ h. absurd (true≢false (sym h)), λ none. absurd (none ((are.each t (let inside = marked_inside marks t is in omega (arith, inside, are.size))).0 is)))
      by false is = (λ h held. true≢false (sym ((are.each t (held_within t held)).1 held) ∙ is), λ none. refl)
