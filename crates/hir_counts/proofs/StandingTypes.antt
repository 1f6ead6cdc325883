-- What stands in written types, one after another.
use Rattle.std.proofs.Common.{◌≡◌, ◌≤◌, ◌+◌, ℕ, List, [], ◌∷◌, ◌++◌, length, map, max, Some, sym, ◌∙◌, ap, arith, inl, inr, length-append}
use Rattle.std.specs.Prelude.{slice_get, slice_index}
use Rattle.std.proofs.lemmas.List.{get_or_push, get_or_append_left, get_or_past}
use Rattle.std.proofs.lemmas.Option.{slice_get_past}
use Rattle.std.proofs.lemmas.Bool.{cases_lt}
use Rattle.std.proofs.Math.Nat.{eq-or-lt_of_le}
use Rattle.hir_counts.specs.Words.{most, RawType, type_parts, AllHold, ChildrenBefore, most_by, most_within, most_in, most_by_same, most_within_step, most_parts}
use Rattle.hir_counts.specs.Own.{number_in, AreMosts}

most_past : (own : RawType → ℕ) (types : List RawType) (i : ℕ) → length types ≤ i → most_in own types i ≡ 0
most_past own types i le = most_within_step own types i i ∙ ap (most_by own (most_within own i types)) (slice_get_past types i le)

pub mosts_none : (own : RawType → ℕ) (types : List RawType) (xs : List ℕ) → xs ≡ [] → AreMosts own types 0 xs
mosts_none own types xs e = record { count = ap length e; each = λ i lt. absurd (omega arith) }

pub mosts_more : (own : RawType → ℕ) (types : List RawType) (n : ℕ) (xs ys : List ℕ) (x : RawType) (o d : ℕ) → AllHold ChildrenBefore types
    → AreMosts own types n xs → slice_get types n ≡ Some x → o ≡ own x → d ≡ max o (most (map (λ t. slice_index xs t.0) (type_parts x))) → ys ≡ xs ++ d ∷ [] → AreMosts own types (n + 1) ys
mosts_more own types n xs ys x o d all h found mine is e =
    let read : most_by own (λ t. slice_index xs t) (Some x) ≡ most_by own (most_in own types) (Some x) = most_by_same own (λ t. slice_index xs t) (most_in own types) n x (all n x found) h.each in
    let new : d ≡ most_in own types n =
    is ∙ (ap (λ (m : ℕ). max m (most (map (λ t. slice_index xs t.0) (type_parts x)))) mine ∙ (read ∙ sym (most_parts own types all n x found))) in
    let size : length xs ≡ n = h.count in
    record {
      count = rw (e, length-append xs (d ∷ [])) (omega arith);
      each = λ i lt. rw e (elim (eq-or-lt_of_le {n = i} {m = n} (omega arith)) [
        | inl q ↦ get_or_push xs d 0 i (size ∙ sym q) ∙ (new ∙ ap (λ (j : ℕ). most_in own types j) (sym q))
        | inr l ↦ get_or_append_left xs (d ∷ []) 0 i (omega arith) ∙ h.each i l
      ]);
    }

-- what is read of a whole list, past its end too
pub mosts_are : (own : RawType → ℕ) (types : List RawType) (xs : List ℕ) → AreMosts own types (length types) xs → number_in xs ≡ most_in own types
unfolding number_in
mosts_are own types xs h = λ i t. at t i where
  at : (t : ℕ) → slice_index xs t ≡ most_in own types t
  at t = elim (cases_lt t (length types)) [
    | inl lt ↦ h.each t lt
    | inr ge ↦ get_or_past xs t 0 (let size : length xs ≡ length types = h.count in omega arith) ∙ sym (most_past own types t ge)
  ]
