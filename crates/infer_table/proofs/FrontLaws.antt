-- Laws of the position before which no pair waits.
use Rattle.std.specs.Prelude.{◌≡◌, ℕ, ◌+◌, ◌<◌, ◌≤◌, ◌++◌, Bool, true, cond, List, [], ◌∷◌, length, take}
use Rattle.std.proofs.Common.{refl, sym, ap, ◌∙◌, subst, get_or, arith}
use Rattle.std.proofs.lemmas.List.{length-take, take_more}
use Rattle.infer_table.specs.Own.{WaitingPair, State, AllUnknown, Waiting, is_taken, left_from, left_before, AllTakenBelow}
use Rattle.infer_table.proofs.WaitingLaws.{taken_still, taken_other}

-- one position more that is taken
pub all_taken_push : (taken : List ℕ) (n at : ℕ) → AllTakenBelow taken n → AllTakenBelow (taken ++ at ∷ []) n
all_taken_push taken n at h i lt = taken_still taken at i (h i lt)

-- no pair waits before it
none_left : (taken : List ℕ) (k : ℕ) (ps : List WaitingPair) → ((i : ℕ) → i < k + length ps → is_taken taken i ≡ true) → left_from taken k ps ≡ []
none_left taken k [] h = refl
none_left taken k (p ∷ ps) h =
    let here : is_taken taken k ≡ true = h k (omega arith) in
    ap (λ (b : Bool). cond b (left_from taken (k + 1) ps) (p ∷ left_from taken (k + 1) ps)) here
    ∙ none_left taken (k + 1) ps (λ i lt. h i (omega arith))

none_left_before : (w : Waiting) (n : ℕ) → AllTakenBelow w.taken n → left_before w n ≡ []
none_left_before w n h = none_left w.taken 0 (take n w.made) (λ i lt. h i (omega (arith, length-take n w.made)))

pub all_unknown_front : (s : State) (n : ℕ) → AllTakenBelow s.pairs.taken n → AllUnknown s (left_before s.pairs n)
all_unknown_front s n h =
    let P : List WaitingPair → Type 0 = AllUnknown s in
    subst P (sym (none_left_before s.pairs n h)) tt

-- ---- going back

-- what is taken below a bound, and by none of the later times, is taken by the first ones
pub record IsLeastTaken (trail : List ℕ) (keep place least : ℕ) : Type 0 where
  pub kept : (i : ℕ) → i < least → is_taken (take place trail) i ≡ true → is_taken (take keep trail) i ≡ true
  pub all : AllTakenBelow trail least

pub is_least_itself : (trail : List ℕ) (keep most : ℕ) → AllTakenBelow trail most → IsLeastTaken trail keep keep most
is_least_itself trail keep most h = record { kept = λ i lt e. e; all = h }

pub is_least_more : (trail : List ℕ) (keep place least next : ℕ) → place < length trail → next ≤ least → next ≤ get_or trail place 0 → IsLeastTaken trail keep place least → IsLeastTaken trail keep (place + 1) next
is_least_more trail keep place least next lt le here h = record {
  kept = λ i below e.
      let other : get_or trail place 0 ≡ i → ⊥ = λ same. omega arith in
      let inside : i < least = omega arith in
      let P : List ℕ → Type 0 = λ ts. is_taken ts i ≡ true in
      h.kept i inside (sym (taken_other (take place trail) (get_or trail place 0) i other) ∙ subst P (take_more trail place 0 lt) e);
  all = λ i below. h.all i (omega arith);
}
