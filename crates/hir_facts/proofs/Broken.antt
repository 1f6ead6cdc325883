-- Which entry breaks a law first.
use Rattle.std.proofs.Common.{inl, inr, ◌≡◌, ◌<◌, ◌≤◌, ◌+◌, ℕ, List, [], ◌∷◌, length, get_or, Some, refl, sym, ◌∙◌, ap, arith, Bool, true, false}
use Rattle.std.specs.Prelude.{slice_get, IsTrue}
use Rattle.std.proofs.lemmas.Option.{slice_get_read, slice_get_within}
use Rattle.std.proofs.Math.Nat.{eq-or-lt_of_le}
use Rattle.hir_facts.specs.Own.{AllHold, BreaksAt}

-- the entries before i pass; xs are the entries as the loop has them
pub record Passed {A : Type 0} (P : ℕ → A → Type 0) (xs listed : List A) (i : ℕ) : Type 0 where
  pub same : xs ≡ listed
  pub before : (j : ℕ) (x : A) → j < i → slice_get listed j ≡ Some x → P j x

pub passed_none : {A : Type 0} (P : ℕ → A → Type 0) (xs listed : List A) → xs ≡ listed → Passed P xs listed 0
passed_none P xs listed e = record { same = e; before = λ j x lt found. absurd (omega arith) }

pub read_at : {A : Type 0} (P : ℕ → A → Type 0) (xs listed : List A) (i : ℕ) (x : A) → Passed P xs listed i → i < length xs → x ≡ get_or xs i x → slice_get listed i ≡ Some x
read_at {A} P xs listed i x p lt is = ap (λ (l : List A). slice_get l i) (sym p.same) ∙ slice_get_read xs (length xs) i x refl lt is

pub passed_more : {A : Type 0} (P : ℕ → A → Type 0) (xs listed : List A) (i : ℕ) (x : A) → Passed P xs listed i → i < length xs → x ≡ get_or xs i x → P i x → Passed P xs listed (i + 1)
passed_more {A} P xs listed i x p lt is holds = record {
  same = p.same;
  before = λ j y lt2 found. elim (eq-or-lt_of_le {n = j} {m = i} (omega arith)) [
    | inl t ↦ (let found2 : slice_get listed i ≡ Some y = rw t at found in
        let here : slice_get listed i ≡ Some x = read_at P xs listed i x p lt is in
        let q : y ≡ x = cc in rw (q, t) holds)
    | inr t ↦ p.before j y t found
  ];
}

pub breaks_here : {A : Type 0} (P : ℕ → A → Type 0) (xs listed : List A) (i : ℕ) (x : A) (r : Bool) → Passed P xs listed i → i < length xs → x ≡ get_or xs i x
    → ((r ≡ true → P i x) × (P i x → r ≡ true)) → r ≡ false → BreaksAt P listed i
breaks_here P xs listed i x r p lt is says was = record { broken = (x, read_at P xs listed i x p lt is, λ h. (let e : r ≡ true = says.1 h in cc)); before = p.before }

pub passed_all : {A : Type 0} (P : ℕ → A → Type 0) (xs listed : List A) (i : ℕ) → Passed P xs listed i → length xs ≤ i → AllHold P listed
passed_all {A} P xs listed i p le j x found = p.before j x (let lt : j < length listed = slice_get_within listed j x found in let e : length xs ≡ length listed = ap length p.same in omega arith) found

-- a law that nothing obeys breaks at the first entry
pub first_breaks : {A : Type 0} (xs : List A) → 0 < length xs → BreaksAt (λ (i : ℕ) (x : A). ⊥) xs 0
first_breaks [] lt = absurd (omega arith)
first_breaks (x ∷ xs) lt = record { broken = (x, refl, λ h. h); before = λ j y below found. omega arith }

-- a loop that stops at an entry that breaks the law
pub not_all : {A : Type 0} (P : ℕ → A → Type 0) (xs listed : List A) (i : ℕ) (x : A) (r : Bool) → Passed P xs listed i → i < length xs → x ≡ get_or xs i x → (P i x → r ≡ true) → r ≡ false
    → (IsTrue false → AllHold P listed) × (AllHold P listed → IsTrue false)
not_all P xs listed i x r p lt is says was = (λ e. absurd (let no : false ≡ true = e in cc), λ all. absurd (let e : r ≡ true = says (all i x (read_at P xs listed i x p lt is)) in cc))
