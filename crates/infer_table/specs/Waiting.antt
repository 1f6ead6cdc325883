-- Pairs that wait to be unified.
use Rattle.std.specs.Prelude.{◌≡◌, ℕ, ◌+◌, ◌<◌, ◌++◌, Bool, true, false, if◌then◌else◌, nat_eq, List, [], ◌∷◌, Option, Some, None, slice_get, map, length, take, drop}
use Rattle.infer_table.specs.declared.waiting.WaitingPair.{WaitingPair}
use Rattle.infer_table.specs.declared.waiting.Entry.{Entry}

-- the pairs that were ever made to wait, in order, and the positions of those that were taken since
pub record Waiting : Type 0 where
  pub made : List WaitingPair
  pub taken : List ℕ

abbrev pub pairs_of : List Entry → List WaitingPair
pairs_of = map (λ e. e.pair)

-- whether a position is among those taken
abbrev pub is_taken : List ℕ → ℕ → Bool
is_taken [] i = false
is_taken (t ∷ ts) i = if nat_eq t i then true else is_taken ts i

-- the pairs of the list that are left, its first one standing at position i
abbrev pub left_from : List ℕ → ℕ → List WaitingPair → List WaitingPair
left_from taken i [] = []
left_from taken i (p ∷ ps) = if is_taken taken i then left_from taken (i + 1) ps else p ∷ left_from taken (i + 1) ps

-- the pairs that wait, in order
abbrev pub waiting : Waiting → List WaitingPair
waiting w = left_from w.taken 0 w.made

-- no position is taken twice
abbrev pub AllApart : List ℕ → Type 0
AllApart [] = Unit {0}
AllApart (t ∷ ts) = (is_taken ts t ≡ false) × AllApart ts

-- each entry is marked exactly where its position was taken, once
pub record AreMarked (entries : List Entry) (taken : List ℕ) : Type 0 where
  pub marks : (i : ℕ) (e : Entry) → slice_get entries i ≡ Some e → e.is_taken ≡ is_taken taken i
  pub within : (i : ℕ) → is_taken taken i ≡ true → i < length entries
  pub once : AllApart taken

abbrev pub no_pairs : Waiting
no_pairs = record { made = []; taken = [] }

-- with one pair more
abbrev pub with_pair : Waiting → WaitingPair → Waiting
with_pair w p = record w { made = w.made ++ p ∷ [] }

-- with one position more taken
abbrev pub with_taken : Waiting → ℕ → Waiting
with_taken w i = record w { taken = w.taken ++ i ∷ [] }

-- as it was when so many pairs had been made to wait and so many were taken
abbrev pub cut_back : Waiting → ℕ → ℕ → Waiting
cut_back w made taken = record { made = take made w.made; taken = take taken w.taken }

-- each position that is taken is one of a pair that was made to wait
abbrev pub AllMade : Waiting → Type 0
AllMade w = (i : ℕ) → is_taken w.taken i ≡ true → i < length w.made

-- the pair at each position below n is taken
abbrev pub AllTakenBelow : List ℕ → ℕ → Type 0
AllTakenBelow taken n = (i : ℕ) → i < n → is_taken taken i ≡ true

-- the pair at a position, if it was made to wait and is not taken
abbrev pub left_at : Waiting → ℕ → Option WaitingPair
left_at w i = if is_taken w.taken i then None else slice_get w.made i

-- the pairs that wait at positions below n
abbrev pub left_before : Waiting → ℕ → List WaitingPair
left_before w n = left_from w.taken 0 (take n w.made)

-- the pairs that wait at position n or past it
abbrev pub left_past : Waiting → ℕ → List WaitingPair
left_past w n = left_from w.taken n (drop n w.made)

-- the pair at position i was made to wait and is not taken
pub record StillWaits (w : Waiting) (i : ℕ) (p : WaitingPair) : Type 0 where
  pub at : slice_get w.made i ≡ Some p
  pub is_left : is_taken w.taken i ≡ false
