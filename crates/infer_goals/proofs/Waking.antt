-- Which obligations sleep on a hole, and which are woken.
use Rattle.std.proofs.Common.{◌≡◌, ◌⊎◌, inl, inr, ℕ, zero, suc, ◌+◌, ◌<◌, ◌≤◌, Bool, true, false, List, [], ◌∷◌, ◌++◌, length, get_or, refl, sym, ap, ◌∙◌, subst, arith, true≢false, length-set, get_or-set_same, get_or-set_other}
use Rattle.std.specs.Prelude.{Some, None, option_map, slice_get, slice_set}
use Rattle.std.proofs.lemmas.Bool.{cases_lt, or_cases}
use Rattle.std.proofs.lemmas.List.{get_or_past, length_push}
use Rattle.std.proofs.lemmas.Option.{same_Some, slice_get_within}
use Rattle.infer_goals.specs.Words.{Head, Hole, Term, hole, leaf, pair, occurs, hole_number, Binding, bound_hole, hole_eq_true}
use Rattle.goal_tree.proofs.Standings.{same_or_not}
use Rattle.infer_goals.specs.Own.{IsAmong, IsListed, KeepsListed, ListsHoles, Sleeps, FallsAsleep, AreWoken, IsStirredAt, IsStirred}
use Rattle.infer_goals.proofs.Lists.{among_either, among_left, among_last, among_one}

-- one more that is what stands for those that are missing
pub get_or_more : {X : Type 0} (xs : List X) (x : X) (i : ℕ) → get_or (xs ++ x ∷ []) i x ≡ get_or xs i x
get_or_more [] x zero = refl
get_or_more [] x (suc i) = refl
get_or_more (y ∷ xs) x zero = refl
get_or_more (y ∷ xs) x (suc i) = get_or_more xs x i

-- ---- lists of holes

abbrev with_listed : List (List ℕ) → ℕ → ℕ → List (List ℕ)
with_listed lists n at = slice_set lists n (get_or lists n [] ++ at ∷ [])

pub listed_now : (lists : List (List ℕ)) (n at : ℕ) → n < length lists → IsListed (with_listed lists n at) n at
listed_now lists n at within = subst (λ xs. IsAmong xs at) (sym (get_or-set_same lists n (get_or lists n [] ++ at ∷ []) [] within)) (among_last (get_or lists n []) at)

pub listed_still : (lists : List (List ℕ)) (n at : ℕ) → n < length lists → KeepsListed lists (with_listed lists n at)
listed_still lists n at within m i h = elim (same_or_not m n) [
  | inl same ↦
      let here = subst (λ k. IsListed lists k i) same h in
      let there = subst (λ xs. IsAmong xs i) (sym (get_or-set_same lists n (get_or lists n [] ++ at ∷ []) [] within)) (among_left (get_or lists n []) (at ∷ []) i here) in
      subst (λ k. IsListed (with_listed lists n at) k i) (sym same) there
  | inr other ↦ subst (λ xs. IsAmong xs i) (sym (get_or-set_other lists n m (get_or lists n [] ++ at ∷ []) [] other)) h
]

pub lists_hole : (lists : List (List ℕ)) (t : Term) (k : Hole) (i : ℕ) → t ≡ hole k → IsListed lists (hole_number k) i → ListsHoles lists t i
lists_hole lists t k i is h x o =
    let same : x ≡ k = hole_eq_true x k (subst (λ u. occurs x u ≡ true) is o) in
    subst (λ y. IsListed lists (hole_number y) i) (sym same) h

pub lists_leaf : (lists : List (List ℕ)) (t : Term) (h : Head) (i : ℕ) → t ≡ leaf h → ListsHoles lists t i
lists_leaf lists t h i is x o = absurd (true≢false (sym (subst (λ u. occurs x u ≡ true) is o)))

pub lists_pair : (lists : List (List ℕ)) (t a b : Term) (i : ℕ) → t ≡ pair a b → ListsHoles lists a i → ListsHoles lists b i → ListsHoles lists t i
lists_pair lists t a b i is left right x o = elim (or_cases (occurs x a) (occurs x b) (subst (λ u. occurs x u ≡ true) is o)) [
  | inl q ↦ left x q
  | inr q ↦ right x q
]

pub lists_later : (lists lists' : List (List ℕ)) (t : Term) (i : ℕ) → KeepsListed lists lists' → ListsHoles lists t i → ListsHoles lists' t i
lists_later lists lists' t i kept h x o = kept (hole_number x) i (h x o)

-- ---- which sleep

pub sleeps_within : (asleep : List Bool) (i : ℕ) → Sleeps asleep i → i < length asleep
sleeps_within asleep i h = elim (cases_lt i (length asleep)) [
  | inl within ↦ within
  | inr past ↦ absurd (true≢false (sym h ∙ get_or_past asleep i false past))
]

-- with some more that don't sleep
pub record IsLonger (asleep : List Bool) (at : ℕ) (asleep' : List Bool) : Type 0 where
  pub same : (i : ℕ) → get_or asleep' i false ≡ get_or asleep i false
  pub few : (n : ℕ) → at < n → length asleep ≤ n → length asleep' ≤ n

pub longer_same : (a : List Bool) (at : ℕ) → IsLonger a at a
longer_same a at = record { same = λ i. refl; few = λ n low few. few }

pub longer_more : (a b c : List Bool) (at : ℕ) → length b ≤ at → IsLonger a at b → c ≡ b ++ false ∷ [] → IsLonger a at c
longer_more a b c at low h is = record {
  same = λ i. ap (λ xs. get_or xs i false) is ∙ (get_or_more b false i ∙ h.same i);
  few = λ n above few. (let e = ap length is ∙ length_push b false in omega (arith, e, low, above));
}

pub falls_asleep : (asleep : List Bool) (at : ℕ) (longer : List Bool) → IsLonger asleep at longer → at < length longer → FallsAsleep asleep at (slice_set longer at true)
falls_asleep asleep at longer h within = record {
  sleeps = get_or-set_same longer at true false within;
  kept = λ i s. elim (same_or_not i at) [
    | inl same ↦ subst (λ k. Sleeps (slice_set longer at true) k) (sym same) (get_or-set_same longer at true false within)
    | inr other ↦ get_or-set_other longer at i true false other ∙ (h.same i ∙ s)
  ];
  few = λ n low long. (let e = length-set longer at true in let few = h.few n low long in omega (arith, e, few));
}

-- ---- which are woken

pub woken_none : (P : ℕ → Type 0) (a : List Bool) (xs : List ℕ) → ((i : ℕ) → P i → ⊥) → AreWoken P a xs a xs
woken_none P a xs none = record { long = refl; kept = λ i h. h; each = λ i s. inr (s, none i); only = λ i h. inl h }

pub woken_then : (P Q R : ℕ → Type 0) (a b c : List Bool) (xs ys zs : List ℕ) → ((i : ℕ) → R i → P i ⊎ Q i) → AreWoken P a xs b ys → AreWoken Q b ys c zs → AreWoken R a xs c zs
woken_then P Q R a b c xs ys zs either p q = record {
  long = q.long ∙ p.long;
  kept = λ i h. q.kept i (p.kept i h);
  each = λ i s. elim (p.each i s) [
    | inl now ↦ inl (q.kept i now)
    | inr still ↦ elim (q.each i still.0) [
      | inl now ↦ inl now
      | inr h ↦ inr (h.0, λ r. elim (either i r) [ inl x ↦ still.1 x | inr y ↦ h.1 y ])
    ]
  ];
  only = λ i h. elim (q.only i h) [
    | inl was ↦ p.only i was
    | inr few ↦ inr (let e = p.long in omega (arith, few, e))
  ];
}

pub woken_for : (P R : ℕ → Type 0) (a b : List Bool) (xs ys : List ℕ) → ((i : ℕ) → R i → P i) → AreWoken P a xs b ys → AreWoken R a xs b ys
woken_for P R a b xs ys of p = record {
  long = p.long;
  kept = p.kept;
  each = λ i s. elim (p.each i s) [
    | inl now ↦ inl now
    | inr still ↦ inr (still.0, λ r. still.1 (of i r))
  ];
  only = p.only;
}

pub woken_one : (a : List Bool) (xs : List ℕ) (at : ℕ) → Sleeps a at → AreWoken (λ i. i ≡ at) a xs (slice_set a at false) (xs ++ at ∷ [])
woken_one a xs at sleeps = record {
  long = length-set a at false;
  kept = λ i h. among_left xs (at ∷ []) i h;
  each = λ i s. elim (same_or_not i at) [
    | inl same ↦ inl (subst (λ k. IsAmong (xs ++ at ∷ []) k) (sym same) (among_last xs at))
    | inr other ↦ inr (get_or-set_other a at i false false other ∙ s, other)
  ];
  only = λ i h. elim (among_either xs (at ∷ []) i h) [
    | inl q ↦ inl q
    | inr q ↦ inr (subst (λ k. k < length a) (among_one at i q) (sleeps_within a at sleeps))
  ];
}

-- one that doesn't sleep
pub woken_not : (a : List Bool) (xs : List ℕ) (at : ℕ) → (Sleeps a at → ⊥) → AreWoken (λ i. i ≡ at) a xs a xs
woken_not a xs at never = record { long = refl; kept = λ i h. h; each = λ i s. inr (s, λ same. never (subst (Sleeps a) same s)); only = λ i h. inl h }

-- ---- among the first of a list

abbrev pub IsAmongFirst : List ℕ → ℕ → ℕ → Type 0
IsAmongFirst xs n i = (k : ℕ) × (k < n) × (slice_get xs k ≡ Some i)

before_or_at : (k n : ℕ) → k < n + 1 → (k < n) ⊎ (k ≡ n)
before_or_at k n h = grind arith

pub first_none : (xs : List ℕ) (i : ℕ) → IsAmongFirst xs 0 i → ⊥
first_none xs i h = (let low = h.1 in absurd (omega (arith, low)))

pub first_next : (xs : List ℕ) (n x i : ℕ) → slice_get xs n ≡ Some x → IsAmongFirst xs (n + 1) i → IsAmongFirst xs n i ⊎ (i ≡ x)
first_next xs n x i e h = elim (before_or_at h.0 n h.1) [
  | inl less ↦ inl (h.0, less, h.2)
  | inr same ↦ inr (same_Some i x (sym h.2 ∙ (ap (slice_get xs) same ∙ e)))
]

pub first_all : (xs : List ℕ) (n i : ℕ) → length xs ≤ n → IsAmong xs i → IsAmongFirst xs n i
first_all xs n i long h = (h.0, (let within = slice_get_within xs h.0 i h.1 in omega (arith, within, long)), h.1)

-- ---- holes that were bound

-- no hole was bound there
pub stirred_not : (lists : List (List ℕ)) (bs : List Binding) (place : ℕ) → option_map bound_hole (slice_get bs place) ≡ None → (i : ℕ) → IsStirredAt lists bs place i → ⊥
stirred_not lists bs place none i h = (let e = sym none ∙ ap (option_map bound_hole) h.1 in cc)

-- this hole was
pub stirred_one : (lists : List (List ℕ)) (bs : List Binding) (place : ℕ) (k : Hole) (n : ℕ) → option_map bound_hole (slice_get bs place) ≡ Some k → n ≡ hole_number k → (i : ℕ) → IsStirredAt lists bs place i → IsListed lists n i
stirred_one lists bs place k n is e i h =
    let same : bound_hole h.0 ≡ k = same_Some (bound_hole h.0) k (sym (ap (option_map bound_hole) h.1) ∙ is) in
    subst (λ m. IsListed lists m i) (ap hole_number same ∙ sym e) h.2

pub stirred_next : (lists : List (List ℕ)) (bs : List Binding) (from place i : ℕ) → IsStirred lists bs from (place + 1) i → IsStirred lists bs from place i ⊎ IsStirredAt lists bs place i
stirred_next lists bs from place i h = elim (before_or_at h.0 place h.2) [
  | inl less ↦ inl (h.0, h.1, less, h.3)
  | inr same ↦ inr (subst (λ p. IsStirredAt lists bs p i) same h.3)
]

pub stirred_before : (lists : List (List ℕ)) (bs : List Binding) (from place to i : ℕ) → to ≤ place → IsStirred lists bs from to i → IsStirred lists bs from place i
stirred_before lists bs from place to i past h = (h.0, h.1, (let less = h.2 in omega (arith, less, past)), h.3)

pub stirred_none : (lists : List (List ℕ)) (bs : List Binding) (from i : ℕ) → IsStirred lists bs from from i → ⊥
stirred_none lists bs from i h = (let a = h.1 in let b = h.2 in absurd (omega (arith, a, b)))
