-- What follows from goals in one more step.
use Rattle.std.specs.Prelude.{◌≡◌, ◌⊎◌, ◌+◌, ◌<◌, ◌≤◌, ℕ, zero, suc, List, [], ◌∷◌, length, slice_get, Option, Some, None, refl}
use Rattle.std.proofs.Common.{inl, inr, sym, ap, ◌∙◌, subst, arith}
use Rattle.std.proofs.lemmas.Option.{same_Some}
use Rattle.goal_facts.specs.Words.{TraitId, GenericArg, RawGoal, RawFacts, Kind, implements, projects, Asked}
use Rattle.goal_facts.specs.Own.{Has, AreDistinct, AllHaveHeads, Adds, SomeSays, trait_preds, trait_holes, SaysAt, IsSuper, Follows, SomeSuper, IsLevel}
use Rattle.goal_facts.proofs.Adding.{less_or_last, get_within, adds_as, adds_then, adds_none}

-- ---- the first level

pub first_level : (raw : RawFacts) (ds : List Asked) → AreDistinct ds → AllHaveHeads ds → IsLevel raw (Has ds) 0 0 ds
first_level raw ds distinct heads =
    record {
      closure = record { all = λ d h. h; only = λ i d at. (i, at); once = distinct };
      supers = λ i c less. absurd (omega (arith, less));
      heads = heads;
      within = omega arith;
    }

-- ---- within a level

pub supers_none : (raw : RawFacts) (from : ℕ) (ds : List Asked) → Adds (SomeSuper raw from from ds) ds ds
supers_none raw from ds = adds_none (SomeSuper raw from from ds) ds (λ d h. absurd (omega (arith, h.2, h.3)))

-- those of one more
pub supers_next : (raw : RawFacts) (from n : ℕ) (c : Asked) (ds a b : List Asked) → from ≤ n → slice_get ds n ≡ Some c
    → Adds (SomeSuper raw from n ds) ds a → Adds (IsSuper raw c) a b → Adds (SomeSuper raw from (n + 1) ds) ds b
supers_next raw from n c ds a b low here h k =
    adds_as (λ d. SomeSuper raw from n ds d ⊎ IsSuper raw c d) (SomeSuper raw from (n + 1) ds) ds b to back (adds_then (SomeSuper raw from n ds) (IsSuper raw c) ds a b h k)
  where
    to : (d : Asked) → SomeSuper raw from n ds d ⊎ IsSuper raw c d → SomeSuper raw from (n + 1) ds d
    to d (inl s) = let less = s.3 in (s.0, s.1, s.2, omega (arith, less), s.4, s.5)
    to d (inr p) = (n, c, low, omega arith, here, p)

    back : (d : Asked) → SomeSuper raw from (n + 1) ds d → SomeSuper raw from n ds d ⊎ IsSuper raw c d
    back d (i, x, more, less, at, p) = elim (less_or_last i n less) [
      | inl l ↦ inl (i, x, more, l, at, p)
      | inr l ↦ inr (subst (λ y. IsSuper raw y d) (same_Some x c (sym at ∙ (ap (slice_get ds) l ∙ here))) p)
    ]

-- ---- the next level

pub entry_at : {X : Type 0} (xs : List X) (i : ℕ) → i < length xs → (x : X) × (slice_get xs i ≡ Some x)
entry_at [] i h = absurd (omega (arith, h))
entry_at (x ∷ xs) zero h = (x, refl)
entry_at (x ∷ xs) (suc i) h = entry_at xs i (omega (arith, h))

-- what has all entries in their places is no shorter
pub no_shorter : {X : Type 0} (xs ys : List X) → ((i : ℕ) (x : X) → slice_get xs i ≡ Some x → slice_get ys i ≡ Some x) → length xs ≤ length ys
no_shorter [] ys h = omega arith
no_shorter (x ∷ xs) [] h = let e = h 0 x refl in cc
no_shorter (x ∷ xs) (y ∷ ys) h = let below = no_shorter xs ys (λ i z e. h (suc i) z e) in omega (arith, below)

low_or_high : (i n : ℕ) → (i < n) ⊎ (n ≤ i)
low_or_high i zero = inr (omega arith)
low_or_high zero (suc n) = inl (omega arith)
low_or_high (suc i) (suc n) = elim (low_or_high i n) [
  | inl k ↦ inl (omega (arith, k))
  | inr k ↦ inr (omega (arith, k))
]

-- what stands in a place before more is added stands there after
pub stayed : (xs ys : List Asked) → ((i : ℕ) (d : Asked) → slice_get xs i ≡ Some d → slice_get ys i ≡ Some d) → (i : ℕ) (d : Asked) → i < length xs → slice_get ys i ≡ Some d → slice_get xs i ≡ Some d
stayed xs ys stay i d within at =
    let old = entry_at xs i within in
    old.1 ∙ (sym (stay i old.0 old.1) ∙ at)

pub next_level : (raw : RawFacts) (S : Asked → Type 0) (n m from to : ℕ) (ds es : List Asked) → m ≡ suc n → to ≡ length ds → IsLevel raw S n from ds
    → Adds (SomeSuper raw from to ds) ds es → IsLevel raw S m to es
next_level raw S n m from to ds es next end level adds =
    rw next (record {
      closure = record { all = all; only = only; once = adds.once level.closure.once };
      supers = λ i c less at d p. let within = rw end at less in supers i c within (stayed ds es adds.stay i c within at) d p;
      heads = adds.heads level.heads;
      within = grown;
    })
  where
    -- one that was there has what follows from it
    supers : (i : ℕ) (c : Asked) → i < length ds → slice_get ds i ≡ Some c → (d : Asked) → IsSuper raw c d → Has es d
    supers i c within at d p = elim (low_or_high i from) [
      | inl low ↦ let old = level.supers i c low at d p in (old.0, adds.stay old.0 d old.1)
      | inr high ↦ adds.all d (i, c, high, subst (λ k. i < k) (sym end) within, at, p)
    ]

    all : (d : Asked) → Follows raw S (suc n) d → Has es d
    all d (inl f) = let old = level.closure.all d f in (old.0, adds.stay old.0 d old.1)
    all d (inr f) = let old = level.closure.all f.0 f.1 in supers old.0 f.0 (get_within ds old.0 f.0 old.1) old.1 d f.2

    only : (i : ℕ) (d : Asked) → slice_get es i ≡ Some d → Follows raw S (suc n) d
    only i d at = elim (adds.only i d at) [
      | inl old ↦ inl (level.closure.only i d old)
      | inr s ↦ inr (s.1, level.closure.only s.0 s.1 s.4, s.5)
    ]

    grown : to ≤ length es
    grown = let long = no_shorter ds es adds.stay in omega (arith, long, end)

-- ---- along one supertrait

abbrev trait_in : Kind → Option TraitId
trait_in (implements t) = Some t
trait_in (projects k) = None

pub supers_said : (raw : RawFacts) (c : Asked) (t : TraitId) (xs : List GenericArg) (gs : List RawGoal) (a b : List Asked) → c.kind ≡ implements t → xs ≡ trait_holes raw t → gs ≡ trait_preds raw t
    → Adds (SomeSays (λ i g. SaysAt raw xs c.parts g) gs) a b → Adds (IsSuper raw c) a b
supers_said raw c t xs gs a b kind args preds h =
    adds_as (SomeSays (λ i g. SaysAt raw (trait_holes raw t) c.parts g) (trait_preds raw t)) (IsSuper raw c) a b
    (λ d s. record { trait_ = t; kind = kind; says = s })
    (λ d s. subst (λ u. SomeSays (λ i g. SaysAt raw (trait_holes raw u) c.parts g) (trait_preds raw u) d) (same s.trait_ s.kind) s.says)
    (subst (λ ys. Adds (SomeSays (λ i g. SaysAt raw (trait_holes raw t) c.parts g) ys) a b) preds (subst (λ ys. Adds (SomeSays (λ i g. SaysAt raw ys c.parts g) gs) a b) args h))
  where
    same : (u : TraitId) → c.kind ≡ implements u → u ≡ t
    same u e = same_Some u t (ap trait_in (sym e ∙ kind))
