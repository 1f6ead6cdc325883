-- What is added one after another.
use Rattle.std.specs.Prelude.{◌≡◌, ◌⊎◌, ◌+◌, ◌<◌, ◌≤◌, ℕ, zero, suc, List, [], ◌∷◌, ◌++◌, length, map, slice_get, Some, refl}
use Rattle.std.proofs.Common.{inl, inr, sym, ap, ◌∙◌, subst, arith, get_or}
use Rattle.std.proofs.lemmas.Option.{same_Some}
use Rattle.goal_facts.specs.Words.{Asked, HasHeads}
use Rattle.goal_facts.specs.Own.{Has, AreDistinct, Adds, SomeSays, SomeSaysBefore}
use Rattle.goal_facts.proofs.Words.{get_left, get_last, get_more}

-- ---- places

pub get_here : {X : Type 0} (xs : List X) (i : ℕ) (x : X) → i < length xs → x ≡ get_or xs i x → slice_get xs i ≡ Some x
get_here [] i x h e = absurd (omega arith)
get_here (y ∷ xs) zero x h e = ap Some (sym e)
get_here (y ∷ xs) (suc i) x h e = get_here xs i x (omega arith) e

pub get_within : {X : Type 0} (xs : List X) (i : ℕ) (x : X) → slice_get xs i ≡ Some x → i < length xs
get_within [] i x e = cc
get_within (y ∷ xs) zero x e = omega arith
get_within (y ∷ xs) (suc i) x e = let h = get_within xs i x e in omega (arith, h)

pub get_mapped : {X Y : Type 0} (f : X → Y) (xs : List X) (i : ℕ) (x : X) → slice_get xs i ≡ Some x → slice_get (map f xs) i ≡ Some (f x)
get_mapped f [] i x e = cc
get_mapped f (y ∷ xs) zero x e = ap Some (ap f (same_Some y x e))
get_mapped f (y ∷ xs) (suc i) x e = get_mapped f xs i x e

pub get_in_map : {X Y : Type 0} (f : X → Y) (xs : List X) (i : ℕ) (y : Y) → slice_get (map f xs) i ≡ Some y → (x : X) × (slice_get xs i ≡ Some x) × (f x ≡ y)
get_in_map f [] i y e = cc
get_in_map f (x ∷ xs) zero y e = (x, refl, same_Some (f x) y e)
get_in_map f (x ∷ xs) (suc i) y e = get_in_map f xs i y e

-- ---- additions

pub adds_none : (P : Asked → Type 0) (ds : List Asked) → ((d : Asked) → P d → Has ds d) → Adds P ds ds
adds_none P ds has = record { stay = λ i d e. e; all = has; only = λ i d e. inl e; once = λ h. h; heads = λ h. h }

pub adds_one : (d : Asked) (ds : List Asked) → (Has ds d → ⊥) → HasHeads d.parts → Adds (λ e. e ≡ d) ds (ds ++ d ∷ [])
adds_one d ds new heads =
    record {
      stay = get_left ds (d ∷ []);
      all = λ e is. (length ds, get_last ds d ∙ ap Some (sym is));
      only = λ i e at. elim (get_more ds d i e at) [
        | inl h ↦ inl h
        | inr h ↦ inr (sym h.1)
      ];
      once = λ h. distinct h;
      heads = λ h i e at. elim (get_more ds d i e at) [
        | inl k ↦ h i e k
        | inr k ↦ subst (λ x. HasHeads x.parts) k.1 heads
      ];
    }
  where
    distinct : AreDistinct ds → AreDistinct (ds ++ d ∷ [])
    distinct h i j e at_i at_j = elim (get_more ds d i e at_i) [
      | inl k ↦ elim (get_more ds d j e at_j) [
        | inl l ↦ h i j e k l
        | inr l ↦ absurd (new (i, k ∙ ap Some (sym l.1)))
      ]
      | inr k ↦ elim (get_more ds d j e at_j) [
        | inl l ↦ absurd (new (j, l ∙ ap Some (sym k.1)))
        | inr l ↦ k.0 ∙ sym l.0
      ]
    ]

pub adds_then : (P Q : Asked → Type 0) (a b c : List Asked) → Adds P a b → Adds Q b c → Adds (λ d. P d ⊎ Q d) a c
adds_then P Q a b c h k =
    record {
      stay = λ i d at. k.stay i d (h.stay i d at);
      all = λ d p. elim p [
        | inl x ↦ let there = h.all d x in (there.0, k.stay there.0 d there.1)
        | inr y ↦ k.all d y
      ];
      only = λ i d at. elim (k.only i d at) [
        | inl x ↦ elim (h.only i d x) [
          | inl y ↦ inl y
          | inr y ↦ inr (inl y)
        ]
        | inr x ↦ inr (inr x)
      ];
      once = λ x. k.once (h.once x);
      heads = λ x. k.heads (h.heads x);
    }

pub adds_as : (P Q : Asked → Type 0) (a b : List Asked) → ((d : Asked) → P d → Q d) → ((d : Asked) → Q d → P d) → Adds P a b → Adds Q a b
adds_as P Q a b to from h =
    record {
      stay = h.stay;
      all = λ d q. h.all d (from d q);
      only = λ i d at. elim (h.only i d at) [
        | inl x ↦ inl x
        | inr x ↦ inr (to d x)
      ];
      once = h.once;
      heads = h.heads;
    }

-- ---- along a list

pub before_none : {X : Type 0} (P : ℕ → X → Asked → Type 0) (xs : List X) (ds : List Asked) → Adds (SomeSaysBefore P xs 0) ds ds
before_none P xs ds = adds_none (SomeSaysBefore P xs 0) ds (λ d h. absurd (omega (arith, h.1)))

pub less_or_last : (i n : ℕ) → i < n + 1 → (i < n) ⊎ (i ≡ n)
less_or_last zero zero h = inr refl
less_or_last zero (suc n) h = inl (omega arith)
less_or_last (suc i) zero h = absurd (omega (arith, h))
less_or_last (suc i) (suc n) h = elim (less_or_last i n (omega (arith, h))) [
  | inl k ↦ inl (omega (arith, k))
  | inr k ↦ inr (ap suc k)
]

pub before_next : {X : Type 0} (P : ℕ → X → Asked → Type 0) (xs : List X) (n : ℕ) (x : X) (a b c : List Asked) → n < length xs → x ≡ get_or xs n x
    → Adds (SomeSaysBefore P xs n) a b → Adds (P n x) b c → Adds (SomeSaysBefore P xs (n + 1)) a c
before_next P xs n x a b c within is h k =
    adds_as (λ d. SomeSaysBefore P xs n d ⊎ P n x d) (SomeSaysBefore P xs (n + 1)) a c to from (adds_then (SomeSaysBefore P xs n) (P n x) a b c h k)
  where
    here : slice_get xs n ≡ Some x
    here = get_here xs n x within is

    to : (d : Asked) → SomeSaysBefore P xs n d ⊎ P n x d → SomeSaysBefore P xs (n + 1) d
    to d (inl s) = let less = s.1 in (s.0, omega (arith, less), s.2, s.3, s.4)
    to d (inr p) = (n, omega arith, x, here, p)

    from : (d : Asked) → SomeSaysBefore P xs (n + 1) d → SomeSaysBefore P xs n d ⊎ P n x d
    from d (i, less, y, at, p) = elim (less_or_last i n less) [
      | inl k ↦ inl (i, k, y, at, p)
      | inr k ↦ inr (subst (λ j. P j x d) k (subst (λ z. P i z d) (same_Some y x (sym at ∙ (ap (slice_get xs) k ∙ here))) p))
    ]

pub before_all : {X : Type 0} (P : ℕ → X → Asked → Type 0) (xs : List X) (n : ℕ) (a b : List Asked) → length xs ≤ n → Adds (SomeSaysBefore P xs n) a b → Adds (SomeSays P xs) a b
before_all P xs n a b done h =
    adds_as (SomeSaysBefore P xs n) (SomeSays P xs) a b (λ d s. (s.0, s.2, s.3, s.4)) from h
  where
    from : (d : Asked) → SomeSays P xs d → SomeSaysBefore P xs n d
    from d (i, x, at, p) = let within = get_within xs i x at in (i, omega (arith, within, done), x, at, p)

-- what was added is all that is said
pub adds_said : (P : Asked → Type 0) (f : Asked) (a b : List Asked) → ((d e : Asked) → P d → P e → d ≡ e) → P f → Adds (λ d. d ≡ f) a b → Adds P a b
adds_said P f a b one said h = adds_as (λ d. d ≡ f) P a b (λ d e. subst P (sym e) said) (λ d p. one d f p said) h

pub adds_nothing : (P : Asked → Type 0) (a : List Asked) → ((d : Asked) → P d → ⊥) → Adds P a a
adds_nothing P a none = adds_none P a (λ d p. absurd (none d p))
