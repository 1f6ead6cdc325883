-- Lists of the same entries: what holds of each, of some or of just one of the first does so of the second.
use Rattle.std.specs.Prelude.{◌≡◌, ◌⊎◌, ℕ, zero, suc, List, [], ◌∷◌, ◌++◌, map, slice_get, Some}
use Rattle.std.proofs.Common.{inl, inr, refl, sym, ap, subst, arith}
use Rattle.std.proofs.lemmas.Option.{same_Some}
use Rattle.infer_unify.specs.Words.{Asked, Each, SomeOf, OneOf, Has, AreDistinct}
use Rattle.infer_unify.proofs.Words.{each_map, each_get}

pub record IsOver {X : Type 0} (xs ys : List X) : Type 1 where
  pub each : (P : X → Type 0) → Each P xs → Each P ys
  pub some : (P : X → Type 0) → SomeOf P xs → SomeOf P ys
  pub one : (P Q : X → Type 0) → OneOf P Q xs → OneOf P Q ys

over_more : {X : Type 0} (x : X) (xs ys : List X) → IsOver xs ys → IsOver (x ∷ xs) (x ∷ ys)
over_more {X} x xs ys o = record { each = λ P h. (h.0, o.each P h.1); some = some; one = one }
  where
    some : (P : X → Type 0) → SomeOf P (x ∷ xs) → SomeOf P (x ∷ ys)
    some P (inl h) = inl h
    some P (inr h) = inr (o.some P h)

    one : (P Q : X → Type 0) → OneOf P Q (x ∷ xs) → OneOf P Q (x ∷ ys)
    one P Q (inl h) = inl (h.0, o.each Q h.1)
    one P Q (inr h) = inr (h.0, o.one P Q h.1)

-- behind the same entries
pub over_behind : {X : Type 0} (before xs ys : List X) → IsOver xs ys → IsOver (before ++ xs) (before ++ ys)
over_behind [] xs ys o = o
over_behind (x ∷ before) xs ys o = over_more x (before ++ xs) (before ++ ys) (over_behind before xs ys o)

-- ---- of what each entry makes

module _ {X Y : Type 0} (f : X → Y) where
  each_of : (P : Y → Type 0) (xs : List X) → Each P (map f xs) → Each (λ x. P (f x)) xs
  each_of P [] h = tt
  each_of P (x ∷ xs) h = (h.0, each_of P xs h.1)

  each_to : (P : Y → Type 0) (xs : List X) → Each (λ x. P (f x)) xs → Each P (map f xs)
  each_to P [] h = tt
  each_to P (x ∷ xs) h = (h.0, each_to P xs h.1)

  some_of : (P : Y → Type 0) (xs : List X) → SomeOf P (map f xs) → SomeOf (λ x. P (f x)) xs
  some_of P [] h = h
  some_of P (x ∷ xs) (inl h) = inl h
  some_of P (x ∷ xs) (inr h) = inr (some_of P xs h)

  some_to : (P : Y → Type 0) (xs : List X) → SomeOf (λ x. P (f x)) xs → SomeOf P (map f xs)
  some_to P [] h = h
  some_to P (x ∷ xs) (inl h) = inl h
  some_to P (x ∷ xs) (inr h) = inr (some_to P xs h)

  one_of : (P Q : Y → Type 0) (xs : List X) → OneOf P Q (map f xs) → OneOf (λ x. P (f x)) (λ x. Q (f x)) xs
  one_of P Q [] h = h
  one_of P Q (x ∷ xs) (inl h) = inl (h.0, each_of Q xs h.1)
  one_of P Q (x ∷ xs) (inr h) = inr (h.0, one_of P Q xs h.1)

  one_to : (P Q : Y → Type 0) (xs : List X) → OneOf (λ x. P (f x)) (λ x. Q (f x)) xs → OneOf P Q (map f xs)
  one_to P Q [] h = h
  one_to P Q (x ∷ xs) (inl h) = inl (h.0, each_to Q xs h.1)
  one_to P Q (x ∷ xs) (inr h) = inr (h.0, one_to P Q xs h.1)

  pub over_made : (xs ys : List X) → IsOver xs ys → IsOver (map f xs) (map f ys)
  over_made xs ys o = record {
    each = λ P h. each_to P ys (o.each (λ x. P (f x)) (each_of P xs h));
    some = λ P h. some_to P ys (o.some (λ x. P (f x)) (some_of P xs h));
    one = λ P Q h. one_to P Q ys (o.one (λ x. P (f x)) (λ x. Q (f x)) (one_of P Q xs h));
  }

-- ---- lists in which each entry stands once

abbrev AreIn : List Asked → List Asked → Type 0
AreIn xs ys = (i : ℕ) (x : Asked) → slice_get xs i ≡ Some x → Has ys x

rest_in : (x : Asked) (xs ys : List Asked) → AreIn (x ∷ xs) ys → AreIn xs ys
rest_in x xs ys h i z at = h (suc i) z at

rest_distinct : (x : Asked) (xs : List Asked) → AreDistinct (x ∷ xs) → AreDistinct xs
rest_distinct x xs h i j z a b = let e = h (suc i) (suc j) z a b in omega (arith, e)

-- each that stands in the second stands in the first
each_over : (P : Asked → Type 0) (xs ys : List Asked) → AreIn ys xs → Each P xs → Each P ys
each_over P xs [] back h = tt
each_over P xs (y ∷ ys) back h = let at = back 0 y refl in (each_get P xs at.0 y h at.1, each_over P xs ys (rest_in y ys xs back) h)

some_in : (P : Asked → Type 0) (ys : List Asked) (i : ℕ) (x : Asked) → slice_get ys i ≡ Some x → P x → SomeOf P ys
some_in P [] i x e h = cc
some_in P (y ∷ ys) zero x e h = inl (subst P (sym (same_Some y x e)) h)
some_in P (y ∷ ys) (suc i) x e h = inr (some_in P ys i x e h)

some_over : (P : Asked → Type 0) (xs ys : List Asked) → AreIn xs ys → SomeOf P xs → SomeOf P ys
some_over P [] ys on h = absurd h
some_over P (x ∷ xs) ys on (inl h) = let at = on 0 x refl in some_in P ys at.0 x at.1 h
some_over P (x ∷ xs) ys on (inr h) = some_over P xs ys (rest_in x xs ys on) h

-- the one, or of the others
record IsOne (P Q : Asked → Type 0) (xs : List Asked) : Type 0 where
  which : Asked
  at : Has xs which
  is : P which
  others : Each (λ x. (x ≡ which) ⊎ Q x) xs

the_one : (P Q : Asked → Type 0) (xs : List Asked) → OneOf P Q xs → IsOne P Q xs
the_one P Q [] h = absurd h
the_one P Q (x ∷ xs) (inl h) = record { which = x; at = (0, refl); is = h.0; others = (inl refl, each_map (λ y q. inr q) xs h.1) }
the_one P Q (x ∷ xs) (inr h) =
    let r = the_one P Q xs h.1 in
    record { which = r.which; at = (suc r.at.0, r.at.1); is = r.is; others = (inr h.0, r.others) }

none_again : (Q : Asked → Type 0) (x : Asked) (ys : List Asked) → ((i : ℕ) → slice_get ys i ≡ Some x → ⊥) → Each (λ y. (y ≡ x) ⊎ Q y) ys → Each Q ys
none_again Q x [] never h = tt
none_again Q x (y ∷ ys) never h = (elim h.0 [ inl e ↦ absurd (never 0 (ap Some e)) | inr q ↦ q ], none_again Q x ys (λ i at. never (suc i) at) h.1)

one_in : (P Q : Asked → Type 0) (x : Asked) (ys : List Asked) (i : ℕ) → AreDistinct ys → slice_get ys i ≡ Some x → P x → Each (λ y. (y ≡ x) ⊎ Q y) ys → OneOf P Q ys
one_in P Q x [] i once at is h = cc
one_in P Q x (y ∷ ys) zero once at is h =
    inl (subst P (sym (same_Some y x at)) is, none_again Q x ys (λ j e. let c = once 0 (suc j) x at e in omega (arith, c)) h.1)
one_in P Q x (y ∷ ys) (suc i) once at is h =
    let other : Q y = elim h.0 [ inl e ↦ (let c = once 0 (suc i) x (ap Some e) at in absurd (omega (arith, c))) | inr q ↦ q ] in
    inr (other, one_in P Q x ys i (rest_distinct y ys once) at is h.1)

one_over : (P Q : Asked → Type 0) (xs ys : List Asked) → AreIn xs ys → AreIn ys xs → AreDistinct ys → OneOf P Q xs → OneOf P Q ys
one_over P Q xs ys on back once h =
    let r = the_one P Q xs h in
    let at = on r.at.0 r.which r.at.1 in
    one_in P Q r.which ys at.0 once at.1 r.is (each_over (λ x. (x ≡ r.which) ⊎ Q x) xs ys back r.others)

pub over_distinct : (xs ys : List Asked) → AreIn xs ys → AreIn ys xs → AreDistinct ys → IsOver xs ys
over_distinct xs ys on back once = record {
  each = λ P h. each_over P xs ys back h;
  some = λ P h. some_over P xs ys on h;
  one = λ P Q h. one_over P Q xs ys on back once h;
}
