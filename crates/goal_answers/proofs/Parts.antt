-- What holds of the parts of types.
use Rattle.std.proofs.Common.{◌≡◌, inl, inr, ℕ, zero, suc, refl, sym, ap, ◌∙◌, subst, List, [], ◌∷◌, map, Option, Some, None}
use Rattle.std.proofs.lemmas.Option.{same_Some}
use Rattle.hir_types.specs.declared.head.Head.TheVariants as head
use Rattle.goal_answers.specs.Words.{Term, hole, leaf, pair, apply}
use Rattle.goal_answers.specs.Own.{Fill, Each, SomeOf, with_part, types_of, EachType, SomeType, IsLastPart, IsLast, IsNth}
use Rattle.goal_answers.proofs.Lists.{each_map, some_map, some_each}

-- ---- types among the parts

pub each_type : {P Q : Term → Type 0} → ((t : Term) → P t → Q t) → (o : Option (List Term)) → EachType P o → EachType Q o
each_type f None x = x
each_type f (Some ts) x = each_map f ts x

pub some_type : {P Q : Term → Type 0} → ((t : Term) → P t → Q t) → (o : Option (List Term)) → SomeType P o → SomeType Q o
some_type f None x = x
some_type f (Some ts) x = some_map f ts x

-- some are not those of which each is otherwise
pub types_or : {P Q : Term → Type 0} → ((t : Term) → P t → Q t → ⊥) → (o : Option (List Term)) → EachType P o → SomeType Q o → ⊥
types_or f None x y = y
types_or f (Some ts) x y = some_each (λ t q p. f t p q) ts y x

each_filled : (P Q : Term → Type 0) (s : Fill) → ((t : Term) → P t → Q (apply s t)) → (ts : List Term) → Each P ts → Each Q (map (apply s) ts)
each_filled P Q s f [] x = tt
each_filled P Q s f (t ∷ ts) x = (f t x.0, each_filled P Q s f ts x.1)

some_filled : (P Q : Term → Type 0) (s : Fill) → ((t : Term) → P t → Q (apply s t)) → (ts : List Term) → SomeOf P ts → SomeOf Q (map (apply s) ts)
some_filled P Q s f [] x = x
some_filled P Q s f (t ∷ ts) (inl x) = inl (f t x)
some_filled P Q s f (t ∷ ts) (inr x) = inr (some_filled P Q s f ts x)

with_part_filled : (s : Fill) (a : Term) (o p : Option (List Term)) → ((ts : List Term) → o ≡ Some ts → p ≡ Some (map (apply s) ts)) → (ts : List Term) → with_part a o ≡ Some ts → with_part (apply s a) p ≡ Some (map (apply s) ts)
with_part_filled s (pair (leaf head.TypePart) t) (Some us) p h ts e =
    ap (with_part (pair (leaf head.TypePart) (apply s t))) (h us refl) ∙ ap (λ xs. Some (map (apply s) xs)) (same_Some (t ∷ us) ts e)
with_part_filled s (pair (leaf head.ConstPart) t) (Some us) p h ts e =
    ap (with_part (pair (leaf head.ConstPart) (apply s t))) (h us refl) ∙ ap (λ xs. Some (map (apply s) xs)) (same_Some us ts e)
with_part_filled s (pair (leaf head.TypePart) t) None p h ts e = cc
with_part_filled s (pair (leaf head.ConstPart) t) None p h ts e = cc
with_part_filled s (pair (leaf _) t) o p h ts e = cc
with_part_filled s (pair (hole k) t) o p h ts e = cc
with_part_filled s (pair (pair a c) t) o p h ts e = cc
with_part_filled s (leaf x) o p h ts e = cc
with_part_filled s (hole k) o p h ts e = cc

types_filled : (s : Fill) (b : Term) (ts : List Term) → types_of b ≡ Some ts → types_of (apply s b) ≡ Some (map (apply s) ts)
types_filled s (hole k) ts e = cc
types_filled s (leaf h) ts e = ap (λ xs. Some (map (apply s) xs)) (same_Some [] ts e)
types_filled s (pair a b) ts e = with_part_filled s a (types_of b) (types_of (apply s b)) (types_filled s b) ts e

pub each_type_filled : (P Q : Term → Type 0) (s : Fill) → ((t : Term) → P t → Q (apply s t)) → (b : Term) → EachType P (types_of b) → EachType Q (types_of (apply s b))
each_type_filled P Q s f b x = by_types (types_of b) refl x
  where
    by_types : (o : Option (List Term)) → types_of b ≡ o → EachType P o → EachType Q (types_of (apply s b))
    by_types None e x = absurd x
    by_types (Some ts) e x = subst (EachType Q) (sym (types_filled s b ts e)) (each_filled P Q s f ts x)

pub some_type_filled : (P Q : Term → Type 0) (s : Fill) → ((t : Term) → P t → Q (apply s t)) → (b : Term) → SomeType P (types_of b) → SomeType Q (types_of (apply s b))
some_type_filled P Q s f b x = by_types (types_of b) refl x
  where
    by_types : (o : Option (List Term)) → types_of b ≡ o → SomeType P o → SomeType Q (types_of (apply s b))
    by_types None e x = absurd x
    by_types (Some ts) e x = subst (SomeType Q) (sym (types_filled s b ts e)) (some_filled P Q s f ts x)

-- ---- the last, and the one at a place

last_part_filled : (s : Fill) (a u : Term) → IsLastPart a u → IsLastPart (apply s a) (apply s u)
last_part_filled s (pair (leaf head.TypePart) t) u x = ap (apply s) x
last_part_filled s (pair (leaf _) t) u x = absurd x
last_part_filled s (pair (hole k) t) u x = absurd x
last_part_filled s (pair (pair a c) t) u x = absurd x
last_part_filled s (leaf h) u x = absurd x
last_part_filled s (hole k) u x = absurd x

pub last_filled : (s : Fill) (ts u : Term) → IsLast ts u → IsLast (apply s ts) (apply s u)
last_filled s (pair a (leaf h)) u x = last_part_filled s a u x
last_filled s (pair a (pair b c)) u x = last_filled s (pair b c) u x
last_filled s (pair a (hole k)) u x = absurd x
last_filled s (leaf h) u x = absurd x
last_filled s (hole k) u x = absurd x

last_part_one : (a u u' : Term) → IsLastPart a u → IsLastPart a u' → u ≡ u'
last_part_one (pair (leaf head.TypePart) t) u u' x y = x ∙ sym y
last_part_one (pair (leaf _) t) u u' x y = absurd x
last_part_one (pair (hole k) t) u u' x y = absurd x
last_part_one (pair (pair a c) t) u u' x y = absurd x
last_part_one (leaf h) u u' x y = absurd x
last_part_one (hole k) u u' x y = absurd x

pub last_one : (ts u u' : Term) → IsLast ts u → IsLast ts u' → u ≡ u'
last_one (pair a (leaf h)) u u' x y = last_part_one a u u' x y
last_one (pair a (pair b c)) u u' x y = last_one (pair b c) u u' x y
last_one (pair a (hole k)) u u' x y = absurd x
last_one (leaf h) u u' x y = absurd x
last_one (hole k) u u' x y = absurd x

pub nth_filled : (s : Fill) (n : ℕ) (ts u : Term) → IsNth n ts u → IsNth n (apply s ts) (apply s u)
nth_filled s zero (pair (pair m t) b) u x = ap (apply s) x
nth_filled s (suc n) (pair a b) u x = nth_filled s n b u x
nth_filled s zero (pair (hole k) b) u x = absurd x
nth_filled s zero (pair (leaf h) b) u x = absurd x
nth_filled s zero (hole k) u x = absurd x
nth_filled s zero (leaf h) u x = absurd x
nth_filled s (suc n) (hole k) u x = absurd x
nth_filled s (suc n) (leaf h) u x = absurd x

pub nth_one : (n : ℕ) (ts u u' : Term) → IsNth n ts u → IsNth n ts u' → u ≡ u'
nth_one zero (pair (pair m t) b) u u' x y = x ∙ sym y
nth_one (suc n) (pair a b) u u' x y = nth_one n b u u' x y
nth_one zero (pair (hole k) b) u u' x y = absurd x
nth_one zero (pair (leaf h) b) u u' x y = absurd x
nth_one zero (hole k) u u' x y = absurd x
nth_one zero (leaf h) u u' x y = absurd x
nth_one (suc n) (hole k) u u' x y = absurd x
nth_one (suc n) (leaf h) u u' x y = absurd x
