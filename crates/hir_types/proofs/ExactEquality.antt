-- An `==` that holds of equal values alone, at each field and variant of a type.
use Rattle.std.proofs.Common.{◌≡◌, refl, sym, ap, Bool, true, false, ◌&&◌, List, [], ◌∷◌, map, nat_eq}
use mathlib.Core.Bool.{true≢false}
use mathlib.Core.Logic.{inl, inr}
use denote.Struct.Field.{Field}
use denote.Struct.Values.{Values}
use denote.Enum.Declared.{Choice}
use denote.Enum.Compared.{Each, by}
use Rattle.std.specs.Cmp.{first_so, second_so, unsigned_Decides}
use Rattle.std.specs.Cmp.Lexicographic.{pointwise}

-- E holds of a and no other value
abbrev pub IsExactAt : {A : Type 0} → (A → A → Bool) → A → Type 0
IsExactAt E a = (b : _) → E a b ≡ true → a ≡ b

-- at a last field
pub one_tells : {A : Type 0} (E : A → A → Bool) (a : A) → IsExactAt E a → (y : A × Unit {0}) → E a y.0 ≡ true → (a, tt) ≡ y
one_tells E a p y h = λ i. (p y.0 h i, tt)

-- at a field before another
pub pair_tells : {A B : Type 0} (E : A → A → Bool) (F : B → B → Bool) (a : A) (b : B) → IsExactAt E a → IsExactAt F b → (y : A × B) → (E a y.0 && F b y.1) ≡ true → (a, b) ≡ y
pair_tells E F a b p q y h = λ i. (p y.0 (first_so (E a y.0) (F b y.1) h) i, q y.1 (second_so (E a y.0) (F b y.1) h) i)

-- at a list
pub items_tell : {A : Type 0} (E : A → A → Bool) (xs : List ((a : A) × IsExactAt E a)) → IsExactAt (pointwise E) (map (λ x. x.0) xs)
items_tell E [] [] h = refl
items_tell E [] (b ∷ bs) h = absurd (true≢false (sym h))
items_tell E (x ∷ xs) [] h = absurd (true≢false (sym h))
items_tell E (x ∷ xs) (b ∷ bs) h = λ i. x.1 b (first_so (E x.0 b) (pointwise E (map (λ x. x.0) xs) bs) h) i ∷ items_tell E xs bs (second_so (E x.0 b) (pointwise E (map (λ x. x.0) xs) bs) h) i

-- the same of each variant's fields
abbrev pub AreExactAt : (Fss : List (List Field)) → Each Bool Fss → Choice Fss → Type 0
AreExactAt [] each c = Unit {0}
AreExactAt (Fs ∷ Fss) each (inl x) = (y : Values Fs) → each.0 x y ≡ true → x ≡ y
AreExactAt (Fs ∷ Fss) each (inr c) = AreExactAt Fss each.1 c

-- and so at an enum
pub by_tells : (Fss : List (List Field)) (each : Each Bool Fss) (c d : Choice Fss) → AreExactAt Fss each c → by false false Fss each c d ≡ true → c ≡ d
by_tells [] each c d t h = absurd c
by_tells (Fs ∷ Fss) each (inl x) (inl y) t h = ap inl (t y h)
by_tells (Fs ∷ Fss) each (inl x) (inr d) t h = absurd (true≢false (sym h))
by_tells (Fs ∷ Fss) each (inr c) (inl y) t h = absurd (true≢false (sym h))
by_tells (Fs ∷ Fss) each (inr c) (inr d) t h = ap inr (by_tells Fss each.1 c d t h)

pub nat_tells : (a : _) → IsExactAt nat_eq a
nat_tells a b = (unsigned_Decides a b).0
