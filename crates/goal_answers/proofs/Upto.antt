-- Each, some and one of the elements before an index.
use Rattle.std.proofs.Common.{◌≡◌, inl, inr, ℕ, zero, suc, ◌+◌, ◌<◌, ◌≤◌, refl, sym, subst, arith, List, [], ◌∷◌, map, length, take, get_or}
use Rattle.goal_answers.specs.Own.{Each, SomeOf, OneOf}

each_upto : {X : Type 0} (P : X → Type 0) (xs : List X) (i j : ℕ) (x : X) → j ≡ suc i → i < length xs → x ≡ get_or xs i x → Each P (take i xs) → P x → Each P (take j xs)
each_upto P [] i j x e h g k p = absurd (omega arith)
each_upto P (y ∷ ys) zero j x e h g k p = rw e (subst P g p, tt)
each_upto P (y ∷ ys) (suc i) j x e h g k p = rw e (k.0, each_upto P ys i (suc i) x refl (omega arith) g k.1 p)

-- one element more
pub each_more : {X : Type 0} (P : X → Type 0) (xs : List X) (i : ℕ) (x : X) → i < length xs → x ≡ get_or xs i x → Each P (take i xs) → P x → Each P (take (i + 1) xs)
each_more P xs i x h g k p = let e : i + 1 ≡ suc i = omega arith in each_upto P xs i (i + 1) x e h g k p

pub some_at : {X : Type 0} (P : X → Type 0) (xs : List X) (i : ℕ) (x : X) → i < length xs → x ≡ get_or xs i x → P x → SomeOf P xs
some_at P [] i x h g p = absurd (omega arith)
some_at P (y ∷ ys) zero x h g p = inl (subst P g p)
some_at P (y ∷ ys) (suc i) x h g p = inr (some_at P ys i x (omega arith) g p)

pub each_at : {X : Type 0} (P : X → Type 0) (xs : List X) (i : ℕ) (x : X) → i < length xs → x ≡ get_or xs i x → Each P xs → P x
each_at P [] i x h g k = absurd (omega arith)
each_at P (y ∷ ys) zero x h g k = subst P (sym g) k.0
each_at P (y ∷ ys) (suc i) x h g k = each_at P ys i x (omega arith) g k.1

pub each_all : {X : Type 0} (P : X → Type 0) (xs : List X) (i : ℕ) → length xs ≤ i → Each P (take i xs) → Each P xs
each_all P [] i h k = tt
each_all P (y ∷ ys) zero h k = absurd (omega arith)
each_all P (y ∷ ys) (suc i) h k = (k.0, each_all P ys i (omega arith) k.1)

one_upto : {X : Type 0} (P Q : X → Type 0) (xs : List X) (i j : ℕ) (x : X) → j ≡ suc i → i < length xs → x ≡ get_or xs i x → OneOf P Q (take i xs) → Q x → OneOf P Q (take j xs)
one_upto P Q [] i j x e h g k p = absurd (omega arith)
one_upto P Q (y ∷ ys) zero j x e h g k p = absurd k
one_upto P Q (y ∷ ys) (suc i) j x e h g (inl k) p = rw e (inl (k.0, each_upto Q ys i (suc i) x refl (omega arith) g k.1 p))
one_upto P Q (y ∷ ys) (suc i) j x e h g (inr k) p = rw e (inr (k.0, one_upto P Q ys i (suc i) x refl (omega arith) g k.1 p))

-- the one is before, and one more is otherwise
pub one_more : {X : Type 0} (P Q : X → Type 0) (xs : List X) (i : ℕ) (x : X) → i < length xs → x ≡ get_or xs i x → OneOf P Q (take i xs) → Q x → OneOf P Q (take (i + 1) xs)
one_more P Q xs i x h g k p = let e : i + 1 ≡ suc i = omega arith in one_upto P Q xs i (i + 1) x e h g k p

last_upto : {X : Type 0} (P Q : X → Type 0) (xs : List X) (i j : ℕ) (x : X) → j ≡ suc i → i < length xs → x ≡ get_or xs i x → Each Q (take i xs) → P x → OneOf P Q (take j xs)
last_upto P Q [] i j x e h g k p = absurd (omega arith)
last_upto P Q (y ∷ ys) zero j x e h g k p = rw e (inl (subst P g p, tt))
last_upto P Q (y ∷ ys) (suc i) j x e h g k p = rw e (inr (k.0, last_upto P Q ys i (suc i) x refl (omega arith) g k.1 p))

-- those before are otherwise, and this is the one
pub last_one_more : {X : Type 0} (P Q : X → Type 0) (xs : List X) (i : ℕ) (x : X) → i < length xs → x ≡ get_or xs i x → Each Q (take i xs) → P x → OneOf P Q (take (i + 1) xs)
last_one_more P Q xs i x h g k p = let e : i + 1 ≡ suc i = omega arith in last_upto P Q xs i (i + 1) x e h g k p

pub one_all : {X : Type 0} (P Q : X → Type 0) (xs : List X) (i : ℕ) → length xs ≤ i → OneOf P Q (take i xs) → OneOf P Q xs
one_all P Q [] zero h k = k
one_all P Q [] (suc i) h k = k
one_all P Q (y ∷ ys) zero h k = absurd (omega arith)
one_all P Q (y ∷ ys) (suc i) h (inl k) = inl (k.0, each_all Q ys i (omega arith) k.1)
one_all P Q (y ∷ ys) (suc i) h (inr k) = inr (k.0, one_all P Q ys i (omega arith) k.1)

-- what is neither is not otherwise, so there is no one
pub one_at : {X : Type 0} (P Q : X → Type 0) (xs : List X) (i : ℕ) (x : X) → i < length xs → x ≡ get_or xs i x → (P x → ⊥) → (Q x → ⊥) → OneOf P Q xs → ⊥
one_at P Q [] i x h g n m k = k
one_at P Q (y ∷ ys) zero x h g n m (inl k) = n (subst P (sym g) k.0)
one_at P Q (y ∷ ys) zero x h g n m (inr k) = m (subst Q (sym g) k.0)
one_at P Q (y ∷ ys) (suc i) x h g n m (inl k) = m (each_at Q ys i x (omega arith) g k.1)
one_at P Q (y ∷ ys) (suc i) x h g n m (inr k) = one_at P Q ys i x (omega arith) g n m k.1

-- where there is one before an index, one at it is not otherwise
pub one_before : {X : Type 0} (P Q P' Q' : X → Type 0) (xs : List X) (i : ℕ) (x : X) → i < length xs → x ≡ get_or xs i x → ((y : X) → P y → Q' y → ⊥) → OneOf P Q (take i xs) → (Q' x → ⊥) → OneOf P' Q' xs → ⊥
one_before P Q P' Q' [] i x h g d o m k = k
one_before P Q P' Q' (y ∷ ys) zero x h g d o m k = o
one_before P Q P' Q' (y ∷ ys) (suc i) x h g d (inl o) m (inl k) = m (each_at Q' ys i x (omega arith) g k.1)
one_before P Q P' Q' (y ∷ ys) (suc i) x h g d (inl o) m (inr k) = d y o.0 k.0
one_before P Q P' Q' (y ∷ ys) (suc i) x h g d (inr o) m (inl k) = m (each_at Q' ys i x (omega arith) g k.1)
one_before P Q P' Q' (y ∷ ys) (suc i) x h g d (inr o) m (inr k) = one_before P Q P' Q' ys i x (omega arith) g d o.1 m k.1

-- ---- over what a list is made of

pub each_of_map : {X Y : Type 0} (f : X → Y) (P : Y → Type 0) (xs : List X) → Each (λ x. P (f x)) xs → Each P (map f xs)
each_of_map f P [] h = tt
each_of_map f P (x ∷ xs) h = (h.0, each_of_map f P xs h.1)

pub each_in_map : {X Y : Type 0} (f : X → Y) (P : Y → Type 0) (xs : List X) → Each P (map f xs) → Each (λ x. P (f x)) xs
each_in_map f P [] h = tt
each_in_map f P (x ∷ xs) h = (h.0, each_in_map f P xs h.1)

pub some_of_map : {X Y : Type 0} (f : X → Y) (P : Y → Type 0) (xs : List X) → SomeOf (λ x. P (f x)) xs → SomeOf P (map f xs)
some_of_map f P [] h = h
some_of_map f P (x ∷ xs) (inl h) = inl h
some_of_map f P (x ∷ xs) (inr h) = inr (some_of_map f P xs h)

pub some_in_map : {X Y : Type 0} (f : X → Y) (P : Y → Type 0) (xs : List X) → SomeOf P (map f xs) → SomeOf (λ x. P (f x)) xs
some_in_map f P [] h = h
some_in_map f P (x ∷ xs) (inl h) = inl h
some_in_map f P (x ∷ xs) (inr h) = inr (some_in_map f P xs h)

pub one_of_map : {X Y : Type 0} (f : X → Y) (P Q : Y → Type 0) (xs : List X) → OneOf (λ x. P (f x)) (λ x. Q (f x)) xs → OneOf P Q (map f xs)
one_of_map f P Q [] h = h
one_of_map f P Q (x ∷ xs) (inl h) = inl (h.0, each_of_map f Q xs h.1)
one_of_map f P Q (x ∷ xs) (inr h) = inr (h.0, one_of_map f P Q xs h.1)

pub one_in_map : {X Y : Type 0} (f : X → Y) (P Q : Y → Type 0) (xs : List X) → OneOf P Q (map f xs) → OneOf (λ x. P (f x)) (λ x. Q (f x)) xs
one_in_map f P Q [] h = h
one_in_map f P Q (x ∷ xs) (inl h) = inl (h.0, each_in_map f Q xs h.1)
one_in_map f P Q (x ∷ xs) (inr h) = inr (h.0, one_in_map f P Q xs h.1)

-- none of which it holds
pub none_of : {X : Type 0} (P : X → Type 0) (xs : List X) → Each (λ x. P x → ⊥) xs → SomeOf P xs → ⊥
none_of P [] h k = k
none_of P (x ∷ xs) h (inl k) = h.0 k
none_of P (x ∷ xs) h (inr k) = none_of P xs h.1 k
