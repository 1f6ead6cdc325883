-- Each, some and one of a list; and of the parts of a type.
use Rattle.std.proofs.Common.{◌⊎◌, inl, inr, Bool, true, false, List, [], ◌∷◌}
use Rattle.goal_answers.specs.Own.{OneIf, Each, SomeOf, OneOf}

-- by what a test says
pub one_if : {W S W' S' : Type 0} (b : Bool) → (W → W') → (S → S') → OneIf b W S → OneIf b W' S'
one_if true f g x = f x
one_if false f g x = g x

-- in either case
pub or_map : {X Y X' Y' : Type 0} → (X → X') → (Y → Y') → X ⊎ Y → X' ⊎ Y'
or_map f g (inl x) = inl (f x)
or_map f g (inr y) = inr (g y)

pub each_map : {X : Type 0} {P Q : X → Type 0} → ((x : X) → P x → Q x) → (xs : List X) → Each P xs → Each Q xs
each_map f [] h = tt
each_map f (x ∷ xs) h = (f x h.0, each_map f xs h.1)

pub some_map : {X : Type 0} {P Q : X → Type 0} → ((x : X) → P x → Q x) → (xs : List X) → SomeOf P xs → SomeOf Q xs
some_map f [] h = h
some_map f (x ∷ xs) (inl h) = inl (f x h)
some_map f (x ∷ xs) (inr h) = inr (some_map f xs h)

pub one_map : {X : Type 0} {P Q P' Q' : X → Type 0} → ((x : X) → P x → P' x) → ((x : X) → Q x → Q' x) → (xs : List X) → OneOf P Q xs → OneOf P' Q' xs
one_map f g [] h = h
one_map f g (x ∷ xs) (inl h) = inl (f x h.0, each_map g xs h.1)
one_map f g (x ∷ xs) (inr h) = inr (g x h.0, one_map f g xs h.1)

-- some are not those of which each is otherwise
pub some_each : {X : Type 0} {P Q : X → Type 0} → ((x : X) → P x → Q x → ⊥) → (xs : List X) → SomeOf P xs → Each Q xs → ⊥
some_each f [] h k = h
some_each f (x ∷ xs) (inl h) k = f x h k.0
some_each f (x ∷ xs) (inr h) k = some_each f xs h k.1

-- where three things are told of each
pub picked : {X : Type 0} {P Q T : X → Type 0} (xs : List X) → SomeOf P xs → Each Q xs → Each T xs → (x : X) × P x × Q x × T x
picked [] h k t = absurd h
picked (x ∷ xs) (inl h) k t = (x, h, k.0, t.0)
picked (x ∷ xs) (inr h) k t = picked xs h k.1 t.1

pub one_some : {X : Type 0} (P Q P' : X → Type 0) → ((x : X) → P x → P' x) → (xs : List X) → OneOf P Q xs → SomeOf P' xs
one_some P Q P' f [] h = h
one_some P Q P' f (x ∷ xs) (inl h) = inl (f x h.0)
one_some P Q P' f (x ∷ xs) (inr h) = inr (one_some P Q P' f xs h.1)

-- where there is one, not each is otherwise
pub one_each : {X : Type 0} (P Q Q' : X → Type 0) → ((x : X) → P x → Q' x → ⊥) → (xs : List X) → OneOf P Q xs → Each Q' xs → ⊥
one_each P Q Q' f [] h k = h
one_each P Q Q' f (x ∷ xs) (inl h) k = f x h.0 k.0
one_each P Q Q' f (x ∷ xs) (inr h) k = one_each P Q Q' f xs h.1 k.1

-- of two that are just one they are the same one
pub one_one : {X : Type 0} {P Q P' Q' : X → Type 0} → ((x : X) → P x → Q' x → ⊥) → ((x : X) → P' x → Q x → ⊥) → (xs : List X) → OneOf P Q xs → OneOf P' Q' xs → (x : X) × P x × P' x
one_one f g [] h k = absurd h
one_one f g (x ∷ xs) (inl h) (inl k) = (x, h.0, k.0)
one_one f g (x ∷ xs) (inl h) (inr k) = absurd (f x h.0 k.0)
one_one f g (x ∷ xs) (inr h) (inl k) = absurd (g x k.0 h.0)
one_one f g (x ∷ xs) (inr h) (inr k) = one_one f g xs h.1 k.1

-- where something is told of each
pub each_with : {X : Type 0} {P Q T : X → Type 0} → ((x : X) → T x → P x → Q x) → (xs : List X) → Each T xs → Each P xs → Each Q xs
each_with f [] t h = tt
each_with f (x ∷ xs) t h = (f x t.0 h.0, each_with f xs t.1 h.1)

pub some_with : {X : Type 0} {P Q T : X → Type 0} → ((x : X) → T x → P x → Q x) → (xs : List X) → Each T xs → SomeOf P xs → SomeOf Q xs
some_with f [] t h = h
some_with f (x ∷ xs) t (inl h) = inl (f x t.0 h)
some_with f (x ∷ xs) t (inr h) = inr (some_with f xs t.1 h)
