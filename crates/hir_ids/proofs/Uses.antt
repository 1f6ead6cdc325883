-- Lists that are gathered piece by piece.
use Rattle.std.proofs.Common.{◌≡◌, ◌<◌, ◌+◌, ℕ, List, [], ◌∷◌, ◌++◌, length, get_or, take, sym, ◌∙◌, ap}
use Rattle.std.specs.List.{flat_map}
use Rattle.std.proofs.lemmas.List.{take_more, flat_map_more}

pub gathered_after : {X A : Type 0} (f : X → List A) (xs : List X) (i : ℕ) (x : X) (old now new : List A) → i < length xs → x ≡ get_or xs i x → now ≡ old ++ flat_map f (take i xs)
    → new ≡ now ++ f x → new ≡ old ++ flat_map f (take (i + 1) xs)
gathered_after {X} {A} f xs i x old now new lt is before pushed =
    pushed ∙ (ap (λ (ys : List A). ys ++ f x) before ∙ (flat_map_more f old (take i xs) x ∙ ap (λ (ys : List X). old ++ flat_map f ys) (ap (λ (y : X). take i xs ++ y ∷ []) is ∙ sym (take_more xs i x lt))))

pub gathered_more : {X A : Type 0} (f : X → List A) (xs : List X) (i : ℕ) (x : X) (now new : List A) → i < length xs → x ≡ get_or xs i x → now ≡ flat_map f (take i xs)
    → new ≡ now ++ f x → new ≡ flat_map f (take (i + 1) xs)
gathered_more f xs i x now new lt is before pushed = gathered_after f xs i x [] now new lt is before pushed
