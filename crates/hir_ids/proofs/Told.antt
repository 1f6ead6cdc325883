-- What is said of the entries of a list, one entry after another.
use Rattle.std.proofs.Common.{◌≡◌, ◌+◌, ◌<◌, ℕ, suc, List, [], ◌∷◌, ◌++◌, length, get_or, take, sym, ap, ◌∙◌, arith}
use Rattle.std.specs.List.{flat_map}
use Rattle.std.proofs.lemmas.List.{append_assoc, append-nil, map-append, take_more, length-take-le}
use Rattle.std.proofs.lemmas.Grind.{flat_map-append}
use Rattle.hir_ids.specs.Words.{Mention, Said, each, said}

each-push : {A B : Type 0} (f : ℕ → A → List B) (i : ℕ) (xs : List A) (x : A) → each f i (xs ++ x ∷ []) ≡ each f i xs ++ f (i + length xs) x
each-push f i [] x = append-nil (f i x) ∙ ap (λ (k : ℕ). f k x) (omega arith)
each-push f i (y ∷ xs) x =
    let rest : each f (suc i) (xs ++ x ∷ []) ≡ each f (suc i) xs ++ f (i + suc (length xs)) x = each-push f (suc i) xs x ∙ ap (λ (k : ℕ). each f (suc i) xs ++ f k x) (omega arith) in
    ap (λ (ms : List _). f i y ++ ms) rest ∙ sym (append_assoc (f i y) (each f (suc i) xs) (f (i + suc (length xs)) x))

-- one more entry
each_more : {A B : Type 0} (f : ℕ → A → List B) (xs : List A) (i : ℕ) (x : A) → i < length xs → x ≡ get_or xs i x → each f 0 (take (i + 1) xs) ≡ each f 0 (take i xs) ++ f i x
each_more f xs i x lt is =
    let longer : take (i + 1) xs ≡ take i xs ++ x ∷ [] = take_more xs i x lt ∙ ap (λ y. take i xs ++ y ∷ []) (sym is) in
    let size : length (take i xs) ≡ i = length-take-le i xs (omega arith) in
    ap (each f 0) longer ∙ (each-push f 0 (take i xs) x ∙ ap (λ (k : ℕ). each f 0 (take i xs) ++ f k x) (ap (λ (k : ℕ). 0 + k) size ∙ omega arith))

-- what is said of entries after what has been said, with one more of them
pub told_more : {A B : Type 0} (f : ℕ → A → List B) (old now new : List B) (xs : List A) (i : ℕ) (x : A) → i < length xs → x ≡ get_or xs i x
    → now ≡ old ++ each f 0 (take i xs) → new ≡ now ++ f i x → new ≡ old ++ each f 0 (take (i + 1) xs)
told_more f old now new xs i x lt is before pushed =
    pushed ∙ (ap (λ (ms : List _). ms ++ f i x) before ∙ (append_assoc old (each f 0 (take i xs)) (f i x) ∙ ap (λ (ms : List _). old ++ ms) (sym (each_more f xs i x lt is))))

-- the same where their positions are not said
pub said_more : {A : Type 0} (f : A → List Mention) (n : ℕ) (old now new : List Said) (xs : List A) (i : ℕ) (d : A) → i < length xs
    → now ≡ old ++ said n (flat_map f (take i xs)) → new ≡ now ++ said n (f (get_or xs i d)) → new ≡ old ++ said n (flat_map f (take (i + 1) xs))
said_more {A} f n old now new xs i d lt before pushed =
    let x : A = get_or xs i d in
    let one : flat_map f (x ∷ []) ≡ f x = append-nil (f x) in
    let more : flat_map f (take (i + 1) xs) ≡ flat_map f (take i xs) ++ f x = ap (flat_map f) (take_more xs i d lt) ∙ (flat_map-append f (take i xs) (x ∷ []) ∙ ap (λ (ms : List Mention). flat_map f (take i xs) ++ ms) one) in
    let all : said n (flat_map f (take (i + 1) xs)) ≡ said n (flat_map f (take i xs)) ++ said n (f x) = ap (said n) more ∙ map-append _ (flat_map f (take i xs)) (f x) in
    pushed ∙ (ap (λ (ms : List Said). ms ++ said n (f x)) before ∙ (append_assoc old (said n (flat_map f (take i xs))) (said n (f x)) ∙ ap (λ (ms : List Said). old ++ ms) (sym all)))
