-- Texts written piece by piece: items joined by commas, and lines.
use Rattle.std.specs.Prelude.{Result, Ok, Err, OnOk}
use Rattle.std.specs.declared.alloc.AllocError.{AllocError}
use Rattle.std.proofs.Common.{◌≡◌, ◌++◌, List, [], ◌∷◌, map, ℕ, ◌+◌, ◌<◌, ◌≤◌, length, take, drop, get_or, refl, sym, ap, ◌∙◌, append_assoc, add-one, drop-cons, arith, codes}
use Rattle.std.proofs.lemmas.List.{map_more, length-take-le, length-map, drop_all, append-nil}
use Rattle.infer_report.specs.Words.{joined, separator, lines_from}

push_joined : (xs : List (List ℕ)) (x : List ℕ) → joined (xs ++ x ∷ []) ≡ joined xs ++ separator (length xs) ++ x
push_joined [] x = refl
push_joined (y ∷ []) x = refl
push_joined (y ∷ z ∷ zs) x =
    let rest : joined (z ∷ zs ++ x ∷ []) ≡ joined (z ∷ zs) ++ codes ", " ++ x = push_joined (z ∷ zs) x in
    ap (λ (w : List ℕ). y ++ codes ", " ++ w) rest ∙ simp append_assoc

length_front : {A : Type 0} (f : A → List ℕ) (xs : List A) (i : ℕ) → i < length xs → length (map f (take i xs)) ≡ i
length_front f xs i lt = simp length-map (length-take-le i xs (omega arith))

-- one item more was joined
pub joins_on : {A : Type 0} (f : A → List ℕ) (xs : List A) (i : ℕ) (x : A) (start now between done : List ℕ) → i < length xs → x ≡ get_or xs i x
    → now ≡ start ++ joined (map f (take i xs)) → between ≡ now ++ separator i → done ≡ between ++ f x
    → done ≡ start ++ joined (map f (take (i + 1) xs))
joins_on f xs i x start now between done lt is a b c =
    let e : map f (take (i + 1) xs) ≡ map f (take i xs) ++ f x ∷ [] = rw (map_more f xs i x lt, ← is) refl in
    let text : joined (map f (take (i + 1) xs)) ≡ joined (map f (take i xs)) ++ separator i ++ f x =
    rw e (push_joined (map f (take i xs)) (f x) ∙ ap (λ n. joined (map f (take i xs)) ++ separator n ++ f x) (length_front f xs i lt)) in
    c ∙ rw (b, a, text) (simp append_assoc)

-- one line more was written
pub writes_on : {A : Type 0} (f : ℕ → A → List ℕ) (xs : List A) (i : ℕ) (x : A) (now done total : List ℕ) → i < length xs → x ≡ get_or xs i x
    → done ≡ now ++ f i x → now ++ lines_from f i (drop i xs) ≡ total → done ++ lines_from f (i + 1) (drop (i + 1) xs) ≡ total
writes_on f xs i x now done total lt is step so_far =
    let e : drop i xs ≡ get_or xs i x ∷ drop (i + 1) xs = rw add-one (drop-cons xs i x lt) in
    let here : lines_from f i (drop i xs) ≡ f i x ++ lines_from f (i + 1) (drop (i + 1) xs) = rw (e, ← is) refl in
    rw step (append_assoc now (f i x) (lines_from f (i + 1) (drop (i + 1) xs)) ∙ (ap (λ (w : List ℕ). now ++ w) (sym here) ∙ so_far))

-- no line is left
pub is_written : {A : Type 0} (f : ℕ → A → List ℕ) (xs : List A) (i : ℕ) (now total : List ℕ) → length xs ≤ i
    → now ++ lines_from f i (drop i xs) ≡ total → now ≡ total
is_written f xs i now total le so_far =
    let e : now ++ lines_from f i (drop i xs) ≡ now = rw (drop_all i xs le) (append-nil now) in
    sym e ∙ so_far

-- seven texts, one after another
pub all_seven : (a b c d e f g new after_a after_b after_c after_d after_e after_f after_g : List ℕ) → new ≡ [] → after_a ≡ new ++ a → after_b ≡ after_a ++ b → after_c ≡ after_b ++ c
    → after_d ≡ after_c ++ d → after_e ≡ after_d ++ e → after_f ≡ after_e ++ f → after_g ≡ after_f ++ g → after_g ≡ a ++ b ++ c ++ d ++ e ++ f ++ g
all_seven a b c d e f g new after_a after_b after_c after_d after_e after_f after_g start p q r s t u v = rw (v, u, t, s, r, q, p, start) refl

-- two texts, one after the other
pub two_pieces : (start a b now done : List ℕ) → now ≡ start ++ a → done ≡ now ++ b → done ≡ start ++ (a ++ b)
two_pieces start a b now done p q = q ∙ (ap (λ (w : List ℕ). w ++ b) p ∙ append_assoc start a b)

-- a text, and then another where memory suffices
pub then_piece : (r : Result (Unit {0}) AllocError) (start a b now done : List ℕ) → now ≡ start ++ a → OnOk r (done ≡ now ++ b) → OnOk r (done ≡ start ++ (a ++ b))
then_piece (Ok x) start a b now done p q = two_pieces start a b now done p q
then_piece (Err e) start a b now done p q = q
