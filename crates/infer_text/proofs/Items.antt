-- Reading items one after another, as a loop does.
use Rattle.std.proofs.Common.{◌≡◌, ℕ, ◌+◌, ◌≤◌, ◌<◌, List, [], ◌∷◌, ◌++◌, length, drop, get_or, Result, Ok, Err, refl, sym, ap, ◌∙◌, append_assoc, add-one, drop-cons}
use Rattle.std.proofs.lemmas.List.{append-nil, drop_all}
use Rattle.std.specs.Fmt.{decimal}
use Rattle.serde_json.specs.Data.{Data, item}
use Rattle.serde_json.specs.View.{view, items_view}
use Rattle.serde_json.specs.declared.value.Value.{Value}
use Rattle.infer_text.specs.Own.{Misread, ◌>>=◌, Fails, under, read_each}
use Rattle.infer_text.specs.declared.fault.Misread.TheVariants as misread

-- what was read before, and what is still read
abbrev pub with_front : {A : Type 0} → List A → Result (List A) (List ℕ) → Result (List A) (List ℕ)
with_front front read = read >>= λ xs. Ok (front ++ xs)

pub regroup : {A : Type 0} (front : List A) (x : A) (read : Result (List A) (List ℕ)) → with_front front (read >>= λ xs. Ok (x ∷ xs)) ≡ with_front (front ++ x ∷ []) read
regroup {A} front x (Ok xs) = ap (λ (ys : List A). Ok ys) (simp append_assoc)
regroup front x (Err f) = refl

view_at : (vs : List Value) (i : ℕ) (v : Value) → i < length vs → v ≡ get_or vs i v → items_view (drop i vs) ≡ item (view v) (items_view (drop (i + 1) vs))
view_at vs i v lt is =
    let e : drop i vs ≡ get_or vs i v ∷ drop (i + 1) vs = rw add-one (drop-cons vs i v lt) in
    rw (e, ← is) refl

-- one item more was read
pub goes_on : {A : Type 0} (reads : Data → Result A (List ℕ)) (front : List A) (i : ℕ) (vs : List Value) (v : Value) (x : A) (total : Result (List A) (List ℕ))
    → i < length vs → v ≡ get_or vs i v → under (decimal i) (reads (view v)) ≡ Ok x
    → with_front front (read_each reads i (items_view (drop i vs))) ≡ total → with_front (front ++ x ∷ []) (read_each reads (i + 1) (items_view (drop (i + 1) vs))) ≡ total
goes_on reads front i vs v x total lt is h so_far =
    let one : with_front front (read_each reads i (items_view (drop i vs))) ≡ with_front (front ++ x ∷ []) (read_each reads (i + 1) (items_view (drop (i + 1) vs))) = rw (view_at vs i v lt is, h) (regroup front x (read_each reads (i + 1) (items_view (drop (i + 1) vs)))) in
    sym one ∙ so_far

-- an item is at fault
pub ends : {A : Type 0} (reads : Data → Result A (List ℕ)) (e : Misread) (front : List A) (i : ℕ) (vs : List Value) (v : Value) (total : Result (List A) (List ℕ))
    → i < length vs → v ≡ get_or vs i v → Fails e (under (decimal i) (reads (view v)))
    → with_front front (read_each reads i (items_view (drop i vs))) ≡ total → Fails e total
ends reads misread.OutOfMemory front i vs v total lt is h so_far = tt
ends reads (misread.Shape path) front i vs v total lt is h so_far =
    let one : with_front front (read_each reads i (items_view (drop i vs))) ≡ Err path = rw (view_at vs i v lt is, h) refl in
    sym so_far ∙ one

-- no item is left
pub is_done : {A : Type 0} (reads : Data → Result A (List ℕ)) (front : List A) (i : ℕ) (vs : List Value) (total : Result (List A) (List ℕ))
    → length vs ≤ i → with_front front (read_each reads i (items_view (drop i vs))) ≡ total → total ≡ Ok front
is_done {A} reads front i vs total le so_far =
    let one : with_front front (read_each reads i (items_view (drop i vs))) ≡ Ok front = rw (drop_all i vs le) (ap (λ (ys : List A). Ok ys) (append-nil front)) in
    sym so_far ∙ one
