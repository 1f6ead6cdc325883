-- Reading the language's items one after another, as a loop does.
use Rattle.std.proofs.Common.{◌≡◌, ℕ, List, [], ◌∷◌, ◌++◌, String, Result, Ok, Err, refl, sym, ap, ◌∙◌}
use Rattle.std.proofs.lemmas.List.{append-nil}
use Rattle.std.specs.Prelude.{string_bytes}
use Rattle.std.specs.declared.alloc.Global.{Global}
use Rattle.serde_json.specs.View.{view, members_view}
use Rattle.serde_json.specs.declared.value.Value.{Value}
use Rattle.infer_text.specs.Words.{RawLang}
use Rattle.infer_text.specs.Own.{Misread, Fails, under, lang_item, lang_items}
use Rattle.infer_text.specs.declared.fault.Misread.TheVariants as misread
use Rattle.infer_text.proofs.Items.{regroup, with_front}

abbrev pub Entry : Type 0
Entry = String Global × Value

-- one item more was read
pub lang_goes_on : (front : List RawLang) (name : String Global) (v : Value) (x : RawLang) (before left : List Entry) (total : Result (List RawLang) (List ℕ))
    → before ≡ (name, v) ∷ left → under (string_bytes name) (lang_item (string_bytes name) (view v)) ≡ Ok x
    → with_front front (lang_items (members_view before)) ≡ total → with_front (front ++ x ∷ []) (lang_items (members_view left)) ≡ total
lang_goes_on front name v x before left total is h so_far =
    let one : with_front front (lang_items (members_view before)) ≡ with_front (front ++ x ∷ []) (lang_items (members_view left)) = rw (is, h) (regroup front x (lang_items (members_view left))) in
    sym one ∙ so_far

-- an item is at fault
pub lang_ends : (e : Misread) (front : List RawLang) (name : String Global) (v : Value) (before left : List Entry) (total : Result (List RawLang) (List ℕ))
    → before ≡ (name, v) ∷ left → Fails e (under (string_bytes name) (lang_item (string_bytes name) (view v)))
    → with_front front (lang_items (members_view before)) ≡ total → Fails e total
lang_ends misread.OutOfMemory front name v before left total is h so_far = tt
lang_ends (misread.Shape path) front name v before left total is h so_far =
    let one : with_front front (lang_items (members_view before)) ≡ Err path = rw (is, h) refl in
    sym so_far ∙ one

-- no item is left
pub lang_is_done : (front : List RawLang) (before : List Entry) (total : Result (List RawLang) (List ℕ)) → before ≡ [] → with_front front (lang_items (members_view before)) ≡ total → total ≡ Ok front
lang_is_done front before total is so_far =
    let one : with_front front (lang_items (members_view before)) ≡ Ok front = rw is (ap (λ (ys : List RawLang). Ok ys) (append-nil front)) in
    sym so_far ∙ one
