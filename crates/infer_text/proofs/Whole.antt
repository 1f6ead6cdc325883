-- What a whole text stands for, by whether it is UTF-8.
use Rattle.std.proofs.Common.{◌≡◌, ℕ, List, Bool, true, false, Option, None, Result, Err, refl}
use Rattle.std.specs.Str.{IsUtf8, is_utf8}
use Rattle.std.proofs.lemmas.Str.{IsUtf8-from_is_utf8, is_utf8-from_IsUtf8}
use Rattle.serde_json.specs.Data.{Data}
use Rattle.serde_json.specs.Read.{read}
use Rattle.infer_text.specs.Own.{no_json, shaped_by, meaning_by}

module _ {A : Type 0} (f : Data → Result A (List ℕ)) where
  pub meaning-read : (text : List ℕ) (o : Option Data) → IsUtf8 text → read text ≡ o → meaning_by f text ≡ shaped_by f o
  meaning-read text o utf8 e = rw (is_utf8-from_IsUtf8 text utf8, e) refl

  by_test : (text : List ℕ) (b : Bool) → is_utf8 text ≡ b → (IsUtf8 text → read text ≡ None) → meaning_by f text ≡ Err no_json
  by_test text true e h = meaning-read text None (IsUtf8-from_is_utf8 text e) (h (IsUtf8-from_is_utf8 text e))
  by_test text false e h = rw e refl

  pub meaning-none : (text : List ℕ) → (IsUtf8 text → read text ≡ None) → meaning_by f text ≡ Err no_json
  meaning-none text h = by_test text (is_utf8 text) refl h
