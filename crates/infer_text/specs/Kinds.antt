-- The kinds of types whose parts are not read: each by its word and how many parts it has, the word
-- counted, or 0 where it is the word alone.
use Rattle.std.specs.Prelude.{ℕ, List, [], ◌∷◌, codes}

abbrev pub other_types : List (List ℕ × ℕ)
other_types =
    (codes "str", 0) ∷ (codes "never", 0) ∷ (codes "error", 0) ∷
    (codes "f16", 0) ∷ (codes "f32", 0) ∷ (codes "f64", 0) ∷ (codes "f128", 0) ∷
    (codes "array", 3) ∷ (codes "slice", 2) ∷ (codes "ref", 4) ∷ (codes "ptr", 3) ∷
    (codes "fnptr", 4) ∷ (codes "dyn", 4) ∷
    (codes "opaque", 3) ∷ []
