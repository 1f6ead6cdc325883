-- Names that no field before has.
use Rattle.std.specs.Prelude.{ℕ, ◌<◌, ◌≡◌, List, slice_get, Some}
use Rattle.hir_laws.specs.Words.{RawField}

-- no field before position i has the name of this one
abbrev pub IsNew : List RawField → ℕ → RawField → Type 0
IsNew fields i f = (j : ℕ) (g : RawField) → j < i → slice_get fields j ≡ Some g → g.name ≡ f.name → ⊥
