-- The names of a variant's fields.
use Rattle.std.specs.Prelude.{ℕ, ◌≡◌, slice_get, Some}
use Rattle.std.specs.Fmt.{decimal}
use Rattle.hir_raw.specs.declared.raw.RawCtor.TheVariants as ctor
use Rattle.hir_facts.specs.Words.{RawField, RawVariant}

-- they are distinct, and those of a tuple are the numbers of their positions
pub record NamesFit (v : RawVariant) : Type 0 where
  pub distinct : (i j : ℕ) (f g : RawField) → slice_get v.fields i ≡ Some f → slice_get v.fields j ≡ Some g
      → f.name ≡ g.name → i ≡ j
  pub numbered : v.ctor ≡ ctor.Tuple → (i : ℕ) (f : RawField) → slice_get v.fields i ≡ Some f
      → f.name ≡ decimal i
