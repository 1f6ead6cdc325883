-- Written types as `let`s read them, one by one.
use Rattle.std.specs.Prelude.{◌≡◌, ℕ, zero, suc, Bool, true, false, if◌then◌else◌, List, [], ◌∷◌, slice_get, Option, Some, None, refl}
use Rattle.std.specs.Option.{option_map}
use Rattle.std.proofs.Common.{◌∙◌, ap}
use Rattle.hir_raw.specs.declared.raw.RawType.{RawType}
use Rattle.hir_raw.specs.declared.raw.RawType.TheVariants as type
use Rattle.hir_raw.specs.Hidden.{is_alias}
use Rattle.hir_raw.specs.Lets.{masked_type, masked}

pub masked_at : (types : List RawType) (k : ℕ) → slice_get (masked types) k ≡ option_map masked_type (slice_get types k)
masked_at [] k = refl
masked_at (x ∷ xs) zero = refl
masked_at (x ∷ xs) (suc k) = masked_at xs k

-- an associated type is a `_`
pub alias_is_hole : (types : List RawType) (k : ℕ) (x : RawType) → slice_get types k ≡ Some x → is_alias x ≡ true
    → slice_get (masked types) k ≡ Some type.Hole
alias_is_hole types k x at is =
    masked_at types k ∙ (ap (option_map masked_type) at ∙ ap (λ (b : Bool). Some (if b then type.Hole else x)) is)

-- and another type itself
pub other_is_itself : (types : List RawType) (k : ℕ) (x : RawType) → slice_get types k ≡ Some x → is_alias x ≡ false
    → slice_get (masked types) k ≡ Some x
other_is_itself types k x at is =
    masked_at types k ∙ (ap (option_map masked_type) at ∙ ap (λ (b : Bool). Some (if b then type.Hole else x)) is)
