-- Lists of associated types with what each was found to be.
use Rattle.std.specs.Prelude.{◌≡◌, ℕ, List, slice_get, Option, Some, None}
use Rattle.std.specs.HashMap.{HashMap, get}
use Rattle.infer_needs.specs.Words.{Ty}
use Rattle.hir_types.proofs.Equal.{ty_eq}

-- the associated type is listed as this type; or as none
abbrev pub FindsIn : List (Ty × Ty) → Ty → Option Ty → Type 0
FindsIn js a (Some t) = (n : ℕ) × (slice_get js n ≡ Some (a, t))
FindsIn js a None = (n : ℕ) (x : Ty × Ty) → slice_get js n ≡ Some x → x.0 ≡ a → ⊥

-- no two entries are of the same
abbrev pub AreDistinct : List (Ty × Ty) → Type 0
AreDistinct js = (j k : ℕ) (x y : Ty × Ty) → slice_get js j ≡ Some x → slice_get js k ≡ Some y → x.0 ≡ y.0 → j ≡ k

-- the map has the place of each entry
abbrev pub IsIndexed : {S : Type 0} → HashMap Ty ℕ S → List (Ty × Ty) → Type 0
IsIndexed m js = (n : ℕ) (x : Ty × Ty) → slice_get js n ≡ Some x → get ty_eq m x.0 ≡ Some n
