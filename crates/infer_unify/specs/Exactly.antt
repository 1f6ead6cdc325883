-- Types without associated types and without `{unknown}`: which of them unify.
use Rattle.std.specs.Prelude.{◌≡◌, ◌⊎◌, ◌↔◌, Bool, IsTrue}
use Rattle.infer_unify.specs.Words.{Ty, Same, Assignment, folded, term, terms_of, Respects}
use Rattle.infer_unify.specs.declared.unification.Unification.{Unification}
use Rattle.infer_unify.specs.declared.unification.Unification.TheVariants as unification
use Rattle.infer_unify.specs.Opening.{IsBare}

-- some types for the holes, integer types for those of integer types, make the two the same but for lifetimes
abbrev pub CanBeSame : Ty → Ty → Type 0
CanBeSame a b = (s : Assignment) × Respects (terms_of s) × Same (folded s a) (folded s b)

-- both have neither an associated type that is to be read nor `{unknown}`
abbrev pub AreBare : Ty → Ty → Type 0
AreBare a b = IsBare (term a) × IsBare (term b)

-- then they unify where some types do, and nothing is left undecided
abbrev pub UnifyExactly : Ty → Ty → Unification → Type 0
UnifyExactly a b found = AreBare a b → ((found ≡ unification.Yes) × CanBeSame a b) ⊎ ((found ≡ unification.No) × (CanBeSame a b → ⊥))

abbrev pub IsExact : Ty → Ty → Bool → Type 0
IsExact a b is = AreBare a b → IsTrue is ↔ CanBeSame a b
