-- How deep and how large types are.
use Rattle.std.specs.Prelude.{ℕ, ◌+◌, max, List, [], ◌∷◌, sum, Option, Some, None}
use Rattle.hir_types.specs.declared.ty.IntegerTy.{IntegerTy}
use Rattle.hir_types.specs.declared.ty.IntegerTy.TheVariants.{Int, Uint}
use Rattle.hir_types.specs.declared.ty.AliasBound.{AliasBound-F}
use Rattle.hir_types.specs.declared.ty.GenericArg.{GenericArg-F}
use Rattle.hir_types.specs.declared.ty.TraitRef.{TraitRef-F}
use Rattle.hir_types.specs.declared.ty.Ty.{Ty, Ty-F, fold-Ty}
use Rattle.hir_types.specs.declared.ty.Ty.TheVariants as ty

-- the type that an integer type's name names
abbrev pub integer_type : IntegerTy → Ty
integer_type (Int int) = ty.Int int
integer_type (Uint uint) = ty.Uint uint

-- the type of no value's worth, `()`
abbrev pub unit : Ty
unit = ty.Tuple []

-- ---- measures

abbrev pub most : List ℕ → ℕ
most [] = 0
most (x ∷ xs) = max x (most xs)

abbrev pub number_or_none : Option ℕ → ℕ
number_or_none None = 0
number_or_none (Some n) = n

abbrev pub measured_arg : GenericArg-F ℕ ℕ ℕ ℕ → ℕ
measured_arg (GenericArg-F.Ty n) = n
measured_arg (GenericArg-F.Const c) = 0

abbrev pub measured_bound : AliasBound-F ℕ ℕ ℕ ℕ → ℕ
measured_bound b = b.ty

abbrev pub measured_trait : (List ℕ → ℕ) → TraitRef-F ℕ ℕ ℕ ℕ → ℕ
measured_trait of_list t = of_list t.args

abbrev pub measured_step : (List ℕ → ℕ) → (ℕ → ℕ → ℕ) → Ty-F ℕ ℕ ℕ ℕ → ℕ
measured_step of_list of_two Ty-F.Bool = 1
measured_step of_list of_two Ty-F.Char = 1
measured_step of_list of_two (Ty-F.Int i) = 1
measured_step of_list of_two (Ty-F.Uint i) = 1
measured_step of_list of_two (Ty-F.Float f) = 1
measured_step of_list of_two Ty-F.Str = 1
measured_step of_list of_two Ty-F.Never = 1
measured_step of_list of_two (Ty-F.Tuple ns) = of_list ns + 1
measured_step of_list of_two (Ty-F.Array n c) = n + 1
measured_step of_list of_two (Ty-F.Slice n) = n + 1
measured_step of_list of_two (Ty-F.Ref m r n) = n + 1
measured_step of_list of_two (Ty-F.RawPtr m n) = n + 1
measured_step of_list of_two (Ty-F.Adt i ns) = of_list ns + 1
measured_step of_list of_two (Ty-F.FnDef i ns) = of_list ns + 1
measured_step of_list of_two (Ty-F.FnPtr s ns n) = of_two (of_list ns) n + 1
measured_step of_list of_two (Ty-F.Closure i ns n) = of_two (of_list ns) n + 1
measured_step of_list of_two (Ty-F.Dynamic o ns ts) = of_two (number_or_none o) (of_list ns) + 1
measured_step of_list of_two (Ty-F.Param n) = 1
measured_step of_list of_two (Ty-F.Projection i ns) = of_list ns + 1
measured_step of_list of_two (Ty-F.AssociatedType i ns) = of_list ns + 1
measured_step of_list of_two (Ty-F.Opaque i ns) = of_list ns + 1
measured_step of_list of_two Ty-F.Error = 1
measured_step of_list of_two (Ty-F.Var n) = 1
measured_step of_list of_two (Ty-F.IntVar n) = 1
measured_step of_list of_two Ty-F.Hole = 1

-- one more than what is measured of the parts, where `of_list` says what a list of them comes to, and
-- `of_two` what it does with a part beside it
abbrev pub measured : (List ℕ → ℕ) → (ℕ → ℕ → ℕ) → Ty → ℕ
measured of_list of_two = fold-Ty ℕ ℕ ℕ ℕ measured_arg (measured_step of_list of_two) measured_bound (measured_trait of_list)

-- how many levels a type has
abbrev pub depth : Ty → ℕ
depth = measured most max

-- how many types a type is written with, itself counted
abbrev pub size : Ty → ℕ
size = measured sum (λ m n. m + n)
