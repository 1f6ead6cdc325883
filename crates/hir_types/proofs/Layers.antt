-- What is measured of a type, from what is measured of its parts.
use Rattle.std.specs.Prelude.{◌≡◌, ℕ, ◌+◌, Bool, false, ◌||◌, List, [], ◌∷◌, map, refl}
use Rattle.std.specs.List.{list_any}
use Rattle.std.proofs.Common.{sym, ◌∙◌, ap}
use Rattle.hir_types.specs.Own.{AdtId, CallableDefId, GenericArg, GenericArg-F, fold-GenericArg, fold-roll-GenericArg, IntegerTy, Ty, Ty-F, fold-roll-Ty, integer_type, measured, measured_arg, measured_step, measured_bound, measured_trait, has_hole, hole_arg, hole_step, hole_bound, hole_trait}
use Rattle.hir_types.specs.declared.ty.GenericArg.TheVariants as arg
use Rattle.hir_types.specs.declared.ty.IntegerTy.TheVariants.{Int, Uint}
use Rattle.hir_types.specs.declared.ty.Ty.TheVariants as ty

-- ---- levels and sizes

module _ (of_list : List ℕ → ℕ) (of_two : ℕ → ℕ → ℕ) where
  abbrev measure : Ty → ℕ
  measure = measured of_list of_two

  pub measured_tuple : (ts : List Ty) → measure (ty.Tuple ts) ≡ of_list (map measure ts) + 1
  measured_tuple ts = ap measure (sym (ty.rolls-Tuple ts)) ∙ fold-roll-Ty ℕ ℕ ℕ ℕ measured_arg (measured_step of_list of_two) measured_bound (measured_trait of_list) (Ty-F.Tuple ts)

  pub measured_bool : measure ty.Bool ≡ 1
  measured_bool = ap measure (sym ty.rolls-Bool) ∙ fold-roll-Ty ℕ ℕ ℕ ℕ measured_arg (measured_step of_list of_two) measured_bound (measured_trait of_list) Ty-F.Bool

  pub measured_char : measure ty.Char ≡ 1
  measured_char = ap measure (sym ty.rolls-Char) ∙ fold-roll-Ty ℕ ℕ ℕ ℕ measured_arg (measured_step of_list of_two) measured_bound (measured_trait of_list) Ty-F.Char

  pub measured_error : measure ty.Error ≡ 1
  measured_error = ap measure (sym ty.rolls-Error) ∙ fold-roll-Ty ℕ ℕ ℕ ℕ measured_arg (measured_step of_list of_two) measured_bound (measured_trait of_list) Ty-F.Error

  pub measured_integer : (i : IntegerTy) → measure (integer_type i) ≡ 1
  measured_integer (Int i) = ap measure (sym (ty.rolls-Int i)) ∙ fold-roll-Ty ℕ ℕ ℕ ℕ measured_arg (measured_step of_list of_two) measured_bound (measured_trait of_list) (Ty-F.Int i)
  measured_integer (Uint i) = ap measure (sym (ty.rolls-Uint i)) ∙ fold-roll-Ty ℕ ℕ ℕ ℕ measured_arg (measured_step of_list of_two) measured_bound (measured_trait of_list) (Ty-F.Uint i)

-- ---- holes

list_any_map : {X : Type 0} (f : X → Bool) (xs : List X) → list_any (λ b. b) (map f xs) ≡ list_any f xs
list_any_map f [] = refl
list_any_map f (x ∷ xs) = λ i. f x || list_any_map f xs i

pub has_hole_tuple : (ts : List Ty) → has_hole (ty.Tuple ts) ≡ list_any has_hole ts
has_hole_tuple ts = ap has_hole (sym (ty.rolls-Tuple ts)) ∙ (fold-roll-Ty Bool Bool Bool Bool hole_arg hole_step hole_bound hole_trait (Ty-F.Tuple ts) ∙ list_any_map has_hole ts)

pub has_hole_bool : has_hole ty.Bool ≡ false
has_hole_bool = ap has_hole (sym ty.rolls-Bool) ∙ fold-roll-Ty Bool Bool Bool Bool hole_arg hole_step hole_bound hole_trait Ty-F.Bool

pub has_hole_char : has_hole ty.Char ≡ false
has_hole_char = ap has_hole (sym ty.rolls-Char) ∙ fold-roll-Ty Bool Bool Bool Bool hole_arg hole_step hole_bound hole_trait Ty-F.Char

pub has_hole_error : has_hole ty.Error ≡ false
has_hole_error = ap has_hole (sym ty.rolls-Error) ∙ fold-roll-Ty Bool Bool Bool Bool hole_arg hole_step hole_bound hole_trait Ty-F.Error

pub has_hole_integer : (i : IntegerTy) → has_hole (integer_type i) ≡ false
has_hole_integer (Int i) = ap has_hole (sym (ty.rolls-Int i)) ∙ fold-roll-Ty Bool Bool Bool Bool hole_arg hole_step hole_bound hole_trait (Ty-F.Int i)
has_hole_integer (Uint i) = ap has_hole (sym (ty.rolls-Uint i)) ∙ fold-roll-Ty Bool Bool Bool Bool hole_arg hole_step hole_bound hole_trait (Ty-F.Uint i)

pub has_hole_param : (n : ℕ) → has_hole (ty.Param n) ≡ false
has_hole_param n = ap has_hole (sym (ty.rolls-Param n)) ∙ fold-roll-Ty Bool Bool Bool Bool hole_arg hole_step hole_bound hole_trait (Ty-F.Param n)

abbrev arg_has_hole : GenericArg → Bool
arg_has_hole = fold-GenericArg Bool Bool Bool Bool hole_arg hole_step hole_bound hole_trait

arg_has_hole_type : (t : Ty) → arg_has_hole (arg.Ty t) ≡ has_hole t
arg_has_hole_type t = ap arg_has_hole (sym (arg.rolls-Ty t)) ∙ fold-roll-GenericArg Bool Bool Bool Bool hole_arg hole_step hole_bound hole_trait (GenericArg-F.Ty t)

any_arg_has_hole : (ts : List Ty) → list_any (λ b. b) (map arg_has_hole (map arg.Ty ts)) ≡ list_any has_hole ts
any_arg_has_hole [] = refl
any_arg_has_hole (t ∷ ts) = λ i. arg_has_hole_type t i || any_arg_has_hole ts i

pub has_hole_adt : (id : AdtId) (ts : List Ty) → has_hole (ty.Adt id (map arg.Ty ts)) ≡ list_any has_hole ts
has_hole_adt id ts =
    ap has_hole (sym (ty.rolls-Adt id (map arg.Ty ts)))
    ∙ (fold-roll-Ty Bool Bool Bool Bool hole_arg hole_step hole_bound hole_trait (Ty-F.Adt id (map arg.Ty ts)) ∙ any_arg_has_hole ts)

pub has_hole_fn_def : (id : CallableDefId) (ts : List Ty) → has_hole (ty.FnDef id (map arg.Ty ts)) ≡ list_any has_hole ts
has_hole_fn_def id ts =
    ap has_hole (sym (ty.rolls-FnDef id (map arg.Ty ts)))
    ∙ (fold-roll-Ty Bool Bool Bool Bool hole_arg hole_step hole_bound hole_trait (Ty-F.FnDef id (map arg.Ty ts)) ∙ any_arg_has_hole ts)
