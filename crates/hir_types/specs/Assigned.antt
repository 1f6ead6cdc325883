-- What a substitution and a list of arguments put in the place of holes and parameters.
use Rattle.std.specs.Prelude.{ℕ, List, Option, Some, None, nat_eq, slice_get}
use Rattle.std.specs.List.{find}
use Rattle.std.specs.Option.{option_map}
use Rattle.hir_types.specs.declared.ty.Const.{Const}
use Rattle.hir_types.specs.declared.ty.Const.TheVariants as const
use Rattle.hir_types.specs.declared.ty.Ty.{Ty}
use Rattle.hir_types.specs.declared.ty.Ty.TheVariants as ty
use Rattle.hir_types.specs.declared.ty.GenericArg.{GenericArg, GenericArg-F, out-GenericArg}
use Rattle.hir_types.specs.declared.ty.TraitRef.{TraitRef}
use Rattle.hir_types.specs.declared.ty.AliasBound.{AliasBound}
use Rattle.hir_types.specs.declared.subst.Subst.{Subst}
use Rattle.hir_types.specs.Subst.{Assignment, Replacement}

-- what the first entry of this number holds
abbrev pub first_for : {X : Type 0} → List (ℕ × X) → ℕ → Option X
first_for entries n = option_map (λ e. e.1) (find (λ e. nat_eq e.0 n) entries)

abbrev pub or_else : {X : Type 0} → Option X → X → X
or_else None y = y
or_else (Some x) y = x

-- what the substitution lists, and for each other hole that hole
abbrev pub assignment_of : Subst → Assignment
assignment_of s = record {
  var = λ n. or_else (first_for s.types n) (ty.Var n);
  int_var = λ n. or_else (first_for s.types n) (ty.IntVar n);
  const_var = λ n. or_else (first_for s.consts n) (const.Var n);
}

-- ---- arguments

abbrev pub arg_as_type : GenericArg-F GenericArg Ty AliasBound TraitRef → Ty
arg_as_type (GenericArg-F.Ty t) = t
arg_as_type (GenericArg-F.Const c) = ty.Error

abbrev pub const_in : GenericArg-F GenericArg Ty AliasBound TraitRef → Const
const_in (GenericArg-F.Ty t) = const.Unknown
const_in (GenericArg-F.Const c) = c

-- the argument where it is a type, else `{unknown}`
abbrev pub type_of : Option GenericArg → Ty
type_of None = ty.Error
type_of (Some x) = arg_as_type (out-GenericArg x)

-- the argument where it is a const, else `{unknown}`
abbrev pub const_of : Option GenericArg → Const
const_of None = const.Unknown
const_of (Some x) = const_in (out-GenericArg x)

-- parameters by the arguments at their numbers, holes by themselves
abbrev pub with_params : List GenericArg → Replacement
with_params args = record {
  var = ty.Var;
  int_var = ty.IntVar;
  const_var = const.Var;
  param = λ n. type_of (slice_get args n);
  const_param = λ n. const_of (slice_get args n);
}
