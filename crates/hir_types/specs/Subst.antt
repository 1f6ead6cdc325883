-- Substitutions: what stands in the place of holes and parameters, in types and what is made of them.
use Rattle.std.specs.Prelude.{ℕ, List, map}
use Rattle.hir_types.specs.declared.ty.Const.{Const}
use Rattle.hir_types.specs.declared.ty.Const.TheVariants as const
use Rattle.hir_types.specs.declared.ty.Ty.{Ty, Ty-F, fold-Ty, roll-Ty}
use Rattle.hir_types.specs.declared.ty.Ty.TheVariants as ty
use Rattle.hir_types.specs.declared.ty.GenericArg.{GenericArg, GenericArg-F, fold-GenericArg, roll-GenericArg}
use Rattle.hir_types.specs.declared.ty.GenericArg.TheVariants as arg
use Rattle.hir_types.specs.declared.ty.TraitRef.{TraitRef, fold-TraitRef, roll-TraitRef}
use Rattle.hir_types.specs.declared.ty.AliasBound.{AliasBound, fold-AliasBound, roll-AliasBound}

-- what stands for each hole and each parameter
pub record Replacement : Type 0 where
  pub var : ℕ → Ty
  pub int_var : ℕ → Ty
  pub const_var : ℕ → Const
  pub param : ℕ → Ty
  pub const_param : ℕ → Const

-- ---- replaced

abbrev pub const_replaced : Replacement → Const → Const
const_replaced s (const.Value n) = const.Value n
const_replaced s (const.Param n) = s.const_param n
const_replaced s const.Unknown = const.Unknown
const_replaced s (const.Var n) = s.const_var n
const_replaced s const.Hole = const.Hole

abbrev pub ty_layer : Replacement → Ty-F GenericArg Ty AliasBound TraitRef → Ty
ty_layer s (Ty-F.Var n) = s.var n
ty_layer s (Ty-F.IntVar n) = s.int_var n
ty_layer s (Ty-F.Param n) = s.param n
ty_layer s (Ty-F.Array t c) = ty.Array t (const_replaced s c)
ty_layer s y = roll-Ty y

abbrev pub arg_layer : Replacement → GenericArg-F GenericArg Ty AliasBound TraitRef → GenericArg
arg_layer s (GenericArg-F.Const c) = arg.Const (const_replaced s c)
arg_layer s y = roll-GenericArg y

-- the type with what the replacement says in the place of holes and parameters
abbrev pub replaced : Replacement → Ty → Ty
replaced s =
    fold-Ty GenericArg Ty AliasBound TraitRef (arg_layer s) (ty_layer s) roll-AliasBound roll-TraitRef

abbrev pub arg_replaced : Replacement → GenericArg → GenericArg
arg_replaced s =
    fold-GenericArg GenericArg Ty AliasBound TraitRef (arg_layer s) (ty_layer s) roll-AliasBound roll-TraitRef

abbrev pub bound_replaced : Replacement → AliasBound → AliasBound
bound_replaced s =
    fold-AliasBound GenericArg Ty AliasBound TraitRef (arg_layer s) (ty_layer s) roll-AliasBound roll-TraitRef

abbrev pub trait_replaced : Replacement → TraitRef → TraitRef
trait_replaced s =
    fold-TraitRef GenericArg Ty AliasBound TraitRef (arg_layer s) (ty_layer s) roll-AliasBound roll-TraitRef

abbrev pub args_replaced : Replacement → List GenericArg → List GenericArg
args_replaced s = map (arg_replaced s)

-- ---- replacements of holes alone

-- what stands for each hole
pub record Assignment : Type 0 where
  pub var : ℕ → Ty
  pub int_var : ℕ → Ty
  pub const_var : ℕ → Const

-- holes by the assignment, parameters by themselves
abbrev pub with_holes : Assignment → Replacement
with_holes s =
    record { var = s.var; int_var = s.int_var; const_var = s.const_var; param = ty.Param; const_param = const.Param }

-- each hole stands for itself
abbrev pub each_itself : Assignment
each_itself = record { var = ty.Var; int_var = ty.IntVar; const_var = const.Var }

abbrev pub folded : Assignment → Ty → Ty
folded s = replaced (with_holes s)

abbrev pub const_folded : Assignment → Const → Const
const_folded s = const_replaced (with_holes s)

abbrev pub arg_folded : Assignment → GenericArg → GenericArg
arg_folded s = arg_replaced (with_holes s)

abbrev pub trait_folded : Assignment → TraitRef → TraitRef
trait_folded s = trait_replaced (with_holes s)

-- first `g`, then `f`
abbrev pub composed : Assignment → Assignment → Assignment
composed f g = record {
  var = λ n. folded f (g.var n);
  int_var = λ n. folded f (g.int_var n);
  const_var = λ n. const_folded f (g.const_var n);
}
