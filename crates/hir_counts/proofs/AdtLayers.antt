-- What is measured of adts, projections, parameters and holes, from what is measured of their arguments.
use Rattle.std.specs.Prelude.{◌≡◌, ℕ, ◌+◌, List, map}
use Rattle.std.proofs.Common.{sym, ◌∙◌, ap}
use Rattle.hir_counts.specs.Words.{AdtId, TypeAliasId, Ty, Ty-F, fold-roll-Ty, GenericArg, GenericArg-F, fold-GenericArg, fold-roll-GenericArg, measured, measured_arg, measured_step, measured_bound, measured_trait}
use Rattle.hir_types.specs.declared.ty.Ty.TheVariants as ty
use Rattle.hir_types.specs.declared.ty.GenericArg.TheVariants as arg

module _ (of_list : List ℕ → ℕ) (of_two : ℕ → ℕ → ℕ) where
  abbrev measure : Ty → ℕ
  measure = measured of_list of_two

  abbrev pub measured_of_arg : GenericArg → ℕ
  measured_of_arg = fold-GenericArg ℕ ℕ ℕ ℕ measured_arg (measured_step of_list of_two) measured_bound (measured_trait of_list)

  pub measured_type_arg : (t : Ty) → measured_of_arg (arg.Ty t) ≡ measure t
  measured_type_arg t =
      ap measured_of_arg (sym (arg.rolls-Ty t))
      ∙ fold-roll-GenericArg ℕ ℕ ℕ ℕ measured_arg (measured_step of_list of_two) measured_bound (measured_trait of_list) (GenericArg-F.Ty t)

  pub measured_adt : (a : AdtId) (xs : List GenericArg) → measure (ty.Adt a xs) ≡ of_list (map measured_of_arg xs) + 1
  measured_adt a xs = ap measure (sym (ty.rolls-Adt a xs)) ∙ fold-roll-Ty ℕ ℕ ℕ ℕ measured_arg (measured_step of_list of_two) measured_bound (measured_trait of_list) (Ty-F.Adt a xs)

  pub measured_projection : (a : TypeAliasId) (xs : List GenericArg) → measure (ty.Projection a xs) ≡ of_list (map measured_of_arg xs) + 1
  measured_projection a xs =
      ap measure (sym (ty.rolls-Projection a xs))
      ∙ fold-roll-Ty ℕ ℕ ℕ ℕ measured_arg (measured_step of_list of_two) measured_bound (measured_trait of_list) (Ty-F.Projection a xs)

  pub measured_param : (n : ℕ) → measure (ty.Param n) ≡ 1
  measured_param n = ap measure (sym (ty.rolls-Param n)) ∙ fold-roll-Ty ℕ ℕ ℕ ℕ measured_arg (measured_step of_list of_two) measured_bound (measured_trait of_list) (Ty-F.Param n)

  pub measured_hole : measure ty.Hole ≡ 1
  measured_hole = ap measure (sym ty.rolls-Hole) ∙ fold-roll-Ty ℕ ℕ ℕ ℕ measured_arg (measured_step of_list of_two) measured_bound (measured_trait of_list) Ty-F.Hole
