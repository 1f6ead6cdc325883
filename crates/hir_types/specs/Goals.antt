-- Goals with what a replacement says in the place of holes and parameters.
use Rattle.hir_types.specs.declared.goal.Goal.{Goal}
use Rattle.hir_types.specs.declared.goal.Goal.TheVariants as goal
use Rattle.hir_types.specs.Subst.{Replacement, replaced, args_replaced, trait_replaced}

abbrev pub goal_replaced : Replacement → Goal → Goal
goal_replaced s (goal.Trait r) = goal.Trait (trait_replaced s r)
goal_replaced s (goal.Projection id xs t) = goal.Projection id (args_replaced s xs) (replaced s t)
