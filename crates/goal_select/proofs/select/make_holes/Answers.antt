use Rattle.std.proofs.Common.{ap, ◌∙◌}
use Rattle.hir_types.specs.declared.head.HoleKind.TheVariants as kind
use Rattle.goal_select.specs.Words.{with_new_hole}
use Rattle.goal_select.proofs.Params.{next_type_hole}
use Rattle.goal_select.proofs.select.make_holes.Goals as goal

pub loop-preserved : goal.loop-preserved
loop-preserved c =
    c.in_ok-next_ty_var.ensures.made
    ∙ ap (λ s. with_new_hole s kind.Ty) c.loop.invariant
    ∙ next_type_hole c.args.table.now c.loop.counter
