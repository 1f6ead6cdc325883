use Rattle.std.proofs.Common.{◌≡◌, map, take, ◌+◌, ◌*◌}
use Rattle.hir_types.specs.Own.{replaced, arg_replaced, bound_replaced}
use Rattle.hir_types.proofs.fold.+fold.Given as goal

abbrev pub invariant-fold_types-loop-ty : goal.invariant-fold_types-loop-ty
invariant-fold_types-loop-ty g l = l.made ≡ map (replaced (g.F.TypeFolder.replacement l.folder)) (take l.ty-index l.types)

abbrev pub invariant-fold_args-loop-arg : goal.invariant-fold_args-loop-arg
invariant-fold_args-loop-arg g l = l.made ≡ map (arg_replaced (g.F.TypeFolder.replacement l.folder)) (take l.arg-index l.args)

abbrev pub invariant-fold_bounds-loop-bound : goal.invariant-fold_bounds-loop-bound
invariant-fold_bounds-loop-bound g l = l.made ≡ map (bound_replaced (g.F.TypeFolder.replacement l.folder)) (take l.bound-index l.bounds)

abbrev pub decreases-fold_ty : goal.decreases-fold_ty
decreases-fold_ty g l = l.levels * 6

abbrev pub decreases-fold_boxed : goal.decreases-fold_boxed
decreases-fold_boxed g l = l.levels * 6 + 1

abbrev pub decreases-fold_arg : goal.decreases-fold_arg
decreases-fold_arg g l = l.levels * 6 + 1

abbrev pub decreases-fold_types : goal.decreases-fold_types
decreases-fold_types g l = l.levels * 6 + 1

abbrev pub decreases-fold_bounds : goal.decreases-fold_bounds
decreases-fold_bounds g l = l.levels * 6 + 1

abbrev pub decreases-fold_args : goal.decreases-fold_args
decreases-fold_args g l = l.levels * 6 + 2

abbrev pub decreases-fold_trait : goal.decreases-fold_trait
decreases-fold_trait g l = l.levels * 6 + 3

abbrev pub decreases-fold_principal : goal.decreases-fold_principal
decreases-fold_principal g l = l.levels * 6 + 4
