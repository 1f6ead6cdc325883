use Rattle.std.proofs.Common.{◌≡◌, IfOk, subst}
use Rattle.hir_types.specs.Own.{folded_itself}
use Rattle.hir_types.proofs.unchanged.copy.Goals as goal

pub returns : goal.returns
returns c = subst (λ t. IfOk c.fold_ty.result (λ copy. copy ≡ t)) (folded_itself c.args.ty.now) c.fold_ty.ensures
