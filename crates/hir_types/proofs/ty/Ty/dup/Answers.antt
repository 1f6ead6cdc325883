use Rattle.std.proofs.Common.{◌≡◌, IfOk, subst}
use Rattle.hir_types.specs.Own.{folded_itself}
use Rattle.hir_types.proofs.ty.Ty.dup.Goals as goal

pub returns : goal.returns
returns c = subst (λ t. IfOk c.fold_with.result (λ copy. copy ≡ t)) (folded_itself c.args.self.now) c.fold_with.ensures
