use Rattle.std.proofs.Common.{◌≡◌, IfOk, subst}
use Rattle.hir_types.specs.Own.{goal_itself}
use Rattle.hir_types.proofs.goal.Goal.dup.Goals as goal

pub returns : goal.returns
returns c = subst (λ t. IfOk c.fold_with.result (λ copy. copy ≡ t)) (goal_itself c.args.self.now) c.fold_with.ensures
