use Rattle.std.proofs.Common.{◌≡◌, IfOk, subst}
use Rattle.goal_select.specs.Words.{args_folded_itself}
use Rattle.goal_select.proofs.meeting.dup_args.Goals as goal

pub returns : goal.returns
returns c = subst (λ xs. IfOk c.fold_with.result (λ copy. copy ≡ xs)) (args_folded_itself c.args.args.now) c.fold_with.ensures
