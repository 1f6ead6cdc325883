use Rattle.infer_obligations.specs.Words.{scope_in}
use Rattle.infer_obligations.proofs.InHand.{in_hand_fine}
use Rattle.infer_obligations.proofs.read.unify_in_hand.Goals as goal

pub unify-requires-clause-left : goal.unify-requires-clause-left
unify-requires-clause-left c = in_hand_fine (scope_in c.args.given.now) c.args.context.now.goals.table c.args.ty.now (c.in_ok-is_in_hand.ensures.0 c.if-not-branch.false)

pub unify-requires-clause-right : goal.unify-requires-clause-right
unify-requires-clause-right c = in_hand_fine (scope_in c.args.given.now) c.args.context.now.goals.table c.args.read.now (c.in_ok-is_in_hand-2.ensures.0 c.if-not-branch-2.false)
