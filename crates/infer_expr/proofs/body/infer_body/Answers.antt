use Rattle.std.proofs.Common.{subst}
use Rattle.infer_ctx.specs.Context.{given_of, schedule_of}
use Rattle.infer_expr.specs.Params.{ParamsDone}
use Rattle.infer_expr.proofs.Whole.{root_within}
use Rattle.infer_expr.proofs.BodyWalk.{comes_to_params, comes_to_root, body_walked, body_follows}
use Rattle.infer_ctx.proofs.OverTypes.{fine_later}
use Rattle.infer_expr.proofs.body.infer_body.Goals as goal
use Rattle.infer_obligations.proofs.ReadNeeds.{all_settled}

pub end_of-last-requires-clause-node : goal.end_of-last-requires-clause-node
end_of-last-requires-clause-node c = root_within _ _ c.requires.law

pub infer_params-requires : goal.infer_params-requires
infer_params-requires c = comes_to_params _ _ c.requires.law c.requires.written c.requires.count _ _ c.end_of-last.ensures c.end_of-last.type_inv c.requires.table c.requires.empty c.requires.goals

pub infer_expr_coerce-requires : goal.infer_expr_coerce-requires
infer_expr_coerce-requires c =
    rw c.return_expectation-expected.ensures (
    comes_to_root _ _ _ _ (comes_to_params _ _ c.requires.law c.requires.written c.requires.count _ _ c.end_of-last.ensures c.end_of-last.type_inv c.requires.table c.requires.empty c.requires.goals)
    c.in_ok-infer_params.ensures c.requires.carried (fine_later _ _ _ _ c.requires.carried c.requires.fine)
    )

pub settle_needs-requires-clause-of_body : goal.settle_needs-requires-clause-of_body
settle_needs-requires-clause-of_body c = c.in_ok-infer_expr_coerce.ensures.follows.of_body

pub settle_needs-requires-clause-sound : goal.settle_needs-requires-clause-sound
settle_needs-requires-clause-sound c = c.in_ok-infer_expr_coerce.ensures.follows.sound

pub settle_needs-requires-clause-told : goal.settle_needs-requires-clause-told
settle_needs-requires-clause-told c =
    c.in_ok-infer_expr_coerce.ensures.follows.told (c.in_ok-infer_params.ensures.follows.told
    (comes_to_params _ _ c.requires.law c.requires.written c.requires.count _ _ c.end_of-last.ensures c.end_of-last.type_inv c.requires.table c.requires.empty c.requires.goals).state.told)

pub returns-clause-done : goal.returns-clause-done
returns-clause-done c =
    body_walked _ _ c.requires.law c.requires.carried _ c.args.context.now.goals _ _ _
    (subst (λ k. ParamsDone (given_of c.args.given.now) (schedule_of c.args.given.now) k c.infer_params.new.context) c.requires.empty c.in_ok-infer_params.ensures)
    (rw c.return_expectation-expected.ensures at c.in_ok-infer_expr_coerce.ensures) (all_settled _ _ _ c.in_ok-settle_needs.ensures)

pub returns-clause-grew : goal.returns-clause-grew
returns-clause-grew c = (body_follows _ _ _ _ _ _ _ c.in_ok-infer_params.ensures (rw c.return_expectation-expected.ensures at c.in_ok-infer_expr_coerce.ensures) (all_settled _ _ _ c.in_ok-settle_needs.ensures)).grew

pub returns-clause-told : goal.returns-clause-told
returns-clause-told c =
    (body_follows _ _ _ _ _ _ _ c.in_ok-infer_params.ensures (rw c.return_expectation-expected.ensures at c.in_ok-infer_expr_coerce.ensures) (all_settled _ _ _ c.in_ok-settle_needs.ensures)).told
    (comes_to_params _ _ c.requires.law c.requires.written c.requires.count _ _ c.end_of-last.ensures c.end_of-last.type_inv c.requires.table c.requires.empty c.requires.goals).state.told

pub returns-clause-sources : goal.returns-clause-sources
returns-clause-sources c = (body_follows _ _ _ _ _ _ _ c.in_ok-infer_params.ensures (rw c.return_expectation-expected.ensures at c.in_ok-infer_expr_coerce.ensures) (all_settled _ _ _ c.in_ok-settle_needs.ensures)).sources

pub returns-clause-read : goal.returns-clause-read
returns-clause-read c = record { walked = c.infer_expr_coerce.new.context; settles = c.in_ok-settle_needs.ensures }
