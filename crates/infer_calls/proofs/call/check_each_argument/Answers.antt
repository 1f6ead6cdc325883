use Rattle.infer_calls.specs.Words.{given_of, schedule_of}
use Rattle.infer_calls.proofs.CallWalk.{answered_since, inputs_bound, inputs_fine}
use Rattle.infer_calls.proofs.call.check_each_argument.Goals as goal

pub expect_inputs-requires-clause-inputs : goal.expect_inputs-requires-clause-inputs
expect_inputs-requires-clause-inputs g c = inputs_fine _ _ _ _ _ _ c.requires.before

pub check_arguments-requires-clause-before : goal.check_arguments-requires-clause-before
check_arguments-requires-clause-before g c = inputs_bound _ _ _ _ _ _ c.in_ok-expect_inputs.ensures.binds _ c.requires.before

pub check_miscounted_arguments-requires-clause-before : goal.check_miscounted_arguments-requires-clause-before
check_miscounted_arguments-requires-clause-before g c = inputs_bound _ _ _ _ _ _ c.in_ok-expect_inputs.ensures.binds _ c.requires.before

pub returns-then-args-inputs : goal.returns-then-args-inputs
returns-then-args-inputs g c =
    answered_since (given_of c.args.given.now) (schedule_of c.args.given.now) c.args.call_expr c.args.args.now c.args.context.now c.expect_inputs.new.context
    c.in_ok-expect_inputs.ensures.binds c.args.inputs.now c.check_arguments.new.context c.check_arguments.result c.check_arguments.ensures

pub returns-else-args-inputs : goal.returns-else-args-inputs
returns-else-args-inputs g c =
    answered_since (given_of c.args.given.now) (schedule_of c.args.given.now) c.args.call_expr c.args.args.now c.args.context.now c.expect_inputs.new.context
    c.in_ok-expect_inputs.ensures.binds c.args.inputs.now c.check_miscounted_arguments.new.context c.check_miscounted_arguments.result c.check_miscounted_arguments.ensures.done
