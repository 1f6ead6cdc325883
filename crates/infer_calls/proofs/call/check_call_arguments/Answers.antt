use Rattle.std.proofs.Common.{subst}
use Rattle.infer_calls.specs.Words.{given_of, schedule_of, SelectsAndReads}
use Rattle.infer_calls.proofs.CallWalk.{args_then}
use Rattle.infer_calls.proofs.call.check_call_arguments.Goals as goal

pub select_and_read-requires-clause-of_body : goal.select_and_read-requires-clause-of_body
select_and_read-requires-clause-of_body g c = c.in_ok-check_each_argument.ensures.follows.of_body

pub select_and_read-requires-clause-sound : goal.select_and_read-requires-clause-sound
select_and_read-requires-clause-sound g c = c.in_ok-check_each_argument.ensures.follows.sound

pub select_and_read-requires-clause-told : goal.select_and_read-requires-clause-told
select_and_read-requires-clause-told g c = c.in_ok-check_each_argument.ensures.follows.told c.requires.before.before.state.told

pub returns-clause-done : goal.returns-clause-done
returns-clause-done g c =
    args_then (given_of c.args.given.now) (schedule_of c.args.given.now) c.args.call_expr c.args.args.now _ _ c.in_ok-select_and_read.ensures.binds c.args.inputs.now c.args.context.now c.in_ok-check_each_argument.ensures

pub returns-clause-selected : goal.returns-clause-selected
returns-clause-selected g c = record { before = c.in_ok-select_and_read.ensures.read; selects = c.in_ok-select_and_read.ensures.again }

pub returns-clause-read : goal.returns-clause-read
returns-clause-read g c = record {
  needed = c.in_ok-needed.needed.items;
  are = c.in_ok-needed.ensures;
  before = c.check_each_argument.new.context;
  reads = subst (λ qs. SelectsAndReads (given_of c.args.given.now) qs c.check_each_argument.new.context c.select_and_read.new.context) c.as_slice-goals.ensures.value c.in_ok-select_and_read.ensures;
}
