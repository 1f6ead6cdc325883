use Rattle.infer_calls.specs.Words.{given_of, schedule_of}
use Rattle.infer_calls.proofs.CallWalk.{loose_then}
use Rattle.infer_calls.proofs.call.infer_uncallable_arguments.Goals as goal

pub select_obligations_where_possible-requires-clause-of_body : goal.select_obligations_where_possible-requires-clause-of_body
select_obligations_where_possible-requires-clause-of_body g c = c.in_ok-infer_arguments.ensures.follows.of_body

pub select_obligations_where_possible-requires-clause-sound : goal.select_obligations_where_possible-requires-clause-sound
select_obligations_where_possible-requires-clause-sound g c = c.in_ok-infer_arguments.ensures.follows.sound

pub select_obligations_where_possible-requires-clause-told : goal.select_obligations_where_possible-requires-clause-told
select_obligations_where_possible-requires-clause-told g c = c.in_ok-infer_arguments.ensures.follows.told c.requires.before.state.told

pub returns-clause-done : goal.returns-clause-done
returns-clause-done g c =
    loose_then (given_of c.args.given.now) (schedule_of c.args.given.now) c.args.call_expr c.args.args.now _ _ c.in_ok-select_obligations_where_possible.ensures.binds c.args.context.now c.in_ok-infer_arguments.ensures

pub returns-clause-selected : goal.returns-clause-selected
returns-clause-selected g c = record { before = c.infer_arguments.new.context; selects = c.in_ok-select_obligations_where_possible.ensures }
