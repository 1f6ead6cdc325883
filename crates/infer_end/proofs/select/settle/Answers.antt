use Rattle.std.proofs.Common.{◌∙◌, ap}
use Rattle.infer_end.specs.Words.{given_of, ItemSources}
use Rattle.infer_end.proofs.Settling.{binds_done, settling, settles_body, settles_only}
use Rattle.infer_end.proofs.select.settle.Goals as goal

pub select_obligations_where_possible-requires-clause-sound : goal.select_obligations_where_possible-requires-clause-sound
select_obligations_where_possible-requires-clause-sound c = c.requires.done.sound

pub fall_back-requires-clause-of_body : goal.fall_back-requires-clause-of_body
fall_back-requires-clause-of_body c = c.in_ok-select_obligations_where_possible.ensures.binds.follows.of_body

pub fall_back-requires-clause-sound : goal.fall_back-requires-clause-sound
fall_back-requires-clause-sound c = c.in_ok-select_obligations_where_possible.ensures.binds.follows.sound

pub select_and_read_on-requires-clause-of_body : goal.select_and_read_on-requires-clause-of_body
select_and_read_on-requires-clause-of_body c = c.in_ok-fall_back.ensures.binds.follows.of_body

pub select_and_read_on-requires-clause-sound : goal.select_and_read_on-requires-clause-sound
select_and_read_on-requires-clause-sound c = c.in_ok-fall_back.ensures.binds.follows.sound

pub select_and_read_on-requires-clause-told : goal.select_and_read_on-requires-clause-told
select_and_read_on-requires-clause-told c = c.in_ok-fall_back.ensures.binds.follows.told (c.in_ok-select_obligations_where_possible.ensures.binds.follows.told c.requires.told)

pub select-requires-clause-item : goal.select-requires-clause-item
select-requires-clause-item c =
    let binds = settling (given_of c.args.given.now) c.args.context.now _ _ c.select_and_read_on.new.context c.in_ok-select_obligations_where_possible.ensures c.in_ok-fall_back.ensures c.in_ok-select_and_read_on.ensures in
    ap (λ (z : ItemSources). z.item) binds.follows.sources ∙ c.requires.item

pub select-requires-clause-done : goal.select-requires-clause-done
select-requires-clause-done c =
    let g = given_of c.args.given.now in
    binds_done g c.args.context.now c.select_and_read_on.new.context c.requires.done
    (settling g c.args.context.now _ _ c.select_and_read_on.new.context c.in_ok-select_obligations_where_possible.ensures c.in_ok-fall_back.ensures c.in_ok-select_and_read_on.ensures)

pub select-requires-clause-told : goal.select-requires-clause-told
select-requires-clause-told c =
    let binds = settling (given_of c.args.given.now) c.args.context.now _ _ c.select_and_read_on.new.context c.in_ok-select_obligations_where_possible.ensures c.in_ok-fall_back.ensures c.in_ok-select_and_read_on.ensures in
    binds.follows.told c.requires.told

pub returns-clause-only : goal.returns-clause-only
returns-clause-only c =
    settles_only (given_of c.args.given.now) c.args.context.now _ _ _ c.in_ok-select_obligations_where_possible.ensures c.in_ok-fall_back.ensures c.in_ok-select_and_read_on.ensures c.select.new.context c.select.ensures.only

pub returns-clause-settles : goal.returns-clause-settles
returns-clause-settles c =
    settles_body (given_of c.args.given.now) c.args.context.now _ _ _ c.in_ok-select_obligations_where_possible.ensures c.in_ok-fall_back.ensures c.in_ok-select_and_read_on.ensures c.args.given.now.owner c.select.new.context c.in_ok-select.ensures.selection
