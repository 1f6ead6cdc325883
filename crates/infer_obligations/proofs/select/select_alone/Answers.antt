use Rattle.infer_obligations.specs.Words.{given_of}
use Rattle.infer_obligations.proofs.Walking.{selects_alone}
use Rattle.infer_obligations.proofs.select.select_alone.Goals as goal

pub select_obligations_where_possible-requires-clause-kept : goal.select_obligations_where_possible-requires-clause-kept
select_obligations_where_possible-requires-clause-kept c = c.requires.told.goals.kept

pub select_obligations_where_possible-requires-clause-all : goal.select_obligations_where_possible-requires-clause-all
select_obligations_where_possible-requires-clause-all c = c.requires.told.goals.all

pub returns : goal.returns
returns c =
    let done = c.in_ok-select_obligations_where_possible.ensures in
    let always = c.select_obligations_where_possible.ensures in
    selects_alone (given_of c.args.given.now) c.args.context.now c.requires.of_body c.requires.sound c.requires.told c.select_obligations_where_possible.new.self
    always.sources always.bounded done.kept done.all done.went done.given done.none_left c.lawful.ensures.meets c.lawful.ensures.respects
