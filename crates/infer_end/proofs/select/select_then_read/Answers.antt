use Rattle.infer_end.specs.Words.{given_of}
use Rattle.infer_end.proofs.Settling.{selects_then_reads}
use Rattle.infer_end.proofs.select.select_then_read.Goals as goal

pub read_all-requires-clause-of_body : goal.read_all-requires-clause-of_body
read_all-requires-clause-of_body c = c.in_ok-select_obligations_where_possible.ensures.binds.follows.of_body

pub read_all-requires-clause-sound : goal.read_all-requires-clause-sound
read_all-requires-clause-sound c = c.in_ok-select_obligations_where_possible.ensures.binds.follows.sound

pub returns : goal.returns
returns c = selects_then_reads (given_of c.args.given.now) c.args.context.now _ _ c.in_ok-select_obligations_where_possible.ensures c.in_ok-read_all.ensures
