use Rattle.infer_obligations.specs.Words.{given_of}
use Rattle.infer_obligations.proofs.ReadNeeds.{selects_and_reads}
use Rattle.infer_obligations.proofs.read.select_and_read.Goals as goal

pub returns : goal.returns
returns c =
    selects_and_reads (given_of c.args.given.now) c.args.goals.now c.args.context.now _ _ _ c.in_ok-select_obligations_where_possible.ensures c.in_ok-read_each.ensures c.in_ok-select_obligations_where_possible-2.ensures
