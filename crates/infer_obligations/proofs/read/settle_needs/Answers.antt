use Rattle.infer_obligations.specs.Words.{given_of}
use Rattle.infer_obligations.proofs.ReadNeeds.{settles_needs}
use Rattle.infer_obligations.proofs.read.settle_needs.Goals as goal

pub returns : goal.returns
returns c = settles_needs (given_of c.args.given.now) c.args.context.now _ _ _ c.in_ok-read_all.ensures c.in_ok-select_obligations_where_possible.ensures c.in_ok-unify_unknown.ensures
