use Rattle.infer_obligations.specs.Words.{given_of}
use Rattle.infer_obligations.proofs.Walking.{selects_in_walk}
use Rattle.infer_obligations.proofs.select.select_obligations_where_possible.Goals as goal

pub unify_known-requires-clause-of_body : goal.unify_known-requires-clause-of_body
unify_known-requires-clause-of_body c = c.in_ok-select_alone.ensures.binds.follows.of_body

pub unify_known-requires-clause-sound : goal.unify_known-requires-clause-sound
unify_known-requires-clause-sound c = c.in_ok-select_alone.ensures.binds.follows.sound

pub returns : goal.returns
returns c = selects_in_walk (given_of c.args.given.now) c.args.context.now _ _ c.in_ok-select_alone.ensures c.in_ok-unify_known.ensures
