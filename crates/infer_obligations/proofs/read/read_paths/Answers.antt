use Rattle.infer_obligations.specs.Words.{given_of}
use Rattle.infer_obligations.proofs.ReadNeeds.{begins_paths, paths_on, ends_paths}
use Rattle.infer_obligations.proofs.read.read_paths.Goals as goal

pub loop-at-init : goal.loop-at-init
loop-at-init c = begins_paths (given_of c.args.given.now) c.args.context.now c.requires.of_body c.requires.sound

pub read_path-requires-clause-of_body : goal.read_path-requires-clause-of_body
read_path-requires-clause-of_body c = c.loop-at.invariant.paths.binds.follows.of_body

pub read_path-requires-clause-sound : goal.read_path-requires-clause-sound
read_path-requires-clause-sound c = c.loop-at.invariant.paths.binds.follows.sound

pub loop-at-preserved : goal.loop-at-preserved
loop-at-preserved c =
    paths_on (given_of c.args.given.now) c.loop-at.at c.in_ok-expr.expr.0 c.args.context.now c.loop-at.context c.read_path.new.context c.loop-at.invariant (rw c.len-at-end.ensures at c.loop-at-test.true) c.in_ok-expr.ensures c.in_ok-read_path.ensures

pub returns : goal.returns
returns c = ends_paths (given_of c.args.given.now) c.loop-at.at c.args.context.now c.loop-at.context (rw c.len-at-end.ensures at c.loop-at-test.false) c.loop-at.invariant
