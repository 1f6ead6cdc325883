use Rattle.std.proofs.Common.{refl}
use Rattle.std.proofs.lemmas.Option.{slice_get_read}
use Rattle.infer_obligations.specs.Words.{given_of}
use Rattle.infer_obligations.proofs.ReadNeeds.{begins_reading, reads_on, ends_reading}
use Rattle.infer_obligations.proofs.read.read_each.Goals as goal

pub loop-goal-init : goal.loop-goal-init
loop-goal-init c = begins_reading (given_of c.args.given.now) c.args.goals.now c.args.context.now c.requires.of_body c.requires.sound

pub read_goal-requires-clause-of_body : goal.read_goal-requires-clause-of_body
read_goal-requires-clause-of_body c = c.loop-goal.invariant.binds.follows.of_body

pub read_goal-requires-clause-sound : goal.read_goal-requires-clause-sound
read_goal-requires-clause-sound c = c.loop-goal.invariant.binds.follows.sound

pub loop-goal-preserved : goal.loop-goal-preserved
loop-goal-preserved c =
    reads_on (given_of c.args.given.now) c.args.goals.now c.loop-goal.goal-index c.args.context.now c.loop-goal.context c.read_goal.new.context c.goal-item.result c.loop-goal.invariant c.loop-goal-test.true
    (slice_get_read c.args.goals.now _ c.loop-goal.goal-index _ refl c.loop-goal-test.true c.goal-item.is) c.in_ok-read_goal.ensures

pub returns : goal.returns
returns c = ends_reading (given_of c.args.given.now) c.args.goals.now c.loop-goal.goal-index c.args.context.now c.loop-goal.context c.loop-goal-test.false c.loop-goal.invariant
