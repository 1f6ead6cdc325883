use Rattle.infer_obligations.specs.Words.{given_of}
use Rattle.infer_obligations.proofs.ReadNeeds.{begins_pats, pats_on, ends_pats}
use Rattle.infer_obligations.proofs.read.read_pats.Goals as goal

pub loop-at-init : goal.loop-at-init
loop-at-init c = begins_pats (given_of c.args.given.now) c.args.context.now c.requires.of_body c.requires.sound

pub read_pat-requires-clause-of_body : goal.read_pat-requires-clause-of_body
read_pat-requires-clause-of_body c = c.loop-at.invariant.pats.binds.follows.of_body

pub read_pat-requires-clause-sound : goal.read_pat-requires-clause-sound
read_pat-requires-clause-sound c = c.loop-at.invariant.pats.binds.follows.sound

pub loop-at-preserved : goal.loop-at-preserved
loop-at-preserved c =
    pats_on (given_of c.args.given.now) c.loop-at.at c.in_ok-pat.pat.0 c.args.context.now c.loop-at.context c.read_pat.new.context c.loop-at.invariant (rw c.len-at-end.ensures at c.loop-at-test.true) c.in_ok-pat.ensures c.in_ok-read_pat.ensures

pub returns : goal.returns
returns c = ends_pats (given_of c.args.given.now) c.loop-at.at c.args.context.now c.loop-at.context (rw c.len-at-end.ensures at c.loop-at-test.false) c.loop-at.invariant
