use Rattle.std.proofs.Common.{arith, subst}
use Rattle.infer_coerce.specs.Words.{given_of}
use Rattle.infer_coerce.specs.Own.{UnifiesNext}
use Rattle.infer_coerce.proofs.KnownPairs.{begins_known, ends_known, goes_past_known, no_known}
use Rattle.infer_coerce.proofs.unification.unify_known.Goals as goal

pub loop-init : goal.loop-init
loop-init c = begins_known (given_of c.args.given.now) c.args.context.now c.requires.of_body c.requires.sound

pub loop-preserved : goal.loop-preserved
loop-preserved c =
    goes_past_known (given_of c.args.given.now) c.args.context.now c.loop.counter c.loop.context c.loop.invariant c.unify_next.new.context
    (subst (λ yes. UnifiesNext yes (given_of c.args.given.now) c.loop.context c.unify_next.new.context) c.if-not-branch.false c.in_ok-unify_next.ensures)

pub returns-then-not-branch : goal.returns-then-not-branch
returns-then-not-branch c =
    no_known (given_of c.args.given.now) c.args.context.now c.loop.counter c.loop.context c.loop.invariant c.unify_next.new.context
    (subst (λ yes. UnifiesNext yes (given_of c.args.given.now) c.loop.context c.unify_next.new.context) c.if-not-branch.true c.in_ok-unify_next.ensures)

pub returns : goal.returns
returns c = ends_known (given_of c.args.given.now) c.args.context.now c.loop.counter c.loop.context c.loop.invariant (omega (arith, c.loop-test.false, c.pair_count-end.ensures))
