use Rattle.std.proofs.Common.{arith}
use Rattle.std.proofs.lemmas.List.{get_or_default}
use Rattle.infer_branches.proofs.Words.{later}
use Rattle.infer_branches.proofs.ArmWalk.{begins_arms, comes_to_guard, past_guard, comes_to_arm, goes_past_arm, ends_arms}
use Rattle.infer_branches.proofs.PatternWalk.{arm_at}
use Rattle.infer_branches.proofs.branch.infer_arms.Goals as goal

pub loop-i-init : goal.loop-i-init
loop-i-init g c = begins_arms _ _ _ _ _ _ _ c.in_ok-common.ensures c.requires.before

pub infer_guard-requires-clause-infers : goal.infer_guard-requires-clause-infers
infer_guard-requires-clause-infers g c = later _ _ _ _ _ _ c.loop-i.invariant.walk.follows.clock c.requires.infers

pub infer_guard-requires-clause-before : goal.infer_guard-requires-clause-before
infer_guard-requires-clause-before g c =
    comes_to_guard _ _ _ _ _ _ _ _ _ c.requires.before c.loop-i.invariant (arm_at c.args.arms.now c.loop-i.i) (get_or_default _ _ _ _ c.loop-i-test.true) c.loop-i-test.true

pub infer_alternative-requires-clause-infers : goal.infer_alternative-requires-clause-infers
infer_alternative-requires-clause-infers g c =
    later _ _ _ _ _ _ (omega (arith, c.loop-i.invariant.walk.follows.clock, c.in_ok-infer_guard.ensures.follows.clock)) c.requires.infers

pub infer_alternative-requires-clause-before : goal.infer_alternative-requires-clause-before
infer_alternative-requires-clause-before g c =
    comes_to_arm _ _ _ _ _ _ _ _ _ c.requires.before c.loop-i.invariant (arm_at c.args.arms.now c.loop-i.i) (get_or_default _ _ _ _ c.loop-i-test.true) c.loop-i-test.true _ c.in_ok-infer_guard.ensures

pub infer_alternative-requires-clause-common : goal.infer_alternative-requires-clause-common
infer_alternative-requires-clause-common g c =
    (past_guard _ _ _ _ _ _ _ _ _ c.requires.before c.loop-i.invariant (arm_at c.args.arms.now c.loop-i.i) (get_or_default _ _ _ _ c.loop-i-test.true) c.loop-i-test.true _ c.in_ok-infer_guard.ensures).fine

pub loop-i-preserved : goal.loop-i-preserved
loop-i-preserved g c =
    goes_past_arm _ _ _ _ _ _ _ _ _ c.requires.before c.loop-i.invariant (arm_at c.args.arms.now c.loop-i.i) (get_or_default _ _ _ _ c.loop-i-test.true) c.loop-i-test.true _ c.in_ok-infer_guard.ensures _ _ c.in_ok-infer_alternative.ensures

pub complete-requires-clause-expected : goal.complete-requires-clause-expected
complete-requires-clause-expected g c = c.loop-i.invariant.walk.expected

pub returns : goal.returns
returns g c = ends_arms _ _ _ _ _ _ _ _ _ c.requires.before c.loop-i.invariant c.loop-i-test.false _ _ c.in_ok-ty.ensures
