use Rattle.hir_ids.proofs.Words.{passed_none, passed_more, passed_all, breaks_here, read_at}
use Rattle.hir_ids.proofs.test.first_broken.Goals as goal

pub loop-at-init : goal.loop-at-init
loop-at-init g c = passed_none (g.T.Test.holds c.args.raw.now) _ _ c.requires.listed

pub test-requires : goal.test-requires
test-requires g c = record { given = c.requires.given; listed = read_at (g.T.Test.holds c.args.raw.now) _ _ c.loop-at.at c.index-items-at.result c.loop-at.invariant c.loop-at-test.true c.index-items-at.is }

pub returns-then-not-branch : goal.returns-then-not-branch
returns-then-not-branch g c =
    breaks_here (g.T.Test.holds c.args.raw.now) _ _ c.loop-at.at c.index-items-at.result c.in_ok-test.field-0 c.loop-at.invariant c.loop-at-test.true c.index-items-at.is c.in_ok-test.ensures c.if-not-branch.true

pub loop-at-preserved : goal.loop-at-preserved
loop-at-preserved g c =
    passed_more (g.T.Test.holds c.args.raw.now) _ _ c.loop-at.at c.index-items-at.result c.loop-at.invariant c.loop-at-test.true c.index-items-at.is (c.in_ok-test.ensures.0 c.if-not-branch.false)

pub returns : goal.returns
returns g c = passed_all (g.T.Test.holds c.args.raw.now) _ _ c.loop-at.at c.loop-at.invariant c.loop-at-test.false
