use Rattle.std.proofs.Common.{arith}
use Rattle.infer_goals.proofs.Waking.{longer_same, longer_more, falls_asleep}
use Rattle.infer_goals.proofs.sleepers.fall_asleep.Goals as goal

pub grow-init : goal.grow-init
grow-init c = longer_same c.args.asleep.now.items c.args.at

pub grow-preserved : goal.grow-preserved
grow-preserved c = longer_more c.args.asleep.now.items c.grow.asleep.items c.push.new.self.items c.args.at (let low = c.grow-test.true in omega (arith, low)) c.grow.invariant c.in_ok-push.ensures.items

pub returns : goal.returns
returns c = falls_asleep c.args.asleep.now.items c.args.at c.grow.asleep.items c.grow.invariant (let past = c.grow-test.false in omega (arith, past))
