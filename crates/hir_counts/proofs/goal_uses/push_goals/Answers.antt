use Rattle.hir_counts.specs.Words.{goal_uses}
use Rattle.hir_counts.proofs.Words.{gathered_after}
use Rattle.hir_counts.proofs.goal_uses.push_goals.Goals as goal

pub loop-goal-preserved : goal.loop-goal-preserved
loop-goal-preserved c = gathered_after goal_uses c.args.goals.now c.loop-goal.goal-index c.goal-item.result c.args.out.now.items c.loop-goal.out.items c.push_goal.new.out.items c.loop-goal-test.true c.goal-item.is c.loop-goal.invariant c.in_ok-push_goal.ensures
