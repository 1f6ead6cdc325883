use Rattle.hir_counts.specs.Words.{goals_uses}
use Rattle.hir_counts.proofs.Words.{gathered_after}
use Rattle.hir_counts.proofs.goal_uses.push_goals_of.Goals as goal

pub loop-item-preserved : goal.loop-item-preserved
loop-item-preserved g c = gathered_after (λ x. goals_uses (g.T.HasGoals.goals x)) c.args.items.now c.loop-item.item-index c.item-item.result c.args.out.now.items c.loop-item.out.items c.push_goals.new.out.items c.loop-item-test.true c.item-item.is c.loop-item.invariant (rw c.goals.ensures at c.in_ok-push_goals.ensures)
