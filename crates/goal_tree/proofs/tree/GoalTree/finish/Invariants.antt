use Rattle.std.proofs.Common.{◌≡◌}
use Rattle.goal_tree.specs.Own.{IsTreeBut, IsWaitingAt, IsMoreProved}
use Rattle.goal_tree.proofs.tree.GoalTree.finish.Given as goal

abbrev pub invariant-loop-parent : goal.invariant-loop-parent
invariant-loop-parent l = record {
  tree : IsTreeBut (λ i. i ≡ l.at) l.self;
  waiting : IsWaitingAt l.self.standings.items l.at;
  proved : IsMoreProved l.fn.self l.self;
}

abbrev pub decreases-loop-parent : goal.decreases-loop-parent
decreases-loop-parent l = l.at
