use Rattle.std.proofs.Common.{subst}
use Rattle.goal_tree.specs.Own.{IsProvedUpTo}
use Rattle.goal_tree.proofs.Proving.{proved_then}
use Rattle.goal_tree.proofs.tree.GoalTree.finish.Goals as goal

pub loop-parent-preserved : goal.loop-parent-preserved
loop-parent-preserved c =
    let next = subst (IsProvedUpTo c.loop-parent.self c.advance.new.self c.loop-parent.at) c.in-Some.is c.in_ok-parent.ensures in
    record {
      tree = next.1;
      waiting = next.2;
      proved = proved_then c.args.self.now c.loop-parent.self c.advance.new.self c.loop-parent.invariant.proved next.0;
    }

pub returns-clause-proved : goal.returns-clause-proved
returns-clause-proved c =
    let last = subst (IsProvedUpTo c.loop-parent.self c.advance.new.self c.loop-parent.at) c.in_default.is c.in_ok-parent.ensures in
    proved_then c.args.self.now c.loop-parent.self c.advance.new.self c.loop-parent.invariant.proved last.0
