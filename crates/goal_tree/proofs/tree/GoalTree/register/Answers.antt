use Rattle.std.proofs.Common.{refl}
use Rattle.std.proofs.lemmas.Result.{on_ok_weaker}
use Rattle.goal_tree.specs.Own.{registered}
use Rattle.goal_tree.proofs.Growing.{registered_tree}
use Rattle.goal_tree.proofs.tree.GoalTree.register.Goals as goal

pub returns-clause-tree : goal.returns-clause-tree
returns-clause-tree c =
    let asked = registered c.args.goal c.args.node c.args.depth in
    on_ok_weaker c.push.result (registered_tree c.args.self.now c.push.new.self asked c.requires refl) c.push.ensures
