use Rattle.std.proofs.Common.{◌≡◌, ◌++◌, map, length}
use Rattle.std.specs.Vec.Iter.{into_iter_items, into_iter_len}
use Rattle.goal_tree.specs.Own.{asked_by, IsAsked}
use Rattle.goal_tree.proofs.tree.GoalTree.ask.Given as goal

abbrev pub invariant-loop-goal : goal.invariant-loop-goal
invariant-loop-goal l = (l.yielded ++ into_iter_items l.goal-iterator ≡ into_iter_items l.initial.goal-iterator)
    × IsAsked l.fn.self l.self (map (asked_by l.node l.depth l.parent) l.yielded)
    × (into_iter_len l.goal-iterator ≡ length (into_iter_items l.goal-iterator))
