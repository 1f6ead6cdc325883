-- The goals that a table of goals tells of.
use Rattle.infer_goals.specs.Words.{Goal, with_holes, goal_replaced, State, bindings, resolution}

-- the goal with what is known of its holes
abbrev pub resolved_goal : State → Goal → Goal
resolved_goal s g = goal_replaced (with_holes (resolution (bindings s))) g
