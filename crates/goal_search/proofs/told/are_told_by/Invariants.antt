use Rattle.std.proofs.Common.{take}
use Rattle.goal_search.specs.Words.{Each, IsToldBy, term_of}
use Rattle.goal_search.proofs.told.are_told_by.Given as goal

-- the holes of those before are told
abbrev pub invariant-loop-goal : goal.invariant-loop-goal
invariant-loop-goal l = Each (λ g. IsToldBy (term_of l.by) (term_of g.parts)) (take l.goal-index l.goals)
