use Rattle.infer_needs.specs.Words.{system}
use Rattle.infer_needs.specs.Own.{Lists}
use Rattle.infer_needs.proofs.Writing.{FirstHold, OfGoal}
use Rattle.infer_needs.proofs.written.look_at_goals.Given as goal

-- of the first of them
abbrev pub invariant-loop-goal : goal.invariant-loop-goal
invariant-loop-goal l =
    Lists l.sources.facts l.sources.item (system l.sources.sources) (FirstHold (OfGoal l.sources.facts (system l.sources.sources)) l.goals l.goal-index) l.fn.proofs.items l.proofs.items l.fn.found l.found
