use Rattle.infer_obligations.specs.Words.{given_of}
use Rattle.infer_obligations.proofs.ReadNeeds.{FirstRead}
use Rattle.infer_obligations.proofs.read.read_each.Given as goal

abbrev pub invariant-loop-goal : goal.invariant-loop-goal
invariant-loop-goal l = FirstRead (given_of l.given) l.goals l.goal-index l.initial.context l.context
