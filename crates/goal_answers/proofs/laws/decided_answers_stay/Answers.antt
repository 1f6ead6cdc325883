use Rattle.goal_answers.proofs.Filled.{decided_answers_stay}
use Rattle.goal_answers.proofs.laws.decided_answers_stay.Goals as goal

pub returns : goal.returns
returns c = decided_answers_stay
