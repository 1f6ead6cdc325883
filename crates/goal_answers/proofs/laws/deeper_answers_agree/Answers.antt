use Rattle.goal_answers.proofs.Deeper.{deeper_answers_agree}
use Rattle.goal_answers.proofs.laws.deeper_answers_agree.Goals as goal

pub returns : goal.returns
returns c = deeper_answers_agree
