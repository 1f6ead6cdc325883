use Rattle.goal_answers.proofs.Sole.{selected_is_the_source}
use Rattle.goal_answers.proofs.laws.selected_is_the_source.Goals as goal

pub returns : goal.returns
returns c = selected_is_the_source
