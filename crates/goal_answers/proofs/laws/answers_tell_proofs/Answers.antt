use Rattle.goal_answers.proofs.Proved.{yes_has_proofs, no_has_no_proof}
use Rattle.goal_answers.proofs.laws.answers_tell_proofs.Goals as goal

pub returns : goal.returns
returns c = record { yes = yes_has_proofs; no = no_has_no_proof }
