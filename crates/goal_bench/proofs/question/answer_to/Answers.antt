use Rattle.goal_bench.proofs.Asking.{answer_is}
use Rattle.goal_bench.proofs.question.answer_to.Goals as goal

pub loop-asked-init : goal.loop-asked-init
loop-asked-init c = answer_is c.args.mode c.args.size c.in_ok-question.question c.in_ok-answer.answer c.in_ok-question.ensures c.in_ok-answer.ensures

pub loop-asked-preserved : goal.loop-asked-preserved
loop-asked-preserved c = answer_is c.args.mode c.args.size c.in_ok-question.question c.in_ok-answer-2.answer c.in_ok-question.ensures c.in_ok-answer-2.ensures
