use Rattle.hir_ids.specs.Words.hir_raw.Mentions.{param_mentions}
use Rattle.hir_ids.proofs.Told.{said_more}
use Rattle.hir_ids.proofs.saying_later.say_params.Goals as goal

pub loop-param-preserved : goal.loop-param-preserved
loop-param-preserved c = said_more param_mentions c.args.node _ _ _ c.args.params.now c.loop-param.param-index _ c.loop-param-test.true c.loop-param.invariant c.in_ok-say_param.ensures
