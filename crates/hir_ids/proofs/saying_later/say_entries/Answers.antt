use Rattle.hir_ids.specs.Words.hir_raw.Mentions.{arg_mentions}
use Rattle.hir_ids.proofs.Told.{said_more}
use Rattle.hir_ids.proofs.saying_later.say_entries.Goals as goal

pub loop-arg-preserved : goal.loop-arg-preserved
loop-arg-preserved c = said_more arg_mentions c.args.node _ _ _ c.args.args.now c.loop-arg.arg-index _ c.loop-arg-test.true c.loop-arg.invariant c.in_ok-say_arg.ensures
