use Rattle.infer_run.proofs.Pieces.{goes_on}
use Rattle.infer_run.proofs.running.write_all.Goals as goal

pub loop-at-preserved : goal.loop-at-preserved
loop-at-preserved g c = goes_on _ _ _ _ _ _ c.args.text.now c.loop-at.at c.in_ok-at.field-0 c.loop-at.invariant c.in_ok-at.ensures.bound c.in_ok-at.ensures.bytes c.write.ensures.cause.later
