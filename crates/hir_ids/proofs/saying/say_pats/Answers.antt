use Rattle.hir_ids.specs.Words.{pat_said}
use Rattle.hir_ids.proofs.Told.{told_more}
use Rattle.hir_ids.proofs.saying.say_pats.Goals as goal

pub loop-p-preserved : goal.loop-p-preserved
loop-p-preserved c =
    told_more (pat_said c.args.first) _ _ _ c.args.pats.now c.loop-p.p c.index-pats-p.result c.loop-p-test.true c.index-pats-p.is c.loop-p.invariant c.in_ok-say_pat.ensures
