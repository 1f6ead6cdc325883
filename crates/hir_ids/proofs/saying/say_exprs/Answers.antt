use Rattle.hir_ids.specs.Words.{expr_said}
use Rattle.hir_ids.proofs.Told.{told_more}
use Rattle.hir_ids.proofs.saying.say_exprs.Goals as goal

pub loop-e-preserved : goal.loop-e-preserved
loop-e-preserved c =
    told_more expr_said _ _ _ c.args.exprs.now c.loop-e.e c.index-exprs-e.result c.loop-e-test.true c.index-exprs-e.is c.loop-e.invariant c.in_ok-say_expr.ensures
