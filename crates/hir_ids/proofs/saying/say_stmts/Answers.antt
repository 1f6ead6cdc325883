use Rattle.hir_ids.specs.Words.{stmt_mentions}
use Rattle.hir_ids.proofs.Told.{said_more}
use Rattle.hir_ids.proofs.saying.say_stmts.Goals as goal

pub loop-stmt-preserved : goal.loop-stmt-preserved
loop-stmt-preserved c = said_more stmt_mentions c.args.node _ _ _ c.args.stmts.now c.loop-stmt.stmt-index _ c.loop-stmt-test.true c.loop-stmt.invariant c.in_ok-say_stmt.ensures
