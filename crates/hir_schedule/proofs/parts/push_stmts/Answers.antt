use Rattle.hir_schedule.proofs.NodeLists.{stmts_pushed}
use Rattle.hir_schedule.proofs.parts.push_stmts.Goals as goal

pub loop-stmt-preserved : goal.loop-stmt-preserved
loop-stmt-preserved c =
    stmts_pushed c.args.out.now.items c.loop-stmt.out.items c.push_stmt.new.out.items c.args.stmts.now c.loop-stmt.stmt-index _ c.loop-stmt-test.true c.loop-stmt.invariant c.in_ok-push_stmt.ensures
