use Rattle.table_bench.proofs.Growth.{back_twice}
use Rattle.table_bench.proofs.snapshots.undo_each.Goals as goal

pub returns-in_err-was_byte : goal.returns-in_err-was_byte
returns-in_err-was_byte c = back_twice c.args.table.now c.loop-step.table c.bind_and_undo.new.table c.loop-step.invariant c.bind_and_undo.ensures

pub loop-step-preserved : goal.loop-step-preserved
loop-step-preserved c = back_twice c.args.table.now c.loop-step.table c.bind_and_undo.new.table c.loop-step.invariant c.bind_and_undo.ensures
