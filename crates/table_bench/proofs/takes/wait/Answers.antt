use Rattle.table_bench.proofs.Growth.{grew_same, grew_by_waiting_pair}
use Rattle.table_bench.proofs.takes.wait.Goals as goal

pub returns-in_err-wait : goal.returns-in_err-wait
returns-in_err-wait c = grew_same c.args.table.now c.wait.new.self c.in_err-wait.ensures.err

pub returns : goal.returns
returns c = grew_by_waiting_pair c.args.table.now c.wait.new.self _ _ _ c.in_ok-wait.ensures.waits
