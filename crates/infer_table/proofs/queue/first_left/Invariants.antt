use Rattle.infer_table.specs.Own.{AllTakenBelow}
use Rattle.infer_table.proofs.queue.first_left.Given as goal

abbrev pub invariant-loop-at : goal.invariant-loop-at
invariant-loop-at l = AllTakenBelow l.pairs.taken l.at
