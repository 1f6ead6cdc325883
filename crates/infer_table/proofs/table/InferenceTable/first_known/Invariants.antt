use Rattle.infer_table.specs.Own.{AllUnknown, left_before}
use Rattle.infer_table.proofs.table.InferenceTable.first_known.Given as goal

abbrev pub invariant-loop-at : goal.invariant-loop-at
invariant-loop-at l = AllUnknown l.self (left_before l.self.pairs l.at)
