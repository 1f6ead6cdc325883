use Rattle.std.proofs.Common.{◌≡◌, length, take}
use Rattle.infer_table.proofs.bindings.Bindings.truncate.Given as goal

abbrev pub invariant-undo : goal.invariant-undo
invariant-undo l = record {
  same_kinds : l.self.kinds ≡ l.fn.self.kinds;
  same_front : take l.count l.self.log ≡ take l.count l.fn.self.log;
}

abbrev pub decreases-undo : goal.decreases-undo
decreases-undo l = length l.self.log
