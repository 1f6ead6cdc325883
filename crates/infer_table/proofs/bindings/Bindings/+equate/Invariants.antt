use Rattle.std.proofs.Common.{◌+◌, ◌*◌, take}
use Rattle.infer_table.specs.Words.{chain, part_terms}
use Rattle.infer_table.specs.Own.{log_of, Unified, OnlyAdds}
use Rattle.infer_table.proofs.bindings.Bindings.+equate.Given as goal

-- the levels that are left, and then how near a function stands to the next type
abbrev pub decreases-equate : goal.decreases-equate
decreases-equate l = 3 * l.levels

abbrev pub decreases-equate_hole : goal.decreases-equate_hole
decreases-equate_hole l = 3 * l.levels + 2

abbrev pub decreases-equate_nodes : goal.decreases-equate_nodes
decreases-equate_nodes l = 3 * l.levels + 2

abbrev pub decreases-equate_part : goal.decreases-equate_part
decreases-equate_part l = 3 * l.levels + 1

-- the parts so far are equal, and only bindings were added
abbrev pub invariant-equate_nodes-loop-i : goal.invariant-equate_nodes-loop-i
invariant-equate_nodes-loop-i l = record {
  unified : Unified (log_of l.initial.self.log) (log_of l.self.log) (chain (part_terms (take l.i l.left))) (chain (part_terms (take l.i l.right)));
  binds : OnlyAdds l.initial.self l.self;
}
