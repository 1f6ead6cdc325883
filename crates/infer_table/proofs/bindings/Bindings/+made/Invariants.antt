use Rattle.std.proofs.Common.{◌+◌, ◌*◌, take}
use Rattle.infer_table.specs.Words.{chain, part_terms}
use Rattle.infer_table.specs.Own.{AreOf}
use Rattle.infer_table.proofs.bindings.Bindings.+made.Given as goal

-- the levels that are left, and then how near a function stands to the next type
abbrev pub decreases-type_is_made : goal.decreases-type_is_made
decreases-type_is_made l = 3 * l.levels

abbrev pub decreases-parts_are_made : goal.decreases-parts_are_made
decreases-parts_are_made l = 3 * l.levels + 2

abbrev pub decreases-part_is_made : goal.decreases-part_is_made
decreases-part_is_made l = 3 * l.levels + 1

abbrev pub invariant-parts_are_made-loop-part : goal.invariant-parts_are_made-loop-part
invariant-parts_are_made-loop-part l = AreOf l.self.kinds (chain (part_terms (take l.part-index l.parts)))
