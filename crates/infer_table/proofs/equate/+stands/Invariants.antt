use Rattle.std.proofs.Common.{◌≡◌, ◌+◌, ◌*◌, false, take}
use Rattle.infer_table.specs.Words.{chain, occurs, part_terms}
use Rattle.infer_table.proofs.equate.+stands.Given as goal

-- the levels that are left, and then how near a function stands to the next type
abbrev pub decreases-stands_in : goal.decreases-stands_in
decreases-stands_in l = 3 * l.levels

abbrev pub decreases-stands_in_parts : goal.decreases-stands_in_parts
decreases-stands_in_parts l = 3 * l.levels + 2

abbrev pub decreases-stands_in_part : goal.decreases-stands_in_part
decreases-stands_in_part l = 3 * l.levels + 1

abbrev pub invariant-stands_in_parts-loop-part : goal.invariant-stands_in_parts-loop-part
invariant-stands_in_parts-loop-part l = occurs l.x (chain (part_terms (take l.part-index l.parts))) ≡ false
