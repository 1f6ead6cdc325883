use Rattle.std.proofs.Common.{◌≡◌, ◌+◌, ◌*◌, drop}
use Rattle.goal_terms.specs.Words.{chain, part_terms}
use Rattle.goal_terms.specs.Own.{term_of, HasHeads}
use Rattle.goal_terms.proofs.conversions.+convert.Given as goal

-- the levels that are left, and then how near a function stands to the next type
abbrev pub decreases-parts_of : goal.decreases-parts_of
decreases-parts_of l = 4 * l.levels + 3

abbrev pub decreases-part_of : goal.decreases-part_of
decreases-part_of l = 4 * l.levels + 2

abbrev pub decreases-type_of : goal.decreases-type_of
decreases-type_of l = 4 * l.levels + 1

abbrev pub decreases-type_within : goal.decreases-type_within
decreases-type_within l = 4 * l.levels

-- the parts from this one on
abbrev pub invariant-parts_of-loop-i : goal.invariant-parts_of-loop-i
invariant-parts_of-loop-i l = (term_of l.made ≡ chain (part_terms (drop l.i l.parts))) × HasHeads (term_of l.made)
