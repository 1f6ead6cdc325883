use Rattle.std.proofs.Common.{◌+◌, ◌*◌}
use Rattle.goal_terms.proofs.equate.+equate.Given as goal

-- the levels that are left, and then how near a function stands to the next term
abbrev pub decreases-equal_hole : goal.decreases-equal_hole
decreases-equal_hole l = 2 * l.levels + 1

abbrev pub decreases-equal_pairs : goal.decreases-equal_pairs
decreases-equal_pairs l = 2 * l.levels + 1

abbrev pub decreases-make_equal : goal.decreases-make_equal
decreases-make_equal l = 2 * l.levels
