use Rattle.std.proofs.Common.{◌≡◌, map, drop}
use Rattle.goal_terms.specs.Words.{chain, arg_term}
use Rattle.goal_terms.specs.Own.{term_of, HasHeads}
use Rattle.goal_terms.proofs.conversions.args_term.Given as goal

-- the arguments from this one on
abbrev pub invariant-loop-i : goal.invariant-loop-i
invariant-loop-i l = (term_of l.made ≡ chain (map arg_term (drop l.i l.args))) × HasHeads (term_of l.made)
