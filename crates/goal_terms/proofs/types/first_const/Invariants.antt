use Rattle.std.proofs.Common.{◌≡◌, drop}
use Rattle.goal_terms.specs.Words.{first_const}
use Rattle.goal_terms.specs.Own.{parts_read}
use Rattle.goal_terms.proofs.types.first_const.Given as goal

-- no part before this one is a const
abbrev pub invariant-loop-part : goal.invariant-loop-part
invariant-loop-part l = first_const (parts_read (drop l.part-index l.parts)) ≡ first_const (parts_read l.parts)
