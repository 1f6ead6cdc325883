use Rattle.std.proofs.Common.{◌≡◌, ◌++◌, drop}
use Rattle.goal_terms.specs.Words.{autos_of}
use Rattle.goal_terms.specs.Own.{parts_read}
use Rattle.goal_terms.proofs.types.autos_of.Given as goal

-- what was read, with what the parts from this one on come to
abbrev pub invariant-loop-part : goal.invariant-loop-part
invariant-loop-part l = l.made ++ autos_of (parts_read (drop l.part-index l.parts)) ≡ autos_of (parts_read l.parts)
