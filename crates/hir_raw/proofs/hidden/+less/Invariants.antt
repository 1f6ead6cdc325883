use Rattle.std.proofs.Common.{◌≡◌, ◌+◌, ◌*◌, length, drop}
use Rattle.hir_raw.specs.Own.{parts_aliases, less}
use Rattle.hir_raw.proofs.hidden.+less.Given as goal

abbrev pub decreases-less_aliases : goal.decreases-less_aliases
decreases-less_aliases l = 2 * l.steps

abbrev pub decreases-less_parts : goal.decreases-less_parts
decreases-less_parts l = 2 * l.steps + 1

-- what is left is for those that are left
abbrev pub invariant-less_parts-loop-part : goal.invariant-less_parts-loop-part
invariant-less_parts-loop-part l = less l.left (length (parts_aliases l.steps l.types (drop l.part-index l.parts))) ≡ less l.fn.count (length (parts_aliases l.steps l.types l.parts))
