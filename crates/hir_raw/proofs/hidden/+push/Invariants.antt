use Rattle.std.proofs.Common.{◌≡◌, ◌+◌, ◌*◌, ◌++◌, take}
use Rattle.hir_raw.specs.Own.{parts_aliases}
use Rattle.hir_raw.proofs.hidden.+push.Given as goal

abbrev pub decreases-push_aliases : goal.decreases-push_aliases
decreases-push_aliases l = 2 * l.steps

abbrev pub decreases-push_parts : goal.decreases-push_parts
decreases-push_parts l = 2 * l.steps + 1

abbrev pub invariant-push_parts-loop-part : goal.invariant-push_parts-loop-part
invariant-push_parts-loop-part l = l.found.items ≡ l.fn.found.items ++ parts_aliases l.steps l.types (take l.part-index l.parts)
