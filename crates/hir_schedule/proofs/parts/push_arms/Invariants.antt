use Rattle.std.proofs.Common.{◌≡◌, ◌++◌, take}
use Rattle.hir_schedule.specs.Words.{arms_parts, nodes}
use Rattle.hir_schedule.proofs.parts.push_arms.Given as goal

abbrev pub invariant-loop-arm : goal.invariant-loop-arm
invariant-loop-arm l = l.out.items ≡ l.fn.out.items ++ nodes (arms_parts 0 (take l.arm-index l.arms))
