use Rattle.std.proofs.Common.{◌≡◌, ◌++◌, take}
use Rattle.hir_raw.specs.Own.{arguments_from, nodes}
use Rattle.hir_schedule.proofs.later_parts.push_arguments_from.Given as goal

abbrev pub invariant-loop-arg : goal.invariant-loop-arg
invariant-loop-arg l = l.out.items ≡ l.fn.out.items ++ nodes (arguments_from l.body l.closures 0 (take l.arg-index l.args))
