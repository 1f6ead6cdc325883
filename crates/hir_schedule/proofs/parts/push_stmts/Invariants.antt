use Rattle.std.proofs.Common.{◌≡◌, ◌++◌, take}
use Rattle.hir_schedule.specs.Words.{stmts_parts, nodes}
use Rattle.hir_schedule.proofs.parts.push_stmts.Given as goal

abbrev pub invariant-loop-stmt : goal.invariant-loop-stmt
invariant-loop-stmt l = l.out.items ≡ l.fn.out.items ++ nodes (stmts_parts (take l.stmt-index l.stmts))
