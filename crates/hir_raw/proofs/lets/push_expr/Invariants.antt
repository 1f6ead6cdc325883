use Rattle.std.proofs.Common.{◌≡◌, ◌++◌, take}
use Rattle.std.specs.Prelude.{flat_map}
use Rattle.hir_raw.specs.Own.{stmt_aliases}
use Rattle.hir_raw.proofs.lets.push_expr.Given as goal

abbrev pub invariant-loop-stmt : goal.invariant-loop-stmt
invariant-loop-stmt l = l.found.items ≡ l.fn.found.items ++ flat_map (stmt_aliases l.types) (take l.stmt-index l.stmt-items)
