use Rattle.std.proofs.Common.{◌≡◌, ◌++◌, take}
use Rattle.std.specs.List.{flat_map}
use Rattle.hir_ids.specs.Words.{stmt_mentions, said}
use Rattle.hir_ids.proofs.saying.say_stmts.Given as goal

abbrev pub invariant-loop-stmt : goal.invariant-loop-stmt
invariant-loop-stmt l = l.out.items ≡ l.fn.out.items ++ said l.node (flat_map stmt_mentions (take l.stmt-index l.stmts))
