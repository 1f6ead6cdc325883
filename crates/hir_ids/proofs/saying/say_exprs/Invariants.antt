use Rattle.std.proofs.Common.{◌≡◌, ◌++◌, take}
use Rattle.hir_ids.specs.Words.{each, expr_said}
use Rattle.hir_ids.proofs.saying.say_exprs.Given as goal

abbrev pub invariant-loop-e : goal.invariant-loop-e
invariant-loop-e l = l.out.items ≡ l.fn.out.items ++ each expr_said 0 (take l.e l.exprs)
