use Rattle.std.proofs.Common.{◌≡◌, ◌++◌, take, map}
use Rattle.hir_schedule.specs.Words.{expr_parts, nodes}
use Rattle.hir_schedule.proofs.schedule.push_expr_lists.Given as goal

abbrev pub invariant-loop-expr : goal.invariant-loop-expr
invariant-loop-expr l = l.lists ≡ l.fn.lists ++ map (λ e. nodes (expr_parts l.body e)) (take l.expr-index l.exprs)
