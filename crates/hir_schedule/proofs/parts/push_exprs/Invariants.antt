use Rattle.std.proofs.Common.{◌≡◌, ◌++◌, take, map}
use Rattle.hir_types.specs.declared.ids.ExprOrPatId.TheVariants.{ExprId}
use Rattle.hir_schedule.proofs.parts.push_exprs.Given as goal

abbrev pub invariant-loop-expr : goal.invariant-loop-expr
invariant-loop-expr l = l.out.items ≡ l.fn.out.items ++ map ExprId (take l.expr-index l.exprs)
