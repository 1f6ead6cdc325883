use Rattle.hir_facts.specs.Own.{IsPlainExpr}
use Rattle.hir_facts.proofs.Broken.{Passed}
use Rattle.hir_facts.proofs.plain_body.are_plain_exprs.Given as goal

abbrev pub ghost-is_plain_expr : goal.ghost-is_plain_expr
ghost-is_plain_expr g a = g.count

abbrev pub invariant-loop-expr : goal.invariant-loop-expr
invariant-loop-expr g l = Passed (λ e x. IsPlainExpr l.facts g.count x) l.exprs l.fn.exprs l.expr-index
