use Rattle.hir_ids.specs.Words.{expr_parts, nodes, AllInBody}
use Rattle.hir_ids.proofs.Words.{Passed}
use Rattle.hir_ids.proofs.body_ids.have_expr_parts.Given as goal

abbrev pub invariant-loop-expr : goal.invariant-loop-expr
invariant-loop-expr l = Passed (λ _ x. AllInBody l.body (nodes (expr_parts l.body x))) l.exprs l.body.exprs l.expr-index
