use Rattle.std.proofs.Common.{◌∙◌, sym, subst}
use Rattle.hir_ids.specs.Words.{expr_parts, nodes, AllInBody}
use Rattle.hir_ids.proofs.Words.{passed_none, passed_more, not_all}
use Rattle.hir_ids.proofs.body_ids.have_expr_parts.Goals as goal

pub loop-expr-init : goal.loop-expr-init
loop-expr-init c = passed_none _ _ _ c.requires

pub loop-expr-preserved : goal.loop-expr-preserved
loop-expr-preserved c =
    passed_more _ _ _ c.loop-expr.expr-index c.expr-item.result c.loop-expr.invariant c.loop-expr-test.true c.expr-item.is
    (subst (λ xs. AllInBody c.args.body.now xs) (c.deref.ensures.value ∙ c.in_ok-nodes.ensures) (c.are_in_body.ensures.0 c.if-not-are_in_body.false))

pub returns-then-not-are_in_body : goal.returns-then-not-are_in_body
returns-then-not-are_in_body c =
    not_all (λ _ x. AllInBody c.args.body.now (nodes (expr_parts c.args.body.now x))) _ _ c.loop-expr.expr-index c.expr-item.result c.are_in_body.result c.loop-expr.invariant c.loop-expr-test.true c.expr-item.is
    (λ all. c.are_in_body.ensures.1 (subst (λ xs. AllInBody c.args.body.now xs) (sym (c.deref.ensures.value ∙ c.in_ok-nodes.ensures)) all)) c.if-not-are_in_body.true
