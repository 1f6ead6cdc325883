use Rattle.std.proofs.Common.{◌∙◌, sym, subst}
use Rattle.hir_ids.specs.Words.{pat_parts, nodes, AllInBody}
use Rattle.hir_ids.proofs.Words.{passed_none, passed_more, not_all}
use Rattle.hir_ids.proofs.body_ids.have_pat_parts.Goals as goal

pub loop-pat-init : goal.loop-pat-init
loop-pat-init c = passed_none _ _ _ c.requires

pub loop-pat-preserved : goal.loop-pat-preserved
loop-pat-preserved c =
    passed_more _ _ _ c.loop-pat.pat-index c.pat-item.result c.loop-pat.invariant c.loop-pat-test.true c.pat-item.is
    (subst (λ xs. AllInBody c.args.body.now xs) (c.deref.ensures.value ∙ c.in_ok-nodes.ensures) (c.are_in_body.ensures.0 c.if-not-are_in_body.false))

pub returns-then-not-are_in_body : goal.returns-then-not-are_in_body
returns-then-not-are_in_body c =
    not_all (λ _ x. AllInBody c.args.body.now (nodes (pat_parts x))) _ _ c.loop-pat.pat-index c.pat-item.result c.are_in_body.result c.loop-pat.invariant c.loop-pat-test.true c.pat-item.is
    (λ all. c.are_in_body.ensures.1 (subst (λ xs. AllInBody c.args.body.now xs) (sym (c.deref.ensures.value ∙ c.in_ok-nodes.ensures)) all)) c.if-not-are_in_body.true
