use Rattle.hir_ids.specs.Words.{pat_parts, nodes, AllInBody}
use Rattle.hir_ids.proofs.Words.{Passed}
use Rattle.hir_ids.proofs.body_ids.have_pat_parts.Given as goal

abbrev pub invariant-loop-pat : goal.invariant-loop-pat
invariant-loop-pat l = Passed (λ _ x. AllInBody l.body (nodes (pat_parts x))) l.pats l.body.pats l.pat-index
