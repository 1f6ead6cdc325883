use Rattle.infer_needs.specs.Words.{system, scope_of}
use Rattle.infer_needs.specs.Own.{ArePatsJudged, ListsAnswers, AddsRootsOf, first_pat_needs}
use Rattle.infer_needs.proofs.prove.prove_pats.Given as goal

abbrev pub invariant-loop-at : goal.invariant-loop-at
invariant-loop-at l = record {
  judged : ArePatsJudged l.sources.facts (scope_of l.sources.facts l.def) (system l.sources.sources) l.table l.at l.fn.proofs.items l.proofs.items l.fn.found l.found l.gaps;
  told : ListsAnswers (system l.sources.sources) l.sources.facts.limits.goal_depth (first_pat_needs l.sources.facts l.table l.at) l.fn.told.items l.told.items;
  roots : AddsRootsOf l.sources.facts l.sources.item (system l.sources.sources) (first_pat_needs l.sources.facts l.table l.at) l.fn.proofs.items l.proofs.items;
}
