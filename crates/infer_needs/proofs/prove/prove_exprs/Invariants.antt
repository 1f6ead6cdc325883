use Rattle.std.proofs.Common.{[]}
use Rattle.infer_needs.specs.Words.{system, scope_of}
use Rattle.infer_needs.specs.Own.{AreAllJudged, FitOrAreSaid, ListsAnswers, AddsRootsOf, first_needs, AreAllListed}
use Rattle.infer_needs.proofs.prove.prove_exprs.Given as goal

abbrev pub invariant-loop-at : goal.invariant-loop-at
invariant-loop-at l = record {
  judged : AreAllJudged l.sources.facts (scope_of l.sources.facts l.def) (system l.sources.sources) l.body l.table l.at l.proofs.items l.found l.gaps;
  fit : FitOrAreSaid l.sources.facts l.sources.item (system l.sources.sources) (first_needs l.sources.facts l.body l.table l.at) l.found;
  written : AreAllListed l.sources.facts l.fn.def l.body l.table (system l.sources.sources) l.found;
  told : ListsAnswers (system l.sources.sources) l.sources.facts.limits.goal_depth (first_needs l.sources.facts l.body l.table l.at) l.fn.told.items l.told.items;
  roots : AddsRootsOf l.sources.facts l.sources.item (system l.sources.sources) (first_needs l.sources.facts l.body l.table l.at) [] l.proofs.items;
}
