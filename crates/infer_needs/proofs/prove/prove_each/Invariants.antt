use Rattle.std.proofs.Common.{◌≡◌, ◌++◌, length, map}
use Rattle.std.specs.Vec.Iter.{into_iter_items, into_iter_len}
use Rattle.infer_needs.specs.Words.{system, asked_goal, scope_of}
use Rattle.infer_needs.specs.Own.{AreJudged, ListsAnswers, AddsRootsOf}
use Rattle.infer_needs.proofs.prove.prove_each.Given as goal

abbrev pub invariant-loop-goal : goal.invariant-loop-goal
invariant-loop-goal l = record {
  items : l.yielded ++ into_iter_items l.goal-iterator ≡ into_iter_items l.initial.goal-iterator;
  long : into_iter_len l.goal-iterator ≡ length (into_iter_items l.goal-iterator);
  judged : AreJudged l.sources.facts (scope_of l.sources.facts l.def) (system l.sources.sources) l.node (map asked_goal l.yielded) l.fn.proofs.items l.proofs.items l.fn.found l.found l.gaps;
  told : ListsAnswers (system l.sources.sources) l.sources.facts.limits.goal_depth (map asked_goal l.yielded) l.fn.told.items l.told.items;
  roots : AddsRootsOf l.sources.facts l.sources.item (system l.sources.sources) (map asked_goal l.yielded) l.fn.proofs.items l.proofs.items;
}
