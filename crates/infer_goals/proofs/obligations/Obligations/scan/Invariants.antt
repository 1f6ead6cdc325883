use Rattle.std.proofs.Common.{◌≡◌, ◌++◌, length}
use Rattle.std.specs.Vec.Iter.{into_iter_items, into_iter_len}
use Rattle.infer_goals.specs.Words.{system}
use Rattle.infer_goals.specs.Own.{AreKept, AreScanned}
use Rattle.infer_goals.proofs.obligations.Obligations.scan.Given as goal

abbrev pub invariant-loop-at : goal.invariant-loop-at
invariant-loop-at l = record {
  items : l.yielded ++ into_iter_items l.at-iterator ≡ into_iter_items l.initial.at-iterator;
  long : into_iter_len l.at-iterator ≡ length (into_iter_items l.at-iterator);
  kept : AreKept l.sources.facts (system l.sources.sources) l.table l.self;
  scanned : AreScanned l.sources.facts (system l.sources.sources) l.bounded l.fn.table l.fn.self l.yielded l.fn.below.items l.table l.self l.left.items l.below.items;
}
