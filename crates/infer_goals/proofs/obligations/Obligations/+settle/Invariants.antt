use Rattle.std.proofs.Common.{◌+◌, ◌*◌, length}
use Rattle.infer_goals.specs.Words.{system}
use Rattle.infer_goals.specs.Own.{AreKept}
use Rattle.infer_goals.proofs.Settling.{IsSettling}
use Rattle.infer_goals.proofs.obligations.Obligations.+settle.Given as goal

abbrev pub decreases-settle_below : goal.decreases-settle_below
decreases-settle_below l = 2 * l.depth

abbrev pub decreases-settle : goal.decreases-settle
decreases-settle l = 2 * l.depth + 1

abbrev pub invariant-settle-loop-here : goal.invariant-settle-loop-here
invariant-settle-loop-here l = record {
  kept : AreKept l.sources.facts (system l.sources.sources) l.table l.self;
  settling : IsSettling l.sources.facts (system l.sources.sources) l.bounded l.depth l.fn.table l.fn.self l.fn.numbers.items l.table l.self l.here.items l.below.items;
}

abbrev pub decreases-settle-loop-here : goal.decreases-settle-loop-here
decreases-settle-loop-here l = length l.here.items
