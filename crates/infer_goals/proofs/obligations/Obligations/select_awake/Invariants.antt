use Rattle.std.proofs.Common.{true, ◌-◌}
use Rattle.infer_goals.specs.Words.{system}
use Rattle.infer_goals.specs.Own.{AreKept, Went, HasAllSince}
use Rattle.infer_goals.proofs.obligations.Obligations.select_awake.Given as goal

abbrev pub invariant-round : goal.invariant-round
invariant-round l = record {
  kept : AreKept l.sources.facts (system l.sources.sources) l.table l.self;
  went : Went l.sources.facts (system l.sources.sources) true l.fn.table l.fn.self l.table l.self;
  since : HasAllSince (system l.sources.sources) l.table l.self;
}

abbrev pub decreases-round : goal.decreases-round
decreases-round l = l.sources.facts.limits.goal_steps - l.self.selected
