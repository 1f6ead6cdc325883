use Rattle.infer_goals.specs.Words.{system}
use Rattle.infer_goals.specs.Own.{AreOfAll, IsListedPending}
use Rattle.infer_goals.proofs.obligations.Obligations.about.Given as goal

abbrev pub invariant-loop-at : goal.invariant-loop-at
invariant-loop-at l = AreOfAll (IsListedPending (system l.sources.sources) l.sources.facts.limits.goal_depth l.table l.hole l.self.tree) 0 l.at l.found.items
