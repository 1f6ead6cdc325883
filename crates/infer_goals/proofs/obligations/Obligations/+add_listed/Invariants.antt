use Rattle.std.proofs.Common.{◌-◌}
use Rattle.infer_goals.specs.Words.{system}
use Rattle.infer_goals.specs.Own.{Adds, AreOfAll, AreListed}
use Rattle.infer_goals.proofs.obligations.Obligations.+add_listed.Given as goal

abbrev pub decreases-add_listed : goal.decreases-add_listed
decreases-add_listed l = l.levels

abbrev pub invariant-loop-child : goal.invariant-loop-child
invariant-loop-child l =
    Adds (AreOfAll (AreListed (system l.sources.sources) l.sources.facts.limits.goal_depth l.table l.hole l.self.tree l.below) l.first (l.child - l.first)) l.initial.found.items l.found.items
