use Rattle.infer_obligations.specs.Words.{scope_of, IsSystemOf, system}
use Rattle.infer_obligations.proofs.LetsKnown.{AreNotedTo}
use Rattle.infer_obligations.proofs.lets.let_types.Given as goal

-- the first of them are noted
abbrev pub invariant-loop-alias : goal.invariant-loop-alias
invariant-loop-alias l =
    AreNotedTo (scope_of l.facts l.def) (system l.goals.sources.sources) l.goals.sources.facts.limits.goal_depth l.facts.types
    (IsSystemOf l.goals.sources.facts l.goals.sources.item (system l.goals.sources.sources)) l.alias-items l.alias-index l.known
