use Rattle.std.proofs.Common.{take}
use Rattle.infer_obligations.specs.Words.{scope_of, system, EachIsKnownAs}
use Rattle.infer_obligations.proofs.own.known_tys.Given as goal

abbrev pub invariant-loop-type_ref : goal.invariant-loop-type_ref
invariant-loop-type_ref l =
    EachIsKnownAs (scope_of l.facts l.def) (system l.goals.sources.sources) l.goals.sources.facts.limits.goal_depth l.facts.types (take l.type_ref-index l.written) l.known.items
