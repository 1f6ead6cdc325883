use Rattle.std.proofs.Common.{◌≡◌, take}
use Rattle.goal_terms.specs.Own.{log_of, resolved_all}
use Rattle.goal_terms.proofs.common.resolve_all.Given as goal

abbrev pub invariant-loop-name : goal.invariant-loop-name
invariant-loop-name l = log_of l.made.items ≡ resolved_all (log_of l.log) (log_of (take l.name-index l.names))
