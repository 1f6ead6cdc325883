use Rattle.std.proofs.Common.{◌≡◌, drop}
use Rattle.goal_terms.specs.Words.{found}
use Rattle.goal_terms.specs.Own.{log_of}
use Rattle.goal_terms.proofs.binding.find.Given as goal

-- no binding before this one is of the hole
abbrev pub invariant-loop-binding : goal.invariant-loop-binding
invariant-loop-binding l = found (log_of (drop l.binding-index l.bindings)) l.hole ≡ found (log_of l.bindings) l.hole
