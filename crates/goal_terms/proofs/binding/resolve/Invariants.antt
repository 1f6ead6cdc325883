use Rattle.std.proofs.Common.{◌≡◌, drop}
use Rattle.goal_terms.specs.Words.{resolved}
use Rattle.goal_terms.specs.Own.{term_of, log_of}
use Rattle.goal_terms.proofs.binding.resolve.Given as goal

-- the bindings that are left, put into what is made
abbrev pub invariant-loop-binding : goal.invariant-loop-binding
invariant-loop-binding l = resolved (log_of (drop l.binding-index l.log)) (term_of l.made) ≡ resolved (log_of l.log) (term_of l.term)
