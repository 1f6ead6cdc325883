use Rattle.std.proofs.Common.{◌≡◌, drop}
use Rattle.infer_unify.specs.Words.{pair, resolved, term_of, log_of}
use Rattle.infer_unify.proofs.known.known_pair.Given as goal

-- the bindings that are left, put into what is made
abbrev pub invariant-loop-binding : goal.invariant-loop-binding
invariant-loop-binding l = resolved (log_of (drop l.binding-index l.log)) (term_of l.made) ≡ resolved (log_of l.log) (pair (term_of l.fn.first) (term_of l.rest))
