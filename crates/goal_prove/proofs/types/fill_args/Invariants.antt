use Rattle.std.proofs.Common.{◌≡◌}
use Rattle.goal_prove.specs.Words.{log_of, term_of}
use Rattle.goal_prove.specs.Own.{fill_args}
use Rattle.goal_prove.proofs.types.fill_args.Given as goal

-- those of the parameters before
abbrev pub invariant-loop-number : goal.invariant-loop-number
invariant-loop-number l = l.args ≡ fill_args (log_of l.fills) (term_of l.head) l.number
