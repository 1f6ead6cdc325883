use Rattle.std.proofs.Common.{length, ◌-◌, ◌^◌}
use Rattle.infer_end.specs.Words.{given_of, bindings}
use Rattle.infer_end.proofs.Settling.{Rounds}
use Rattle.infer_end.proofs.select.select_and_read_on.Given as goal

abbrev pub invariant-settle : goal.invariant-settle
invariant-settle l = Rounds (given_of l.given) l.initial.context l.context

abbrev pub decreases-settle : goal.decreases-settle
decreases-settle l = 2 ^ 64 - length (bindings l.context.goals.table)
