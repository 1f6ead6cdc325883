use Rattle.std.proofs.Common.{length, ◌-◌, ◌^◌}
use Rattle.infer_obligations.specs.Words.{given_of, bindings}
use Rattle.infer_obligations.proofs.ReadNeeds.{TimesRead}
use Rattle.infer_obligations.proofs.read.read_all.Given as goal

abbrev pub invariant-read : goal.invariant-read
invariant-read l = TimesRead (given_of l.given) l.initial.context l.context

abbrev pub decreases-read : goal.decreases-read
decreases-read l = 2 ^ 64 - length (bindings l.context.goals.table)
