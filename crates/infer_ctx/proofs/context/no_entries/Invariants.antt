use Rattle.std.specs.Prelude.{replicate}
use Rattle.std.proofs.Common.{◌≡◌, None}
use Rattle.infer_ctx.proofs.context.no_entries.Given as goal

abbrev pub invariant-loop : goal.invariant-loop
invariant-loop g l = l.entries ≡ replicate l.counter None
