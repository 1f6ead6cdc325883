use Rattle.std.specs.Prelude.{replicate}
use Rattle.std.proofs.Common.{◌≡◌, ◌++◌, None}
use Rattle.infer_ctx.proofs.context.put.Given as goal

abbrev pub invariant-loop : goal.invariant-loop
invariant-loop g l = l.entries ≡ l.fn.entries ++ replicate l.counter None
