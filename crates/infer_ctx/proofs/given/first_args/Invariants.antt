use Rattle.std.proofs.Common.{◌≡◌, take}
use Rattle.infer_ctx.proofs.given.first_args.Given as goal

abbrev pub invariant-loop-at : goal.invariant-loop-at
invariant-loop-at l = l.copies ≡ take l.at l.args
