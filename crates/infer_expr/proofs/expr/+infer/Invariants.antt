-- What is left of the clock; a call of the closure stands just above the walk that it makes.
use Rattle.std.proofs.Common.{◌+◌, ◌-◌, ◌*◌, ◌^◌}
use Rattle.infer_expr.proofs.expr.+infer.Given as goal

abbrev pub decreases-infer_expr_inner : goal.decreases-infer_expr_inner
decreases-infer_expr_inner l = 2 * (2 ^ 64 - l.context.now.clock)

abbrev pub decreases-infer : goal.decreases-infer
decreases-infer l = 2 * (2 ^ 64 - l.context.now.clock) + 1
