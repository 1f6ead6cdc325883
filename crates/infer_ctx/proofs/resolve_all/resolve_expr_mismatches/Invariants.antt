use Rattle.std.proofs.Common.{◌≡◌, take}
use Rattle.infer_ctx.specs.Words.{completion}
use Rattle.infer_ctx.specs.Own.{closed_mismatches}
use Rattle.infer_ctx.proofs.resolve_all.resolve_expr_mismatches.Given as goal

abbrev pub invariant-loop-i : goal.invariant-loop-i
invariant-loop-i l = l.resolved ≡ take l.i (closed_mismatches (completion l.table) l.asked l.noted)
