use Rattle.std.proofs.Common.{◌≡◌, take}
use Rattle.infer_ctx.specs.Words.{completion}
use Rattle.infer_ctx.specs.Own.{said}
use Rattle.infer_ctx.proofs.resolve_all.report_failures.Given as goal

abbrev pub invariant-loop-seen : goal.invariant-loop-seen
invariant-loop-seen l = l.diagnostics ≡ said (completion l.table) (take l.seen-index l.seen-items) l.initial.diagnostics
