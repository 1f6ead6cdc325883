use Rattle.std.proofs.Common.{◌∙◌, ap, refl, sym, take}
use Rattle.std.proofs.lemmas.Option.{slice_get_read}
use Rattle.infer_ctx.specs.Words.{completion}
use Rattle.infer_ctx.specs.Own.{said, said_of}
use Rattle.infer_ctx.proofs.Lists.{take_next}
use Rattle.infer_ctx.proofs.Said.{said-push}
use Rattle.infer_ctx.proofs.resolve_all.report_failures.Goals as goal

pub loop-seen-preserved : goal.loop-seen-preserved
loop-seen-preserved c =
    let all = c.as_slice-seen-items.result.now in
    let next = slice_get_read all _ c.loop-seen.seen-index _ refl c.loop-seen-test.true c.seen-item.is in
    c.in_ok-report_failure.ensures
    ∙ (ap (λ ds. said_of (completion c.args.table.now) ds c.seen-item.result) c.loop-seen.invariant
    ∙ (sym (said-push (completion c.args.table.now) (take c.loop-seen.seen-index all) c.seen-item.result c.args.diagnostics.now)
    ∙ ap (λ l. said (completion c.args.table.now) l c.args.diagnostics.now) (sym (take_next all c.loop-seen.seen-index c.seen-item.result next))))
