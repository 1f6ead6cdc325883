use Rattle.std.proofs.Common.{◌∙◌, ap, refl}
use Rattle.std.proofs.lemmas.List.{take_all}
use Rattle.std.proofs.lemmas.Option.{slice_get_read}
use Rattle.infer_ctx.specs.Words.{completion}
use Rattle.infer_ctx.specs.Own.{asked_or_noted, closed_mismatches, entry_of}
use Rattle.infer_ctx.proofs.UnderClosings.{closed_next, length-closed_mismatches}
use Rattle.infer_ctx.proofs.resolve_all.resolve_expr_mismatches.Goals as goal

pub loop-i-preserved : goal.loop-i-preserved
loop-i-preserved c =
    c.in_ok-push.ensures.ok
    ∙ closed_next (completion c.args.table.now) c.args.asked.now c.args.noted.now c.loop-i.i c.index-noted-i.result c.in_ok-made.made c.loop-i.resolved c.loop-i.invariant
    (slice_get_read c.args.noted.now _ c.loop-i.i _ refl c.loop-i-test.true c.index-noted-i.is)
    (c.in_ok-made.ensures ∙ ap (λ o. asked_or_noted (completion c.args.table.now) (entry_of o) c.index-noted-i.result) c.get.ensures.value)

pub returns : goal.returns
returns c =
    c.loop-i.invariant
    ∙ take_all c.loop-i.i (closed_mismatches (completion c.args.table.now) c.args.asked.now c.args.noted.now) (rw (length-closed_mismatches (completion c.args.table.now) c.args.asked.now c.args.noted.now) c.loop-i-test.false)
