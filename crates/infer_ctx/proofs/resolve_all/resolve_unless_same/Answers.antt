use Rattle.std.proofs.Common.{◌∙◌, Some, sym}
use Rattle.std.proofs.lemmas.Result.{IfOk-weaker}
use Rattle.infer_ctx.specs.Words.{completion, mismatch}
use Rattle.infer_ctx.proofs.UnderClosings.{asked_alike, asked_unlike}
use Rattle.infer_ctx.proofs.resolve_all.resolve_unless_same.Goals as goal

pub returns-then-is_same : goal.returns-then-is_same
returns-then-is_same c =
    IfOk-weaker c.resolve_mismatch.result _ _ (λ made is. is
    ∙ sym (asked_alike (completion c.args.table.now) c.args.asked.now c.args.noted.now (sym c.in_ok-expected.ensures.made ∙ (c.is_same.ensures.0 c.if-is_same.true ∙ c.in_ok-actual.ensures.made)))) c.resolve_mismatch.ensures

pub returns-else-is_same : goal.returns-else-is_same
returns-else-is_same c =
    (λ i. Some (mismatch (c.in_ok-expected.ensures.made i) (c.in_ok-actual.ensures.made i)))
    ∙ sym (asked_unlike (completion c.args.table.now) c.args.asked.now c.args.noted.now (
    λ same. (let yes = c.is_same.ensures.1 (c.in_ok-expected.ensures.made ∙ (same ∙ sym c.in_ok-actual.ensures.made)) in let no = c.if-is_same.false in absurd (cc))
    ))
