use Rattle.std.proofs.Common.{◌≡◌, ◌∙◌, Some, sym, subst}
use Rattle.infer_ctx.specs.Words.{RawFn, fn_aliases, opened}
use Rattle.infer_ctx.specs.Own.{IsFnSig, written_at}
use Rattle.infer_ctx.proofs.given.GivenBody.fn_sig.Goals as goal

pub returns : goal.returns
returns c x at =
    let types = c.args.self.now.facts.now.types in
    let f = c.fn_-function.result.now in
    let xs = c.args.args.now in
    let same : f ≡ x = (let both : Some f ≡ Some x = sym c.fn_-function.ensures ∙ at in cc) in
    let aliases : c.deref-2.result.now ≡ fn_aliases types f = c.deref-2.ensures.value ∙ (c.in_ok-aliases.ensures ∙ (λ i. fn_aliases (c.types.ensures i) f)) in
    subst (λ (y : RawFn). IsFnSig types y xs (record { inputs = c.in_ok-inputs.inputs; output = c.in_ok-output.output })) same (record {
      inputs = c.in_ok-inputs.ensures;
      output = c.in_ok-output.ensures ∙ (λ i. written_at (opened (c.len.ensures i) (aliases i) types) xs f.output);
    })
