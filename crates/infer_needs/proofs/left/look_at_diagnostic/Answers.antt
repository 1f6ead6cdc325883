use Rattle.std.proofs.Common.{◌∙◌, ap}
use Rattle.std.specs.Prelude.{Some}
use Rattle.std.proofs.lemmas.Result.{on_ok_weaker}
use Rattle.infer_needs.specs.Words.{system}
use Rattle.infer_needs.specs.Own.{StandsInDiagnostic}
use Rattle.infer_needs.proofs.Leaving.{lists_each, only_called}
use Rattle.infer_needs.proofs.left.look_at_diagnostic.Goals as goal

pub returns-in-ExpectedFunction : goal.returns-in-ExpectedFunction
returns-in-ExpectedFunction c =
    let raw = c.args.sources.now.facts in
    let item = c.args.sources.now.item in
    let f = system c.args.sources.now.sources in
    let called = c.in-ExpectedFunction.ty in
    let is = c.in-Some.is ∙ ap (λ x. Some x) c.in-ExpectedFunction.is in
    on_ok_weaker c.look_at_type.result (lists_each raw item f StandsInDiagnostic c.args.entry.now called c.args.proofs.now.items c.look_at_type.new.proofs.items c.args.found.now c.look_at_type.new.found
    (λ t stands. only_called raw item f c.args.entry.now c.in-ExpectedFunction.call_expr called t is stands)) c.look_at_type.ensures
