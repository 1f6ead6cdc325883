use Rattle.std.proofs.Common.{sym, subst}
use Rattle.std.proofs.lemmas.Result.{IfOk-weaker}
use Rattle.infer_tuples.specs.Words.{scope_in, IsFineExpectation}
use Rattle.infer_tuples.proofs.Words.{within_for_any, kind_for_any}
use Rattle.infer_tuples.proofs.Elements.{known_fine}
use Rattle.infer_tuples.proofs.tuple.infer_tuple.Goals as goal

pub infer_elements-requires-clause-before : goal.infer_elements-requires-clause-before
infer_elements-requires-clause-before t c = within_for_any _ _ _ _ _ c.requires.before

pub infer_elements-requires-clause-expected : goal.infer_elements-requires-clause-expected
infer_elements-requires-clause-expected t c =
    let sc = scope_in c.args.given.now in
    subst (λ x. IsFineExpectation sc c.args.context.now.goals.table x) (sym c.known_as.ensures)
    (known_fine sc _ _ _ c.lawful.ensures.made c.requires.before.state.sound.bound c.in_ok-known.ensures c.requires.before.expected)

pub returns : goal.returns
returns t c = IfOk-weaker c.infer_elements.result _ _ (λ ty done. kind_for_any _ _ _ _ _ _ _ done) c.infer_elements.ensures
