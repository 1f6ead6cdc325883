use Rattle.std.proofs.Common.{subst}
use Rattle.infer_calls.specs.Words.{expected_type, given_of, UnifiesAll}
use Rattle.infer_calls.proofs.Words.{still}
use Rattle.infer_calls.specs.Own.{FindsInputs}
use Rattle.infer_calls.proofs.ExpectedInputs.{expected_met, wanted_fine}
use Rattle.infer_calls.proofs.inputs.expect_inputs.Goals as goal

pub unify_all-requires-clause-tys : goal.unify_all-requires-clause-tys
unify_all-requires-clause-tys c = still (given_of c.args.given.now) _ _ _ c.in_ok-wanted.ensures.binds c.requires.inputs

pub unify_all-requires-clause-others : goal.unify_all-requires-clause-others
unify_all-requires-clause-others c = rw c.as_slice.ensures (wanted_fine (given_of c.args.given.now) _ _ _ _ c.in-Some.wanted _ _ c.in_ok-wanted.ensures c.in-Some.is)

pub returns-in_ok-unify_all-in-Some : goal.returns-in_ok-unify_all-in-Some
returns-in_ok-unify_all-in-Some c =
    let g = given_of c.args.given.now in
    let x = expected_type c.args.expected in
    let inputs = c.args.inputs.now in
    let mid = c.expected_inputs_for_output.new.context in
    expected_met g x inputs c.args.output.now c.in-Some.wanted c.args.context.now mid c.unify_all.new.context
    (subst (λ o. FindsInputs g x inputs c.args.output.now o c.args.context.now mid) c.in-Some.is c.in_ok-wanted.ensures)
    (subst (λ us. UnifiesAll g inputs us mid c.unify_all.new.context) c.as_slice.ensures c.in_ok-unify_all-in-Some.ensures)
