use Rattle.std.proofs.Common.{◌∙◌, sym, subst, Some, None}
use Rattle.infer_calls.specs.Words.{given_of, schedule_of, IsSigIfItem}
use Rattle.infer_calls.specs.Own.{BeforeInputs}
use Rattle.infer_calls.proofs.CallWalk.{comes_to_args, own_sig, output_fine, takes_inputs, ends_call}
use Rattle.infer_calls.proofs.Callees.{items_callable, known_fine, callee_known}
use Rattle.infer_calls.proofs.Uncallable.{comes_to_uncallable}
use Rattle.infer_calls.proofs.call.check_call.Goals as goal

pub callable_sig-requires : goal.callable_sig-requires
callable_sig-requires o c =
    let g = given_of c.args.given.now in
    let d = c.requires.before.callee in
    items_callable g.scope _ (known_fine g (schedule_of c.args.given.now) c.requires.before.called _ _ _ _ d.typed d.known d.made).heads

pub check_call_arguments-requires-clause-before : goal.check_call_arguments-requires-clause-before
check_call_arguments-requires-clause-before o c =
    let g = given_of c.args.given.now in
    let s = schedule_of c.args.given.now in
    let b = c.requires.before in
    let sig : IsSigIfItem c.args.given.now.facts.now c.args.callee_ty.now (Some c.in-Some.field-0) = subst (λ o. IsSigIfItem c.args.given.now.facts.now c.args.callee_ty.now o) c.in-Some.is c.in_ok-inputs.ensures in
    let called = callee_known g s _ _ _ _ _ b.callee.typed b.callee.known b.callee.made b.within.ready sig.0 in
    let takes : BeforeInputs g s c.args.call_expr c.args.args.now c.in-Some.field-0.inputs c.args.context.now = takes_inputs g s _ _ _ _ (comes_to_args g s _ _ _ _ b.within b.is_call _ _ called) c.in-Some.field-0 sig.1 in
    subst (λ xs. BeforeInputs g s c.args.call_expr c.args.args.now xs c.args.context.now) (sym c.as_slice.ensures) takes

pub returns-in_ok-check_call_arguments-in-Some : goal.returns-in_ok-check_call_arguments-in-Some
returns-in_ok-check_call_arguments-in-Some o c =
    let g = given_of c.args.given.now in
    let s = schedule_of c.args.given.now in
    let b = c.requires.before in
    let sig : IsSigIfItem c.args.given.now.facts.now c.args.callee_ty.now (Some c.in-Some.field-0) = subst (λ o. IsSigIfItem c.args.given.now.facts.now c.args.callee_ty.now o) c.in-Some.is c.in_ok-inputs.ensures in
    let called = callee_known g s _ _ _ _ _ b.callee.typed b.callee.known b.callee.made b.within.ready sig.0 in
    let before = comes_to_args g s _ _ _ _ b.within b.is_call _ _ called in
    let own = own_sig g s _ _ _ _ before c.in-Some.field-0 sig.1 in
    ends_call g s _ _ _ _ before _ _ _ (c.as_slice.ensures ∙ own.inputs) own.output c.in_ok-check_call_arguments-in-Some.ensures.done

pub infer_uncallable-requires-clause-before : goal.infer_uncallable-requires-clause-before
infer_uncallable-requires-clause-before o c =
    let b = c.requires.before in
    let none : IsSigIfItem c.args.given.now.facts.now c.args.callee_ty.now None = subst (λ o. IsSigIfItem c.args.given.now.facts.now c.args.callee_ty.now o) c.in-None.is c.in_ok-inputs.ensures in
    comes_to_uncallable (given_of c.args.given.now) (schedule_of c.args.given.now) _ _ _ _ b.within b.is_call _ _ _ b.callee.typed b.callee.known b.callee.made none

pub check_call_arguments-requires-clause-output : goal.check_call_arguments-requires-clause-output
check_call_arguments-requires-clause-output o c =
    let g = given_of c.args.given.now in
    let s = schedule_of c.args.given.now in
    let b = c.requires.before in
    let sig : IsSigIfItem c.args.given.now.facts.now c.args.callee_ty.now (Some c.in-Some.field-0) = subst (λ o. IsSigIfItem c.args.given.now.facts.now c.args.callee_ty.now o) c.in-Some.is c.in_ok-inputs.ensures in
    let called = callee_known g s _ _ _ _ _ b.callee.typed b.callee.known b.callee.made b.within.ready sig.0 in
    let before = comes_to_args g s _ _ _ _ b.within b.is_call _ _ called in
    output_fine g s _ _ _ _ before _ (own_sig g s _ _ _ _ before c.in-Some.field-0 sig.1).output
