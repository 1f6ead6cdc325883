use Rattle.std.proofs.Common.{arith, ◌≡◌, ap, sym, subst}
use Rattle.infer_calls.specs.Words.{given_of, schedule_of}
use Rattle.infer_calls.specs.Own.{BeforeLoose, LooseDone}
use Rattle.infer_calls.proofs.CallWalk.{comes_to_others, ends_others}
use Rattle.infer_calls.proofs.Words.{later}
use Rattle.infer_calls.proofs.call.check_miscounted_arguments.Goals as goal

pub infer_arguments-requires-clause-infers : goal.infer_arguments-requires-clause-infers
infer_arguments-requires-clause-infers o c =
    let same : c.push_diagnostic.new.self.clock ≡ c.args.context.now.clock = ap (λ k. k.clock) c.push_diagnostic.ensures in
    later _ _ _ _ _ _ (omega (arith, same)) c.requires.infers

pub infer_arguments-requires-clause-before : goal.infer_arguments-requires-clause-before
infer_arguments-requires-clause-before o c =
    subst (λ k. BeforeLoose (given_of c.args.given.now) (schedule_of c.args.given.now) c.args.call_expr c.args.args.now c.args.inputs.now k) (sym c.push_diagnostic.ensures)
    (comes_to_others _ _ _ _ _ _ c.requires.before c.requires.differ)

pub returns-clause-done : goal.returns-clause-done
returns-clause-done o c =
    let g = given_of c.args.given.now in
    let s = schedule_of c.args.given.now in
    ends_others g s _ _ _ _ c.requires.before c.requires.differ _ (subst (λ k. LooseDone g s c.args.call_expr c.args.args.now c.args.inputs.now k c.infer_arguments.new.context) c.push_diagnostic.ensures c.in_ok-infer_arguments.ensures)
