use Rattle.std.proofs.lemmas.Result.{IfOk-weaker}
use Rattle.infer_calls.proofs.Words.{kind_for_any, within_for_any, fine_expectation_grown, later}
use Rattle.infer_calls.proofs.CallWalk.{comes_to_callee, call_then}
use Rattle.infer_calls.proofs.call.infer_call.Goals as goal

pub infer_callee-requires-clause-before : goal.infer_callee-requires-clause-before
infer_callee-requires-clause-before g c = comes_to_callee _ _ _ _ _ _ (within_for_any _ _ _ _ _ c.requires.before) c.requires.is

pub check_call-requires-clause-infers : goal.check_call-requires-clause-infers
check_call-requires-clause-infers g c = later _ _ _ _ _ _ c.in_ok-callee_ty.ensures.typed.follows.clock c.requires.infers

pub check_call-requires-clause-before : goal.check_call-requires-clause-before
check_call-requires-clause-before g c = record {
  called = c.args.callee;
  before = c.args.context.now;
  within = within_for_any _ _ _ _ _ c.requires.before;
  is_call = c.requires.is;
  callee = c.in_ok-callee_ty.ensures;
}

pub check_call-requires-clause-expected : goal.check_call-requires-clause-expected
check_call-requires-clause-expected g c = fine_expectation_grown _ _ _ _ c.in_ok-callee_ty.ensures.typed.follows.grew c.requires.before.expected

pub returns : goal.returns
returns g c = IfOk-weaker c.check_call.result _ _ (λ ty done. kind_for_any _ _ _ _ _ _ _ (call_then _ _ _ _ _ _ _ _ _ c.in_ok-callee_ty.ensures.typed done)) c.check_call.ensures
