use Rattle.std.proofs.lemmas.List.{get_or_default}
use Rattle.infer_tuples.proofs.Words.{later}
use Rattle.infer_tuples.proofs.Tuples.{begins_tuple, comes_to_element, goes_past_element, ends_tuple}
use Rattle.infer_tuples.proofs.tuple.infer_elements.Goals as goal

pub loop-i-init : goal.loop-i-init
loop-i-init t c = rw c.new-tys.ensures (begins_tuple _ _ _ _ _ _ c.requires.before c.requires.expected c.requires.is)

pub infer_element-requires-clause-infers : goal.infer_element-requires-clause-infers
infer_element-requires-clause-infers t c = later _ _ _ _ _ _ c.loop-i.invariant.walk.follows.clock c.requires.infers

pub infer_element-requires-clause-before : goal.infer_element-requires-clause-before
infer_element-requires-clause-before t c =
    rw c.of_element.ensures (
    comes_to_element _ _ _ _ _ _ c.requires.before c.requires.expected _ _ _ c.loop-i.invariant _ (get_or_default _ _ _ _ c.loop-i-test.true) c.loop-i-test.true
    )

pub loop-i-preserved : goal.loop-i-preserved
loop-i-preserved t c =
    rw c.in_ok-push.ensures.ok (
    goes_past_element _ _ _ _ _ _ c.requires.before c.requires.expected _ _ _ c.loop-i.invariant _ (get_or_default _ _ _ _ c.loop-i-test.true) c.loop-i-test.true _ _
    c.in_ok-ty.ensures
    )

pub returns : goal.returns
returns t c = ends_tuple _ _ _ _ _ _ c.requires.before c.requires.expected _ _ _ c.loop-i.invariant c.requires.is c.loop-i-test.false
