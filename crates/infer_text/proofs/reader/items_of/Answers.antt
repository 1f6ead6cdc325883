use Rattle.std.proofs.lemmas.Result.{err_from_is_err_and}
use Rattle.infer_text.proofs.Items.{goes_on, ends, is_done}
use Rattle.infer_text.proofs.reader.items_of.Goals as goal

pub returns-in_err-x : goal.returns-in_err-x
returns-in_err-x g c =
    let p = err_from_is_err_and c.from_residual.result c.from_residual.ensures.1 in
    rw (p.1, p.2) (ends g.T.FromData.reads c.in_err-x.field-0.0 c.loop-at.out.items c.loop-at.at c.args.values.now c.index-values-at.result _ c.loop-at-test.true c.index-values-at.is c.in_err-x.ensures c.loop-at.invariant)

pub loop-at-preserved : goal.loop-at-preserved
loop-at-preserved g c =
    rw c.in_ok-push.ensures.items (goes_on g.T.FromData.reads c.loop-at.out.items c.loop-at.at c.args.values.now c.index-values-at.result c.in_ok-x.x _ c.loop-at-test.true c.index-values-at.is c.in_ok-x.ensures c.loop-at.invariant)

pub returns : goal.returns
returns g c = is_done g.T.FromData.reads c.loop-at.out.items c.loop-at.at c.args.values.now _ c.loop-at-test.false c.loop-at.invariant
