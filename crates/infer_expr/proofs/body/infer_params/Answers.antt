use Rattle.std.proofs.Common.{◌<◌, length, arith}
use Rattle.std.proofs.lemmas.List.{get_or_default}
use Rattle.infer_expr.proofs.ParamsWalk.{begins_params, comes_to_param, goes_past_param, ends_params}
use Rattle.infer_expr.proofs.body.infer_params.Goals as goal

pub loop-i-init : goal.loop-i-init
loop-i-init c = begins_params _ _ _ c.requires

pub input_ty-requires : goal.input_ty-requires
input_ty-requires c =
    let k : c.loop-i.i < length c.args.given.now.body.now.params = rw c.as_slice-params.ensures at c.loop-i-test.true in
    omega (arith, k, c.requires.count)

pub infer_top_pat-requires : goal.infer_top_pat-requires
infer_top_pat-requires c =
    let k : c.loop-i.i < length c.args.given.now.body.now.params = rw c.as_slice-params.ensures at c.loop-i-test.true in
    rw (c.as_slice-params.ensures) (
    comes_to_param _ _ _ _ _ c.loop-i.invariant c.requires k _ c.in_ok-ty.ensures _ (get_or_default _ _ _ _ k)
    )

pub loop-i-preserved : goal.loop-i-preserved
loop-i-preserved c =
    let k : c.loop-i.i < length c.args.given.now.body.now.params = rw c.as_slice-params.ensures at c.loop-i-test.true in
    goes_past_param _ _ _ _ _ c.loop-i.invariant c.requires k _ c.in_ok-ty.ensures _ (get_or_default _ _ _ _ k) _
    (rw (c.as_slice-params.ensures) at c.in_ok-infer_top_pat.ensures)

pub returns : goal.returns
returns c = ends_params _ _ _ _ _ c.loop-i.invariant (rw c.as_slice-params.ensures at c.loop-i-test.false)
