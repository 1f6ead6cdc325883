use Rattle.std.proofs.Common.{arith, ◌<◌, ◌≡◌, refl, Some, slice_get, length}
use Rattle.std.proofs.lemmas.Option.{slice_get_read}
use Rattle.std.proofs.lemmas.List.{get_or_default}
use Rattle.infer_calls.proofs.Args.{begins_args, args_on, comes_to_arg, goes_past_arg, ends_args}
use Rattle.infer_calls.proofs.Words.{later}
use Rattle.infer_calls.proofs.call.check_arguments.Goals as goal

pub loop-i-init : goal.loop-i-init
loop-i-init g c = begins_args _ _ _ _ _ _ c.requires.before

pub read_for-requires-clause-of_body : goal.read_for-requires-clause-of_body
read_for-requires-clause-of_body g c = c.loop-i.invariant.walk.follows.of_body

pub read_for-requires-clause-sound : goal.read_for-requires-clause-sound
read_for-requires-clause-sound g c = c.loop-i.invariant.walk.follows.sound

pub infer_expr_coerce-requires-clause-infers : goal.infer_expr_coerce-requires-clause-infers
infer_expr_coerce-requires-clause-infers g c =
    let at = args_on _ _ _ _ _ _ _ _ _ c.loop-i.invariant c.in_ok-read_for.ensures.binds in
    later _ _ _ _ _ _ at.walk.follows.clock c.requires.infers

pub infer_expr_coerce-requires-clause-before : goal.infer_expr_coerce-requires-clause-before
infer_expr_coerce-requires-clause-before g c =
    let at = args_on _ _ _ _ _ _ _ _ _ c.loop-i.invariant c.in_ok-read_for.ensures.binds in
    let within : c.loop-i.i < length c.args.inputs.now = omega (arith, c.loop-i-test.true, c.requires.count) in
    let input : slice_get c.args.inputs.now c.loop-i.i ≡ Some c.index-inputs-i.result = slice_get_read c.args.inputs.now _ c.loop-i.i _ refl within c.index-inputs-i.is in
    comes_to_arg _ _ _ _ _ _ _ _ at _ (get_or_default _ _ _ _ c.loop-i-test.true) c.loop-i-test.true _ input

pub loop-i-preserved : goal.loop-i-preserved
loop-i-preserved g c =
    let at = args_on _ _ _ _ _ _ _ _ _ c.loop-i.invariant c.in_ok-read_for.ensures.binds in
    let within : c.loop-i.i < length c.args.inputs.now = omega (arith, c.loop-i-test.true, c.requires.count) in
    let input : slice_get c.args.inputs.now c.loop-i.i ≡ Some c.index-inputs-i.result = slice_get_read c.args.inputs.now _ c.loop-i.i _ refl within c.index-inputs-i.is in
    goes_past_arg _ _ _ _ _ _ _ _ at _ (get_or_default _ _ _ _ c.loop-i-test.true) c.loop-i-test.true _ input _ _ c.in_ok-infer_expr_coerce.ensures

pub returns : goal.returns
returns g c = ends_args _ _ _ _ _ _ _ _ c.loop-i.invariant c.requires.count c.loop-i-test.false
