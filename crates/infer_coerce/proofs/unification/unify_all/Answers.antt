use Rattle.std.proofs.Common.{arith, ◌≡◌, ◌<◌, refl, Some, slice_get, length}
use Rattle.std.proofs.lemmas.Option.{slice_get_read}
use Rattle.infer_coerce.specs.Words.{given_of}
use Rattle.infer_coerce.proofs.Settled.{begins_unify, ends_unify, goes_past_unify, still_fine}
use Rattle.infer_coerce.proofs.unification.unify_all.Goals as goal

pub loop-i-init : goal.loop-i-init
loop-i-init c = begins_unify _ _ _ _ c.requires.of_body c.requires.sound

pub unify-requires-clause-of_body : goal.unify-requires-clause-of_body
unify-requires-clause-of_body c = c.loop-i.invariant.binds.follows.of_body

pub unify-requires-clause-sound : goal.unify-requires-clause-sound
unify-requires-clause-sound c = c.loop-i.invariant.binds.follows.sound

pub unify-requires-clause-left : goal.unify-requires-clause-left
unify-requires-clause-left c =
    let here : slice_get c.args.tys.now c.loop-i.i ≡ Some c.index-tys-i.result = slice_get_read c.args.tys.now _ c.loop-i.i _ refl c.loop-i-test.true c.index-tys-i.is in
    still_fine (given_of c.args.given.now) _ _ _ _ _ c.loop-i.invariant.binds c.requires.tys here

pub unify-requires-clause-right : goal.unify-requires-clause-right
unify-requires-clause-right c =
    let within : c.loop-i.i < length c.args.others.now = omega (arith, c.loop-i-test.true, c.requires.count) in
    let there : slice_get c.args.others.now c.loop-i.i ≡ Some c.index-others-i.result = slice_get_read c.args.others.now _ c.loop-i.i _ refl within c.index-others-i.is in
    still_fine (given_of c.args.given.now) _ _ _ _ _ c.loop-i.invariant.binds c.requires.others there

pub loop-i-preserved : goal.loop-i-preserved
loop-i-preserved c =
    let within : c.loop-i.i < length c.args.others.now = omega (arith, c.loop-i-test.true, c.requires.count) in
    let here : slice_get c.args.tys.now c.loop-i.i ≡ Some c.index-tys-i.result = slice_get_read c.args.tys.now _ c.loop-i.i _ refl c.loop-i-test.true c.index-tys-i.is in
    let there : slice_get c.args.others.now c.loop-i.i ≡ Some c.index-others-i.result = slice_get_read c.args.others.now _ c.loop-i.i _ refl within c.index-others-i.is in
    goes_past_unify _ _ _ _ _ _ _ _ _ _ c.loop-i.invariant here there c.in_ok-unify.ensures.unified

pub returns : goal.returns
returns c = ends_unify _ _ _ _ _ _ c.loop-i.invariant c.loop-i-test.false
