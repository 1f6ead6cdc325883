use Rattle.std.proofs.Common.{◌≡◌, ◌∙◌, arith, refl, sym, subst, Some, slice_get}
use Rattle.std.proofs.lemmas.Option.{slice_get_read, slice_get_within}
use Rattle.infer_calls.specs.Words.{Ty, given_of, OnlyBinds, SameOrDiffer}
use Rattle.std.proofs.lemmas.List.{get_or_default}
use Rattle.infer_calls.proofs.Loose.{begins_loose, comes_to_loose, goes_past_loose, still_fine, ends_loose}
use Rattle.infer_calls.proofs.Words.{binds_nothing}
use Rattle.infer_calls.proofs.call.infer_arguments.Goals.{then-i-inputs+in_ok-unify_with, else-i-inputs}
use Rattle.infer_calls.proofs.call.infer_arguments.Goals as goal

pub loop-i-init : goal.loop-i-init
loop-i-init g c = begins_loose _ _ _ _ _ _ c.requires.before

pub infer-requires : goal.infer-requires
infer-requires g c =
    c.requires.infers.may _ _ _ c.loop-i.invariant.walk.follows.clock
    (comes_to_loose _ _ _ _ _ _ _ _ c.loop-i.invariant _ (get_or_default _ _ _ _ c.loop-i-test.true) c.loop-i-test.true _ c.at.ensures)

pub unify_with-requires-clause-other : goal.unify_with-requires-clause-other
unify_with-requires-clause-other g c =
    let done = c.requires.infers.does _ _ _ _ _ c.in_ok-ty.ensures in
    let input : slice_get c.args.inputs.now c.loop-i.i ≡ Some c.index-inputs-i.result = slice_get_read c.args.inputs.now _ c.loop-i.i _ refl c.if-i-inputs.true c.index-inputs-i.is in
    still_fine _ _ _ _ _ _ _ _ c.loop-i.invariant _ _ done.follows input

pub loop-i-preserved : goal.loop-i-preserved
loop-i-preserved o c =
    let g = given_of c.args.given.now in
    let inv = c.loop-i.invariant in
    let typed = c.infer.new.arg2 in
    let done = c.requires.infers.does _ _ _ _ _ c.in_ok-ty.ensures in
    let inputs = c.args.inputs.now in
    let i = c.loop-i.i in
    let met : OnlyBinds g typed c.if-i-inputs.context × ((u : Ty) → slice_get inputs i ≡ Some u → SameOrDiffer c.if-i-inputs.context c.in_ok-ty.ty u) = elim c.if-i-inputs.branch [
      | then-i-inputs+in_ok-unify_with w ↦
          (let here : slice_get inputs i ≡ Some w.index-inputs-i.result = slice_get_read inputs _ i _ refl w.if-i-inputs.true w.index-inputs-i.is in (
            subst (λ k. OnlyBinds g typed k) (sym w.context-is) w.in_ok-unify_with.ensures.binds,
            λ u at. (
                let same : w.index-inputs-i.result ≡ u = (let q : Some w.index-inputs-i.result ≡ Some u = sym here ∙ at in cc) in
                subst (λ k. SameOrDiffer k c.in_ok-ty.ty u) (sym w.context-is) (subst (λ v. SameOrDiffer w.unify_with.new.context c.in_ok-ty.ty v) same w.in_ok-unify_with.ensures.settled)
                ),
          ))
      | else-i-inputs w ↦ (
        subst (λ k. OnlyBinds g typed k) (sym w.context-is) (binds_nothing g typed done.follows.of_body done.follows.sound),
        λ u at. absurd (omega (arith, slice_get_within inputs i u at, w.if-i-inputs.false)),
      )
    ] in
    goes_past_loose _ _ _ _ _ _ _ _ inv _ (get_or_default _ _ _ _ c.loop-i-test.true) c.loop-i-test.true _ c.at.ensures _ _ done _ met.0 met.1

pub returns : goal.returns
returns g c = ends_loose _ _ _ _ _ _ _ _ c.loop-i.invariant c.loop-i-test.false
