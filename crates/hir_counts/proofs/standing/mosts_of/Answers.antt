use Rattle.std.proofs.Common.{◌≡◌, length, Some, arith, refl}
use Rattle.std.specs.Prelude.{slice_get}
use Rattle.std.proofs.lemmas.Option.{slice_get_read}
use Rattle.hir_counts.specs.Own.{own_of}
use Rattle.hir_counts.proofs.TypeMeasures.{before_here}
use Rattle.hir_counts.proofs.StandingTypes.{mosts_none, mosts_more}
use Rattle.hir_counts.proofs.standing.mosts_of.Goals as goal

pub loop-ty-init : goal.loop-ty-init
loop-ty-init c = mosts_none (own_of c.args.raw.now c.args.sought) c.args.types.now c.new-mosts.result.items c.new-mosts.ensures.items

pub most_over-most-requires : goal.most_over-most-requires
most_over-most-requires c =
    let found : slice_get c.args.types.now c.loop-ty.ty-index ≡ Some c.ty-item.result = slice_get_read c.args.types.now (length c.args.types.now) c.loop-ty.ty-index c.ty-item.result refl c.loop-ty-test.true c.ty-item.is in
    rw c.deref.ensures.value (before_here c.args.types.now c.loop-ty.ty-index c.loop-ty.mosts.items c.ty-item.result c.requires c.loop-ty.invariant.count found)

pub loop-ty-preserved : goal.loop-ty-preserved
loop-ty-preserved c =
    let found : slice_get c.args.types.now c.loop-ty.ty-index ≡ Some c.ty-item.result = slice_get_read c.args.types.now (length c.args.types.now) c.loop-ty.ty-index c.ty-item.result refl c.loop-ty-test.true c.ty-item.is in
    mosts_more (own_of c.args.raw.now c.args.sought) c.args.types.now c.loop-ty.ty-index c.loop-ty.mosts.items c.push.new.self.items c.ty-item.result c.own_of-own.result c.most_over-most.result c.requires c.loop-ty.invariant found c.own_of-own.ensures (rw c.deref.ensures.value at c.most_over-most.ensures) c.in_ok-push.ensures.items

pub returns : goal.returns
returns c = let e : c.loop-ty.ty-index ≡ length c.args.types.now = omega arith in rw e at c.loop-ty.invariant
