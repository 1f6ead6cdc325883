use Rattle.std.proofs.Common.{◌≡◌, length, Some, arith, refl}
use Rattle.std.specs.Prelude.{slice_get}
use Rattle.std.proofs.lemmas.Option.{slice_get_read}
use Rattle.hir_ids.proofs.Held.{no_marks, marks_more}
use Rattle.hir_ids.proofs.projections.marks_of.Goals as goal

pub loop-ty-init : goal.loop-ty-init
loop-ty-init c = rw c.new-marks.ensures.items (no_marks c.args.types.now)

pub loop-ty-preserved : goal.loop-ty-preserved
loop-ty-preserved c =
    let found : slice_get c.args.types.now c.loop-ty.ty-index ≡ Some c.ty-item.result = slice_get_read c.args.types.now (length c.args.types.now) c.loop-ty.ty-index c.ty-item.result refl c.loop-ty-test.true c.ty-item.is in
    marks_more c.args.types.now c.loop-ty.ty-index c.loop-ty.marks.items c.push.new.self.items c.ty-item.result c.holds-mark.result c.loop-ty.invariant found (rw c.deref.ensures.value at c.holds-mark.ensures) c.in_ok-push.ensures.items

pub returns : goal.returns
returns c = let e : c.loop-ty.ty-index ≡ length c.args.types.now = omega arith in rw e at c.loop-ty.invariant
