use Rattle.std.proofs.Common.{◌≡◌, length, Some, refl}
use Rattle.std.specs.Prelude.{slice_get}
use Rattle.std.proofs.lemmas.Option.{slice_get_read}
use Rattle.hir_laws.proofs.Scoping.{scheduled_more}
use Rattle.hir_laws.proofs.scopes.schedules_of.Goals as goal

pub loop-body-preserved : goal.loop-body-preserved
loop-body-preserved c =
    let found : slice_get c.args.bodies.now c.loop-body.body-index ≡ Some c.body-item.result = slice_get_read c.args.bodies.now (length c.args.bodies.now) c.loop-body.body-index c.body-item.result refl c.loop-body-test.true c.body-item.is in
    scheduled_more c.args.bodies.now c.loop-body.body-index c.loop-body.schedules c.push.new.self c.body-item.result c.in_ok-schedule.schedule c.loop-body.invariant found c.in_ok-push.ensures.ok c.in_ok-schedule.ensures
