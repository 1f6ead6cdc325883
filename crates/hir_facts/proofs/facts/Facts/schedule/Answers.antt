use Rattle.std.proofs.Common.{◌≡◌}
use Rattle.std.specs.Prelude.{slice_get, Some}
use Rattle.hir_facts.proofs.Walkable.{walkable, scheduled_at}
use Rattle.hir_facts.proofs.facts.Facts.schedule.Goals as goal

pub returns-clause-walkable : goal.returns-clause-walkable
returns-clause-walkable c b found carried =
    let here : slice_get c.self.inside.raw.bodies c.args.body.0 ≡ Some b = rw c.self.view_is found in
    let law = scheduled_at c.self.inside.raw.bodies c.self.inside.schedules c.as_slice-schedules.result.now c.args.body.0 b c.index-schedules-body.result c.self.invariant.1 here c.as_slice-schedules.ensures c.index-schedules-body.is in
    walkable c.self.inside.raw c.self.invariant.0 c.args.body.0 b c.index-schedules-body.result here law.0 carried

pub returns-clause-depths : goal.returns-clause-depths
returns-clause-depths c b found =
    let here : slice_get c.self.inside.raw.bodies c.args.body.0 ≡ Some b = rw c.self.view_is found in
    (scheduled_at c.self.inside.raw.bodies c.self.inside.schedules c.as_slice-schedules.result.now c.args.body.0 b c.index-schedules-body.result c.self.invariant.1 here c.as_slice-schedules.ensures c.index-schedules-body.is).1
