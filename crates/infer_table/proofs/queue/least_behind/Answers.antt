use Rattle.std.proofs.Common.{◌≤◌, ◌<◌, length, get_or, arith}
use Rattle.infer_table.proofs.FrontLaws.{is_least_itself, is_least_more}
use Rattle.infer_table.proofs.queue.least_behind.Goals.{then-trail-place, else-trail-place}
use Rattle.infer_table.proofs.queue.least_behind.Goals as goal

pub loop-place-init : goal.loop-place-init
loop-place-init c = is_least_itself c.args.trail.now c.args.keep c.args.most c.requires

pub loop-place-preserved : goal.loop-place-preserved
loop-place-preserved c =
    let ts = c.args.trail.now in
    let lt : c.loop-place.place < length c.args.trail.now = omega arith in
    let step = is_least_more ts c.args.keep c.loop-place.place c.loop-place.least c.if-trail-place.least lt in
    elim c.if-trail-place.branch [
      | then-trail-place w ↦
          let smaller : c.if-trail-place.least ≤ c.loop-place.least = omega (arith, w.least-is, w.if-trail-place.true) in
          let here : c.if-trail-place.least ≤ get_or c.args.trail.now c.loop-place.place 0 = omega (arith, w.least-is) in
          step smaller here c.loop-place.invariant
      | else-trail-place w ↦
          let same : c.if-trail-place.least ≤ c.loop-place.least = omega (arith, w.least-is) in
          let here : c.if-trail-place.least ≤ get_or c.args.trail.now c.loop-place.place 0 = omega (arith, w.least-is, w.if-trail-place.false) in
          step same here c.loop-place.invariant
    ]
