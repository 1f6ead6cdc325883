use Rattle.std.proofs.Common.{◌≡◌, refl, arith, length}
use Rattle.std.specs.Prelude.{Some, slice_get}
use Rattle.std.proofs.lemmas.Option.{slice_get_read}
use Rattle.infer_needs.specs.Words.{system}
use Rattle.infer_needs.proofs.FitParts.{goal_fits_at}
use Rattle.infer_needs.proofs.Writing.{holds_first, holds_next, holds_all, OfGoal, goal_later, goals_of, provable_at}
use Rattle.infer_needs.proofs.written.look_at_goals.Goals as goal

pub loop-goal-init : goal.loop-goal-init
loop-goal-init c =
    let raw = c.args.sources.now.facts in
    let item = c.args.sources.now.item in
    let f = system c.args.sources.now.sources in
    holds_first raw item f (OfGoal raw f) c.args.goals.now c.args.proofs.now.items c.args.found.now

pub look_at_goal-requires-clause-provable : goal.look_at_goal-requires-clause-provable
look_at_goal-requires-clause-provable c =
    let i = c.loop-goal.goal-index in
    let here : slice_get c.args.goals.now i ≡ Some c.goal-item.result = slice_get_read _ _ i _ refl c.loop-goal-test.true c.goal-item.is in
    provable_at c.args.goals.now i c.goal-item.result c.requires.provable here

pub look_at_goal-requires-clause-fits : goal.look_at_goal-requires-clause-fits
look_at_goal-requires-clause-fits c =
    let i = c.loop-goal.goal-index in
    let here : slice_get c.args.goals.now i ≡ Some c.goal-item.result = slice_get_read _ _ i _ refl c.loop-goal-test.true c.goal-item.is in
    goal_fits_at c.args.sources.now.facts c.args.sources.now.item c.args.goals.now i c.goal-item.result c.requires.fits here

pub loop-goal-preserved : goal.loop-goal-preserved
loop-goal-preserved c =
    let raw = c.args.sources.now.facts in
    let item = c.args.sources.now.item in
    let f = system c.args.sources.now.sources in
    let i = c.loop-goal.goal-index in
    let here : slice_get c.args.goals.now i ≡ Some c.goal-item.result = slice_get_read _ _ i _ refl c.loop-goal-test.true c.goal-item.is in
    holds_next raw item f (OfGoal raw f) c.args.goals.now (goal_later raw f) i c.goal-item.result c.args.proofs.now.items c.loop-goal.proofs.items c.look_at_goal.new.proofs.items
    c.args.found.now c.loop-goal.found c.look_at_goal.new.found here c.loop-goal.invariant c.in_ok-look_at_goal.ensures

pub returns : goal.returns
returns c =
    let raw = c.args.sources.now.facts in
    let item = c.args.sources.now.item in
    let f = system c.args.sources.now.sources in
    let end : c.loop-goal.goal-index ≡ length c.args.goals.now = omega arith in
    let all = holds_all raw item f (OfGoal raw f) c.args.goals.now c.loop-goal.goal-index c.args.proofs.now.items c.loop-goal.proofs.items c.args.found.now c.loop-goal.found end c.loop-goal.invariant in
    record { adds = all.adds; none = goals_of raw f c.args.goals.now c.loop-goal.found all.none }
