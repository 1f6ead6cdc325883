use Rattle.std.proofs.Common.{◌≡◌, ◌+◌, ◌≤◌, Some, length, get_or, arith}
use Rattle.std.specs.Prelude.{slice_get}
use Rattle.std.proofs.lemmas.Option.{slice_get-get_or}
use Rattle.infer_goals.specs.Own.{IsAmong}
use Rattle.infer_goals.proofs.Waking.{IsAmongFirst, first_none, first_next, first_all, woken_none, woken_then, woken_for}
use Rattle.infer_goals.proofs.sleepers.wake_all.Goals as goal

pub loop-at-init : goal.loop-at-init
loop-at-init c = woken_none (IsAmongFirst c.args.numbers.now 0) c.args.asleep.now.items c.args.todo.now.items (first_none c.args.numbers.now)

pub loop-at-preserved : goal.loop-at-preserved
loop-at-preserved c =
    let xs = c.args.numbers.now in
    let k = c.loop-at.at-index in
    let x = get_or xs k 0 in
    let found : slice_get xs k ≡ Some x = slice_get-get_or xs k 0 c.loop-at-test.true in
    woken_then (IsAmongFirst xs k) (λ i. i ≡ x) (IsAmongFirst xs (k + 1)) c.args.asleep.now.items c.loop-at.asleep.items c.wake_one.new.asleep.items c.args.todo.now.items c.loop-at.todo.items c.wake_one.new.todo.items
    (λ i h. first_next xs k x i found h) c.loop-at.invariant c.in_ok-wake_one.ensures

pub returns : goal.returns
returns c =
    let xs = c.args.numbers.now in
    let k = c.loop-at.at-index in
    let past : length xs ≤ k = (let last = c.loop-at-test.false in omega (arith, last)) in
    woken_for (IsAmongFirst xs k) (IsAmong xs) c.args.asleep.now.items c.loop-at.asleep.items c.args.todo.now.items c.loop-at.todo.items (λ i h. first_all xs k i past h) c.loop-at.invariant
