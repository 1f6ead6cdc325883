use Rattle.std.proofs.Common.{◌+◌, ◌≤◌, List, ℕ, length, refl, ◌∙◌, subst, arith}
use Rattle.infer_goals.specs.Words.{bindings}
use Rattle.infer_goals.specs.Own.{AreWoken, IsStirredAt, IsStirred}
use Rattle.infer_goals.proofs.Waking.{stirred_none, stirred_next, stirred_before, woken_none, woken_then, woken_for}
use Rattle.infer_goals.proofs.sleepers.Sleepers.wake.Goals as goal

pub loop-place-init : goal.loop-place-init
loop-place-init c =
    let lists = c.args.self.now.by_hole.items in
    let bs = bindings c.args.table.now in
    let from = c.args.self.now.seen in
    record { lists = refl; woken = woken_none (IsStirred lists bs from from) c.args.self.now.asleep.items c.args.todo.now.items (stirred_none lists bs from) }

pub loop-place-preserved : goal.loop-place-preserved
loop-place-preserved c =
    let lists = c.args.self.now.by_hole.items in
    let bs = bindings c.args.table.now in
    let from = c.args.self.now.seen in
    let place = c.loop-place.place in
    let at = c.loop-place in
    record {
      lists = c.in_ok-wake_bound.ensures.lists ∙ at.invariant.lists;
      woken = woken_then (IsStirred lists bs from place) (IsStirredAt lists bs place) (IsStirred lists bs from (place + 1))
          c.args.self.now.asleep.items at.self.asleep.items c.wake_bound.new.self.asleep.items c.args.todo.now.items at.todo.items c.wake_bound.new.todo.items
          (λ i h. stirred_next lists bs from place i h) at.invariant.woken
          (subst (λ (ls : List (List ℕ)). AreWoken (IsStirredAt ls bs place) at.self.asleep.items at.todo.items c.wake_bound.new.self.asleep.items c.wake_bound.new.todo.items) at.invariant.lists c.in_ok-wake_bound.ensures.woken);
    }

pub returns-clause-woken : goal.returns-clause-woken
returns-clause-woken c =
    let lists = c.args.self.now.by_hole.items in
    let bs = bindings c.args.table.now in
    let from = c.args.self.now.seen in
    let place = c.loop-place.place in
    let at = c.loop-place in
    let past : length bs ≤ place = (let last = c.loop-place-test.false in let count = c.bound_count-count.ensures in omega (arith, last, count)) in
    woken_for (IsStirred lists bs from place) (IsStirred lists bs from (length bs)) c.args.self.now.asleep.items at.self.asleep.items c.args.todo.now.items at.todo.items (λ i h. stirred_before lists bs from place (length bs) i past h) at.invariant.woken
