use Rattle.std.proofs.Common.{◌≡◌}
use Rattle.infer_goals.specs.Words.{bindings}
use Rattle.infer_goals.specs.Own.{AreWoken, IsStirred}
use Rattle.infer_goals.proofs.sleepers.Sleepers.wake.Given as goal

abbrev pub invariant-loop-place : goal.invariant-loop-place
invariant-loop-place l = record {
  lists : l.self.by_hole.items ≡ l.fn.self.by_hole.items;
  woken : AreWoken (IsStirred l.fn.self.by_hole.items (bindings l.table) l.fn.self.seen l.place) l.fn.self.asleep.items l.fn.todo.items l.self.asleep.items l.todo.items;
}
