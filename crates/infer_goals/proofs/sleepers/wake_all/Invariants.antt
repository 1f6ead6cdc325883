use Rattle.infer_goals.specs.Own.{AreWoken}
use Rattle.infer_goals.proofs.Waking.{IsAmongFirst}
use Rattle.infer_goals.proofs.sleepers.wake_all.Given as goal

abbrev pub invariant-loop-at : goal.invariant-loop-at
invariant-loop-at l = AreWoken (IsAmongFirst l.numbers l.at-index) l.fn.asleep.items l.fn.todo.items l.asleep.items l.todo.items
