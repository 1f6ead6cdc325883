use Rattle.std.proofs.Common.{◌≡◌, [], ◌++◌, length}
use Rattle.std.specs.Vec.Iter.{into_iter_items, into_iter_len}
use Rattle.infer_goals.specs.Own.{FallAsleep}
use Rattle.infer_goals.proofs.obligations.Obligations.sleep_all.Given as goal

abbrev pub invariant-loop-at : goal.invariant-loop-at
invariant-loop-at l = record {
  items : l.yielded ++ into_iter_items l.at-iterator ≡ into_iter_items l.initial.at-iterator;
  long : into_iter_len l.at-iterator ≡ length (into_iter_items l.at-iterator);
  tree : l.self.tree ≡ l.fn.self.tree;
  selected : l.self.selected ≡ l.fn.self.selected;
  todo : l.self.todo.items ≡ [];
  asleep : FallAsleep l.table l.fn.self.tree l.yielded l.fn.self.asleep l.self.asleep;
}
