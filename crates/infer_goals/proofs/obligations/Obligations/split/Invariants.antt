use Rattle.std.proofs.Common.{◌≡◌, ◌++◌, length}
use Rattle.std.specs.Vec.Iter.{into_iter_items, into_iter_len}
use Rattle.infer_goals.specs.Own.{AreAt, AreBelow, AreAmongEither}
use Rattle.infer_goals.proofs.obligations.Obligations.split.Given as goal

abbrev pub invariant-loop-at : goal.invariant-loop-at
invariant-loop-at l = record {
  items : l.yielded ++ into_iter_items l.at-iterator ≡ into_iter_items l.initial.at-iterator;
  long : into_iter_len l.at-iterator ≡ length (into_iter_items l.at-iterator);
  are_here : AreAt l.self.tree l.depth l.here.items;
  are_below : AreBelow l.self.tree l.depth l.below.items;
  all : AreAmongEither l.yielded l.here.items l.below.items;
}
