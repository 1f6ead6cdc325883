use Rattle.std.proofs.Common.{◌≡◌, ◌++◌, length, map}
use Rattle.std.specs.Vec.Iter.{into_iter_items, into_iter_len}
use Rattle.infer_obligations.specs.Words.{system, asked_goal, AreKept, HasAllOpen}
use Rattle.infer_obligations.specs.Own.{asked_for, Registers}
use Rattle.infer_obligations.proofs.register.register_each.Given as goal

abbrev pub invariant-loop-goal : goal.invariant-loop-goal
invariant-loop-goal l = record {
  items : l.yielded ++ into_iter_items l.goal-iterator ≡ into_iter_items l.initial.goal-iterator;
  long : into_iter_len l.goal-iterator ≡ length (into_iter_items l.goal-iterator);
  kept : AreKept l.goals.sources.facts (system l.goals.sources.sources) l.goals.table l.goals.obligations;
  all : HasAllOpen (system l.goals.sources.sources) l.goals.table l.goals.obligations;
  registers : Registers l.fn.goals.sources.facts (asked_for l.expr.0 (map asked_goal l.yielded)) l.fn.goals.obligations l.goals.obligations;
  table : l.goals.table ≡ l.fn.goals.table;
  bounded : l.goals.bounded ≡ l.fn.goals.bounded;
  sources : l.goals.sources ≡ l.fn.goals.sources;
}
