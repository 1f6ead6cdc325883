use Rattle.infer_table.specs.Own.{OnlyFalls, NoneOpenBelow}
use Rattle.infer_table.proofs.bindings.Bindings.fall_back_integers.Given as goal

-- the holes so far are bound
abbrev pub invariant-loop-number : goal.invariant-loop-number
invariant-loop-number l = record {
  falls : OnlyFalls l.initial.self l.self;
  none_open : NoneOpenBelow l.number l.self;
}
