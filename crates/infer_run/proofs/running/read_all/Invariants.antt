use Rattle.std.proofs.Common.{length, ◌-◌}
use Rattle.infer_run.proofs.Pieces.{Taken}
use Rattle.infer_run.proofs.running.read_all.Given as goal

abbrev pub invariant-loop-buf : goal.invariant-loop-buf
invariant-loop-buf g l = Taken (g.S.Source.left l.fn.source) (g.S.Source.left l.source) (g.S.Source.faults l.fn.source) (g.S.Source.faults l.source) l.text.items l.buf

abbrev pub decreases-loop-buf : goal.decreases-loop-buf
decreases-loop-buf g l = 16777217 - length l.text.items
