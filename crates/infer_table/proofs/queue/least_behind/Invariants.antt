use Rattle.infer_table.proofs.FrontLaws.{IsLeastTaken}
use Rattle.infer_table.proofs.queue.least_behind.Given as goal

abbrev pub invariant-loop-place : goal.invariant-loop-place
invariant-loop-place l = IsLeastTaken l.trail l.keep l.place l.least
