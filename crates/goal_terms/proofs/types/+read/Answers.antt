use Rattle.std.proofs.Common.{arith}
use Rattle.std.proofs.lemmas.List.{take_rest}
use Rattle.goal_terms.proofs.ReadBack.{bounds_next}
use Rattle.goal_terms.proofs.types.+read.Goals as goal

pub bounds_of-loop-i-preserved : goal.bounds_of-loop-i-preserved
bounds_of-loop-i-preserved t c = bounds_next c.loop-i.i _ c.args.parts.now _ c.loop-i.made c.push_bound.new.made (omega arith) (take_rest c.args.parts.now c.loop-i.i) c.in_ok-push_bound.ensures c.loop-i.invariant
