use Rattle.std.proofs.Common.{◌+◌, ◌-◌, ◌*◌, ◌^◌}
use Rattle.infer_pat.specs.Words.{given_of, schedule_of}
use Rattle.infer_pat.proofs.TuplePats.{TupleParts}
use Rattle.infer_pat.proofs.CtorPatWalk.{CtorParts}
use Rattle.infer_pat.proofs.pat.+pats.Given as goal

abbrev pub decreases-infer_pat : goal.decreases-infer_pat
decreases-infer_pat l = 16 * (2 ^ 64 - l.context.now.clock) + 4

abbrev pub decreases-infer_tuple_pat : goal.decreases-infer_tuple_pat
decreases-infer_tuple_pat l = 16 * (2 ^ 64 - l.context.now.clock) + 3

abbrev pub invariant-infer_tuple_pat-loop-i : goal.invariant-infer_tuple_pat-loop-i
invariant-infer_tuple_pat-loop-i l = TupleParts (given_of l.given) (schedule_of l.given) l.fn.pat l.args l.tys l.i l.initial.context l.context

abbrev pub decreases-infer_tuple_struct_pat : goal.decreases-infer_tuple_struct_pat
decreases-infer_tuple_struct_pat l = 16 * (2 ^ 64 - l.context.now.clock) + 3

abbrev pub invariant-infer_tuple_struct_pat-loop-i : goal.invariant-infer_tuple_struct_pat-loop-i
invariant-infer_tuple_struct_pat-loop-i l = CtorParts (given_of l.given) (schedule_of l.given) l.fn.pat l.args l.tys l.i l.initial.context l.context
