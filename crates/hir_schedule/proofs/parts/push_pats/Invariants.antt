use Rattle.std.proofs.Common.{◌≡◌, ◌++◌, take, map}
use Rattle.hir_types.specs.declared.ids.ExprOrPatId.TheVariants.{PatId}
use Rattle.hir_schedule.proofs.parts.push_pats.Given as goal

abbrev pub invariant-loop-pat : goal.invariant-loop-pat
invariant-loop-pat l = l.out.items ≡ l.fn.out.items ++ map PatId (take l.pat-index l.pats)
