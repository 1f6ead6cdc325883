use Rattle.std.proofs.Common.{◌≡◌, ◌++◌, take, map}
use Rattle.hir_types.specs.declared.ids.ExprOrPatId.TheVariants.{PatId}
use Rattle.hir_schedule.proofs.parts.push_arm_pats.Given as goal

abbrev pub invariant-loop-arm : goal.invariant-loop-arm
invariant-loop-arm l = l.out.items ≡ l.fn.out.items ++ map (λ a. PatId a.pat) (take l.arm-index l.arms)
