use Rattle.hir_counts.specs.Words.{type_uses}
use Rattle.hir_counts.proofs.Words.{gathered_after}
use Rattle.hir_counts.proofs.uses.push_parts.Goals as goal

pub loop-ty-preserved : goal.loop-ty-preserved
loop-ty-preserved c = gathered_after type_uses c.args.types.now c.loop-ty.ty-index c.ty-item.result c.args.out.now.items c.loop-ty.out.items c.push_types.new.out.items c.loop-ty-test.true c.ty-item.is c.loop-ty.invariant (rw c.parts.ensures at c.in_ok-push_types.ensures)
