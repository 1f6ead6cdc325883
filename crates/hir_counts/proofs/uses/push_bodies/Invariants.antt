use Rattle.std.proofs.Common.{◌≡◌, ◌++◌, take}
use Rattle.std.specs.Prelude.{flat_map}
use Rattle.hir_counts.specs.Words.{body_uses}
use Rattle.hir_counts.proofs.uses.push_bodies.Given as goal

abbrev pub invariant-loop-body : goal.invariant-loop-body
invariant-loop-body l = l.out.items ≡ l.fn.out.items ++ flat_map body_uses (take l.body-index l.bodies)
