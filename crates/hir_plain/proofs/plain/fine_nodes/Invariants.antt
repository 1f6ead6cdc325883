use Rattle.std.proofs.Common.{◌≡◌, take, map}
use Rattle.hir_plain.specs.Own.{is_fine_type}
use Rattle.hir_plain.proofs.plain.fine_nodes.Given as goal

abbrev pub invariant-loop-ty : goal.invariant-loop-ty
invariant-loop-ty l = l.fine.items ≡ map is_fine_type (take l.ty-index l.ty-items)
