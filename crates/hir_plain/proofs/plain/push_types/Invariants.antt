use Rattle.std.proofs.Common.{◌≡◌, ◌++◌, take, map, length}
use Rattle.hir_plain.specs.Own.{type_children}
use Rattle.hir_plain.proofs.plain.push_types.Given as goal

abbrev pub invariant-loop-ty : goal.invariant-loop-ty
invariant-loop-ty l = l.kids ≡ l.fn.kids ++ map (type_children (length l.types)) (take l.ty-index l.types)
