use Rattle.std.proofs.Common.{◌≡◌, ◌++◌, take, map}
use Rattle.hir_plain.proofs.plain.push_ids.Given as goal

abbrev pub invariant-loop-ty : goal.invariant-loop-ty
invariant-loop-ty l = l.out.items ≡ l.fn.out.items ++ map (λ t. t.0) (take l.ty-index l.types)
