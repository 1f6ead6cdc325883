use Rattle.std.proofs.Common.{◌≡◌, ◌++◌, Some, take, map}
use Rattle.hir_counts.proofs.uses.push_types.Given as goal

abbrev pub invariant-loop-ty : goal.invariant-loop-ty
invariant-loop-ty l = l.out.items ≡ l.fn.out.items ++ map (λ t. Some t.0) (take l.ty-index l.types)
