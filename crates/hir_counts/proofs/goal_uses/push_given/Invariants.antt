use Rattle.std.proofs.Common.{◌≡◌, ◌++◌, Some, take, map}
use Rattle.hir_counts.proofs.goal_uses.push_given.Given as goal

abbrev pub invariant-loop-given : goal.invariant-loop-given
invariant-loop-given l = l.out.items ≡ l.fn.out.items ++ map (λ g. Some g.ty.0) (take l.given-index l.types)
