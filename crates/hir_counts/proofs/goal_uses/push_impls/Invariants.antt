use Rattle.std.proofs.Common.{◌≡◌, ◌++◌, take}
use Rattle.std.specs.Prelude.{flat_map}
use Rattle.hir_counts.specs.Words.{impl_uses}
use Rattle.hir_counts.proofs.goal_uses.push_impls.Given as goal

abbrev pub invariant-loop-item : goal.invariant-loop-item
invariant-loop-item l = l.out.items ≡ l.fn.out.items ++ flat_map impl_uses (take l.item-index l.impls)
