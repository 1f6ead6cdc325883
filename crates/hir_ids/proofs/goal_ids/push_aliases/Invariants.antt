use Rattle.std.proofs.Common.{◌≡◌, ◌++◌, Some, take, map}
use Rattle.hir_ids.proofs.goal_ids.push_aliases.Given as goal

abbrev pub invariant-loop-alias : goal.invariant-loop-alias
invariant-loop-alias l = l.out.items ≡ l.fn.out.items ++ map (λ a. Some a.0) (take l.alias-index l.aliases)
