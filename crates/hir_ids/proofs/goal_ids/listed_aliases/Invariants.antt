use Rattle.std.proofs.Common.{◌≡◌, take}
use Rattle.hir_ids.specs.Words.{listed_aliases}
use Rattle.hir_ids.proofs.goal_ids.listed_aliases.Given as goal

abbrev pub invariant-loop-item : goal.invariant-loop-item
invariant-loop-item l = l.out.items ≡ listed_aliases (take l.item-index l.traits)
