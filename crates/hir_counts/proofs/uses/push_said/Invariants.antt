use Rattle.std.proofs.Common.{◌≡◌, ◌++◌, take}
use Rattle.std.specs.Prelude.{flat_map}
use Rattle.hir_counts.specs.Words.{mention_uses}
use Rattle.hir_counts.proofs.uses.push_said.Given as goal

abbrev pub invariant-loop-said : goal.invariant-loop-said
invariant-loop-said l = l.out.items ≡ l.fn.out.items ++ flat_map (λ s. mention_uses s.mention) (take l.said-index l.said)
