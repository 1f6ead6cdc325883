use Rattle.std.proofs.Common.{◌≡◌, take}
use Rattle.infer_needs.specs.Words.{Each, gap_says}
use Rattle.infer_needs.proofs.say.is_said.Given as goal

-- none before says so
abbrev pub invariant-loop-said : goal.invariant-loop-said
invariant-loop-said l = Each (λ x. gap_says x ≡ gap_says l.gap → ⊥) (take l.said-index l.gaps)
