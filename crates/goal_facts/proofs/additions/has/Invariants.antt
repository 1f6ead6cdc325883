use Rattle.std.proofs.Common.{◌≡◌, take}
use Rattle.goal_facts.specs.Words.{Each, asked_of}
use Rattle.goal_facts.proofs.additions.has.Given as goal

-- none before is the goal
abbrev pub invariant-loop-other : goal.invariant-loop-other
invariant-loop-other l = Each (λ x. asked_of x ≡ asked_of l.goal → ⊥) (take l.other-index l.goals)
