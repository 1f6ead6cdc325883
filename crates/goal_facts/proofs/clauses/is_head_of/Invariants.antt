use Rattle.std.proofs.Common.{◌≡◌, take}
use Rattle.goal_facts.specs.Words.{Each, asked_of}
use Rattle.goal_facts.proofs.clauses.is_head_of.Given as goal

-- no rule before has it
abbrev pub invariant-loop-rule : goal.invariant-loop-rule
invariant-loop-rule l = Each (λ r. asked_of r.head ≡ asked_of l.goal → ⊥) (take l.rule-index l.rules)
