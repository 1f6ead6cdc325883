use Rattle.std.proofs.Common.{take}
use Rattle.goal_search.specs.Words.{Each, CannotGive, term_of}
use Rattle.goal_search.specs.Own.{rule_of}
use Rattle.goal_search.proofs.first.none_can_give.Given as goal

-- none of those before can give the alias
abbrev pub invariant-loop-rule : goal.invariant-loop-rule
invariant-loop-rule l = Each (λ r. CannotGive l.alias (term_of l.args) (rule_of r)) (take l.rule-index l.rules)
