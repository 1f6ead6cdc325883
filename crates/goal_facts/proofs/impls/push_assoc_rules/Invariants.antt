use Rattle.std.proofs.Common.{◌≡◌, ◌++◌, map, take}
use Rattle.goal_facts.specs.Words.{Each, rules_of, RuleHasHeads}
use Rattle.goal_facts.specs.Own.{assoc_rule}
use Rattle.goal_facts.proofs.impls.push_assoc_rules.Given as goal

abbrev pub invariant-loop-given : goal.invariant-loop-given
invariant-loop-given l = (rules_of l.rules.items ≡ rules_of l.fn.rules.items ++ map (assoc_rule l.facts l.item l.trait_ref) (take l.given-index l.given-items)) × Each RuleHasHeads (rules_of l.rules.items)
