use Rattle.std.proofs.Common.{◌≡◌, ◌++◌, take}
use Rattle.std.specs.Prelude.{flat_map}
use Rattle.goal_facts.specs.Words.{Each, rules_of, RuleHasHeads}
use Rattle.goal_facts.specs.Own.{impl_rules}
use Rattle.goal_facts.proofs.impls.push_impl_rules.Given as goal

abbrev pub invariant-loop-item : goal.invariant-loop-item
invariant-loop-item l = (rules_of l.rules.items ≡ rules_of l.fn.rules.items ++ flat_map (impl_rules l.facts) (take l.item-index l.impls)) × Each RuleHasHeads (rules_of l.rules.items)
