use Rattle.std.proofs.Common.{◌≡◌, ◌++◌, map, length}
use Rattle.std.specs.Vec.Iter.{into_iter_items, into_iter_len}
use Rattle.goal_facts.specs.Words.{asked_list, rules_of}
use Rattle.goal_facts.specs.Own.{fact}
use Rattle.goal_facts.proofs.sources.push_facts.Given as goal

abbrev pub invariant-loop-head : goal.invariant-loop-head
invariant-loop-head l = (l.yielded ++ into_iter_items l.head-iterator ≡ into_iter_items l.initial.head-iterator)
    × (rules_of l.rules.items ≡ rules_of l.fn.rules.items ++ map fact (asked_list l.yielded))
    × (into_iter_len l.head-iterator ≡ length (into_iter_items l.head-iterator))
