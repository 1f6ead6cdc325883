use Rattle.std.proofs.Common.{◌≡◌}
use Rattle.goal_search.specs.Words.{RuleIsRefuted, answers, known_below, term_of}
use Rattle.goal_search.specs.Own.{kind_of, rules_of, system}
use Rattle.goal_search.proofs.Only.{LeftSoFar}
use Rattle.goal_search.proofs.search.Search.left_of.Given as goal

abbrev pub invariant-loop-number : goal.invariant-loop-number
invariant-loop-number l =
    let f = system l.fn.self in
    record {
      same : l.self ≡ l.fn.self;
      so_far : LeftSoFar (RuleIsRefuted (answers f l.depth).Alias (known_below f l.depth) (kind_of l.kind) (term_of l.target)) (rules_of l.rules) l.left l.number;
    }
