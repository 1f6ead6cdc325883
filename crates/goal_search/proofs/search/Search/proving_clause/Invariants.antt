use Rattle.std.proofs.Common.{◌≡◌, take}
use Rattle.goal_search.specs.Words.{Each, answers, known_below, StatesGoal, term_of}
use Rattle.goal_search.specs.Own.{kind_of, rule_of, system}
use Rattle.goal_search.proofs.search.Search.proving_clause.Given as goal

-- by none of those before
abbrev pub invariant-loop-number : goal.invariant-loop-number
invariant-loop-number l =
    let f = system l.fn.self in
    record {
      same : l.self ≡ l.fn.self;
      so_far : Each (λ r. StatesGoal (answers f l.depth).Alias (known_below f l.depth) (kind_of l.kind) (term_of l.target) (rule_of r) → ⊥) (take l.number l.fn.self.clauses.items);
    }
