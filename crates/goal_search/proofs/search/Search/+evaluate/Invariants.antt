use Rattle.std.proofs.Common.{◌≡◌, ℕ, ◌+◌, ◌*◌}
use Rattle.std.specs.Option.{option_map}
use Rattle.goal_search.specs.Words.{asked_at, answers, known_below, term_of}
use Rattle.goal_search.specs.Own.{kind_of, asked_of, rule_of, system, holes_fill, Holds, HoldsNot}
use Rattle.goal_search.proofs.SoFar.{AllSoFar, AnySoFar, GivenSoFar}
use Rattle.goal_search.proofs.search.Search.+evaluate.Given as goal

-- more than any number of levels and of types to be looked at
abbrev one : ℕ
one = 17179869184

abbrev half : ℕ
half = 8589934592

abbrev pub decreases-evaluate : goal.decreases-evaluate
decreases-evaluate l = 2 * l.steps * one

abbrev pub decreases-ask_preds : goal.decreases-ask_preds
decreases-ask_preds l = 2 * l.steps * one + 1

abbrev pub decreases-alias_reads : goal.decreases-alias_reads
decreases-alias_reads l = (2 * l.depth + 1) * one

abbrev pub decreases-read : goal.decreases-read
decreases-read l = (2 * l.depth + 1) * one + 1 + l.levels

abbrev pub decreases-fits : goal.decreases-fits
decreases-fits l = (l.depth + l.steps + 1) * one + half

abbrev pub decreases-is_refuted : goal.decreases-is_refuted
decreases-is_refuted l = (l.depth + l.steps + 1) * one + half

abbrev pub decreases-ask_rules : goal.decreases-ask_rules
decreases-ask_rules l = (l.depth + l.steps + 1) * one + half + 1

abbrev pub decreases-ask_given : goal.decreases-ask_given
decreases-ask_given l = 2 * l.steps * one + half + 1

abbrev pub decreases-source : goal.decreases-source
decreases-source l = (2 * l.depth + 1) * one + half + 2

abbrev pub decreases-sized : goal.decreases-sized
decreases-sized l = (2 * l.depth + 1) * one + half + 3 + l.left

abbrev pub decreases-decide : goal.decreases-decide
decreases-decide l = (2 * l.depth + 1) * one + half + 4294967310

abbrev pub invariant-ask_preds-loop-pred : goal.invariant-ask_preds-loop-pred
invariant-ask_preds-loop-pred l =
    let v = known_below (system l.fn.self) l.steps in
    let p = holes_fill l.holes in
    record {
      same : l.self ≡ l.fn.self;
      so_far : AllSoFar (λ q. v.Yes (asked_at p (asked_of q))) (λ q. v.No (asked_at p (asked_of q))) l.preds l.pred-index l.left;
    }

abbrev pub invariant-ask_rules-loop-rule : goal.invariant-ask_rules-loop-rule
invariant-ask_rules-loop-rule l =
    let f = system l.fn.self in
    let A = (answers f l.depth).Alias in
    let v = known_below f l.steps in
    record {
      same : l.self ≡ l.fn.self;
      so_far : AnySoFar (λ r. Holds A v l.side (kind_of l.kind) (term_of l.target) (rule_of r)) (λ r. HoldsNot A v l.side (kind_of l.kind) (term_of l.target) (rule_of r)) l.rules l.rule-index l.left;
    }

abbrev pub invariant-ask_given-loop-rule : goal.invariant-ask_given-loop-rule
invariant-ask_given-loop-rule l =
    let v = known_below (system l.fn.self) l.steps in
    record {
      same : l.self ≡ l.fn.self;
      so_far : GivenSoFar v l.alias (term_of l.args) l.rules l.rule-index (option_map term_of l.found);
    }
