use Rattle.std.proofs.Common.{◌≡◌, ◌+◌, ◌*◌, take}
use Rattle.goal_prove.specs.Words.{holes_fill, asked_list, system}
use Rattle.goal_prove.specs.Own.{ArePredsProved}
use Rattle.goal_prove.proofs.prove.+prove.Given as goal

-- each asks the next at the same depth, and a predicate less deep

abbrev pub decreases-prove_pred : goal.decreases-prove_pred
decreases-prove_pred l = 8 * l.depth

abbrev pub decreases-prove_all : goal.decreases-prove_all
decreases-prove_all l = 8 * l.depth + 1

abbrev pub decreases-prove_by_impl : goal.decreases-prove_by_impl
decreases-prove_by_impl l = 8 * l.depth + 2

abbrev pub decreases-prove_by_parts : goal.decreases-prove_by_parts
decreases-prove_by_parts l = 8 * l.depth + 2

abbrev pub decreases-prove_by_rule : goal.decreases-prove_by_rule
decreases-prove_by_rule l = 8 * l.depth + 3

abbrev pub decreases-prove_by_rules : goal.decreases-prove_by_rules
decreases-prove_by_rules l = 8 * l.depth + 4

abbrev pub decreases-prove_freely : goal.decreases-prove_freely
decreases-prove_freely l = 8 * l.depth + 5

abbrev pub decreases-prove_anew : goal.decreases-prove_anew
decreases-prove_anew l = 8 * l.depth + 6

abbrev pub decreases-prove : goal.decreases-prove
decreases-prove l = 8 * l.depth + 7

-- those before are proved
abbrev pub invariant-prove_all-loop-pred : goal.invariant-prove_all-loop-pred
invariant-prove_all-loop-pred l = record {
  same : l.search ≡ l.fn.search;
  proved : ArePredsProved l.sources.facts (system l.sources.sources) (holes_fill l.holes) l.fn.proofs.items l.proofs.items (asked_list (take l.pred-index l.preds)) l.children;
}
