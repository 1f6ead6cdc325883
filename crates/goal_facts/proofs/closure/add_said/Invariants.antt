use Rattle.goal_facts.specs.Words.{term_of, asked_list}
use Rattle.goal_facts.specs.Own.{Adds, SomeSaysBefore, SaysAt}
use Rattle.goal_facts.proofs.closure.add_said.Given as goal

abbrev pub invariant-loop-pred : goal.invariant-loop-pred
invariant-loop-pred l = Adds (SomeSaysBefore (λ i g. SaysAt l.facts l.holes (term_of l.args) g) l.preds l.pred-index) (asked_list l.fn.goals.items) (asked_list l.goals.items)
