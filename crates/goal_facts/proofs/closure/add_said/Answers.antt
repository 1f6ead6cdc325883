use Rattle.goal_facts.specs.Words.{term_of, asked_list}
use Rattle.goal_facts.specs.Own.{SaysAt}
use Rattle.goal_facts.proofs.Adding.{before_next, before_all}
use Rattle.goal_facts.proofs.closure.add_said.Goals as goal

pub loop-pred-preserved : goal.loop-pred-preserved
loop-pred-preserved c =
    before_next (λ i g. SaysAt c.args.facts.now c.args.holes.now (term_of c.args.args.now) g) c.args.preds.now c.loop-pred.pred-index c.pred-item.result
    (asked_list c.args.goals.now.items) (asked_list c.loop-pred.goals.items) (asked_list c.add_said_by.new.goals.items) c.loop-pred-test.true c.pred-item.is c.loop-pred.invariant c.in_ok-add_said_by.ensures

pub returns : goal.returns
returns c =
    before_all (λ i g. SaysAt c.args.facts.now c.args.holes.now (term_of c.args.args.now) g) c.args.preds.now c.loop-pred.pred-index
    (asked_list c.args.goals.now.items) (asked_list c.loop-pred.goals.items) c.loop-pred-test.false c.loop-pred.invariant
