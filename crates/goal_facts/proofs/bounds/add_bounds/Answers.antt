use Rattle.goal_facts.specs.Words.{asked_list}
use Rattle.goal_facts.specs.Own.{BoundSays}
use Rattle.goal_facts.proofs.Adding.{before_next, before_all}
use Rattle.goal_facts.proofs.bounds.add_bounds.Goals as goal

pub loop-bound-preserved : goal.loop-bound-preserved
loop-bound-preserved c =
    before_next (λ i g. BoundSays c.args.facts.now c.args.alias c.args.args.now g) c.args.bounds.now c.loop-bound.bound-index c.bound-item.result
    (asked_list c.args.made.now.items) (asked_list c.loop-bound.made.items) (asked_list c.add_bound.new.made.items) c.loop-bound-test.true c.bound-item.is c.loop-bound.invariant c.in_ok-add_bound.ensures

pub returns : goal.returns
returns c =
    before_all (λ i g. BoundSays c.args.facts.now c.args.alias c.args.args.now g) c.args.bounds.now c.loop-bound.bound-index
    (asked_list c.args.made.now.items) (asked_list c.loop-bound.made.items) c.loop-bound-test.false c.loop-bound.invariant
