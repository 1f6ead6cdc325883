use Rattle.std.proofs.Common.{◌≡◌, ◌∙◌, sym}
use Rattle.goal_facts.specs.Words.{asked_of, asked_list}
use Rattle.goal_facts.specs.Own.{goal_at}
use Rattle.goal_facts.proofs.Adding.{adds_as, before_next, before_all}
use Rattle.goal_facts.proofs.environment.add_goals.Goals as goal

pub loop-goal-preserved : goal.loop-goal-preserved
loop-goal-preserved c =
    before_next (λ i g d. d ≡ goal_at c.args.facts.now c.args.args.now g) c.args.goals.now c.loop-goal.goal-index c.goal-item.result
    (asked_list c.args.made.now.items) (asked_list c.loop-goal.made.items) (asked_list c.add.new.goals.items) c.loop-goal-test.true c.goal-item.is c.loop-goal.invariant
    (adds_as (λ d. d ≡ asked_of c.in_ok-goal_at.field-0) (λ d. d ≡ goal_at c.args.facts.now c.args.args.now c.goal-item.result) (asked_list c.loop-goal.made.items) (asked_list c.add.new.goals.items)
    (λ d e. e ∙ c.in_ok-goal_at.ensures.is) (λ d e. e ∙ sym c.in_ok-goal_at.ensures.is) c.in_ok-add.ensures)

pub returns : goal.returns
returns c =
    before_all (λ i g d. d ≡ goal_at c.args.facts.now c.args.args.now g) c.args.goals.now c.loop-goal.goal-index
    (asked_list c.args.made.now.items) (asked_list c.loop-goal.made.items) c.loop-goal-test.false c.loop-goal.invariant
