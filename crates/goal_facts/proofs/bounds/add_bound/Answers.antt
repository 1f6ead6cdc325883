use Rattle.std.proofs.Common.{subst}
use Rattle.std.specs.Prelude.{option_map}
use Rattle.std.proofs.lemmas.Result.{on_ok_weaker}
use Rattle.goal_facts.specs.Words.{asked_of, asked_list}
use Rattle.goal_facts.specs.Own.{BoundSays, BoundSaysIf}
use Rattle.goal_facts.proofs.Adding.{adds_said, adds_nothing}
use Rattle.goal_facts.proofs.Arguing.{bound_one}
use Rattle.goal_facts.proofs.bounds.add_bound.Goals as goal

pub returns-in-Some : goal.returns-in-Some
returns-in-Some c =
    let said = subst (λ o. BoundSaysIf c.args.facts.now c.args.alias c.args.args.now c.args.bound.now (option_map asked_of o)) c.in-Some.is c.in_ok-found.ensures.is in
    on_ok_weaker c.add.result
    (adds_said (BoundSays c.args.facts.now c.args.alias c.args.args.now c.args.bound.now) (asked_of c.in-Some.found) (asked_list c.args.made.now.items) (asked_list c.add.new.goals.items)
    (bound_one c.args.facts.now c.args.alias c.args.args.now c.args.bound.now) said)
    c.add.ensures

pub returns-in-None : goal.returns-in-None
returns-in-None c =
    adds_nothing (BoundSays c.args.facts.now c.args.alias c.args.args.now c.args.bound.now) (asked_list c.args.made.now.items)
    (subst (λ o. BoundSaysIf c.args.facts.now c.args.alias c.args.args.now c.args.bound.now (option_map asked_of o)) c.in-None.is c.in_ok-found.ensures.is)
