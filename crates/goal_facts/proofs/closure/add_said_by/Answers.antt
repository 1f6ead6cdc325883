use Rattle.std.proofs.Common.{subst}
use Rattle.std.specs.Prelude.{option_map}
use Rattle.std.proofs.lemmas.Result.{on_ok_weaker}
use Rattle.goal_facts.specs.Words.{term_of, asked_of, asked_list}
use Rattle.goal_facts.specs.Own.{SaysAt, SaysIf}
use Rattle.goal_facts.proofs.Adding.{adds_said, adds_nothing}
use Rattle.goal_facts.proofs.Arguing.{says_one}
use Rattle.goal_facts.proofs.closure.add_said_by.Goals as goal

pub returns-in-Some : goal.returns-in-Some
returns-in-Some c =
    let said = subst (λ o. SaysIf c.args.facts.now c.args.holes.now (term_of c.args.args.now) c.args.pred.now (option_map asked_of o)) c.in-Some.is c.in_ok-found.ensures.is in
    on_ok_weaker c.add.result
    (adds_said (SaysAt c.args.facts.now c.args.holes.now (term_of c.args.args.now) c.args.pred.now) (asked_of c.in-Some.found) (asked_list c.args.goals.now.items) (asked_list c.add.new.goals.items)
    (says_one c.args.facts.now c.args.holes.now (term_of c.args.args.now) c.args.pred.now) said)
    c.add.ensures

pub returns-in-None : goal.returns-in-None
returns-in-None c =
    adds_nothing (SaysAt c.args.facts.now c.args.holes.now (term_of c.args.args.now) c.args.pred.now) (asked_list c.args.goals.now.items)
    (subst (λ o. SaysIf c.args.facts.now c.args.holes.now (term_of c.args.args.now) c.args.pred.now (option_map asked_of o)) c.in-None.is c.in_ok-found.ensures.is)
