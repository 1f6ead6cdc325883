use Rattle.std.proofs.Common.{refl, subst}
use Rattle.goal_prove.specs.Words.{hole, asked_at, known_below, Sources, Decides, asked_of, system, asked_goal}
use Rattle.goal_prove.proofs.Adding.{adds_none}
use Rattle.goal_prove.proofs.Children.{children_none}
use Rattle.goal_prove.proofs.Whole.{answered, not_proved, is_other}
use Rattle.goal_prove.proofs.prove.prove_goal.Goals as goal

pub prove_yes-requires-clause-yes : goal.prove_yes-requires-clause-yes
prove_yes-requires-clause-yes c =
    let s = c.args.sources.now.sources in
    let n = c.args.depth in
    let m = c.in_ok-steps.steps in
    let x = c.in_ok-asked.asked in
    let a = c.in_ok-evaluate.field-0 in
    let e = c.in_ok-steps.ensures in
    let found = subst (λ (z : Sources). Decides ((known_below (system z) m).Yes (asked_at hole (asked_of x))) ((known_below (system z) m).No (asked_at hole (asked_of x))) a) c.in_ok-search.ensures c.in_ok-evaluate.ensures.answer in
    let all = answered s n m x (asked_goal c.args.goal.now) a c.in_ok-asked.ensures.is e found in
    rw c.in-Yes.is at all

pub returns : goal.returns
returns c =
    let s = c.args.sources.now.sources in
    let n = c.args.depth in
    let m = c.in_ok-steps.steps in
    let x = c.in_ok-asked.asked in
    let a = c.in_ok-evaluate.field-0 in
    let e = c.in_ok-steps.ensures in
    let found = subst (λ (z : Sources). Decides ((known_below (system z) m).Yes (asked_at hole (asked_of x))) ((known_below (system z) m).No (asked_at hole (asked_of x))) a) c.in_ok-search.ensures c.in_ok-evaluate.ensures.answer in
    let all = answered s n m x (asked_goal c.args.goal.now) a c.in_ok-asked.ensures.is e found in
    record {
      adds = adds_none c.args.sources.now.facts (system s) c.args.proofs.now.items;
      roots = children_none _ c.args.proofs.now.items;
      proved = not_proved (system s) n (asked_goal c.args.goal.now) a all (is_other a c.in-No.is);
      keeps = refl;
    }
