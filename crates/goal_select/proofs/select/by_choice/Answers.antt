use Rattle.std.proofs.Common.{subst}
use Rattle.std.proofs.lemmas.Result.{IfOk-weaker}
use Rattle.goal_select.specs.Words.{Selects, system, choice_of, trait_goal}
use Rattle.goal_select.specs.Own.{IsBuiltInBy, self_part_goals, SelectsKnown}
use Rattle.goal_select.proofs.PartChoices.{parts_selected, size_selected}
use Rattle.goal_select.proofs.select.by_choice.Goals as goal

pub returns-in-Parts : goal.returns-in-Parts
returns-in-Parts c =
    let raw = c.args.sources.now.facts in
    let f = system c.args.sources.now.sources in
    let k = c.args.goal.now in
    let s = c.args.table.now in
    IfOk-weaker c.by_parts.result (λ made. IsBuiltInBy made (self_part_goals k)) (λ made. SelectsKnown raw f s s k (choice_of c.args.choice) made)
    (λ made h n below selects g of known. parts_selected raw f n below s c.lawful.ensures.made k g of known made h.0 (subst (λ x. Selects f n (trait_goal k) (choice_of x)) c.in-Parts.is selects) h.1)
    c.by_parts.ensures

pub returns-in-Size : goal.returns-in-Size
returns-in-Size c n below selects g of known =
    let raw = c.args.sources.now.facts in
    let f = system c.args.sources.now.sources in
    let k = c.args.goal.now in
    let h = c.by_size.ensures in
    size_selected raw f n below c.args.table.now c.lawful.ensures.made k g of known c.by_size.result h.0 (subst (λ x. Selects f n (trait_goal k) (choice_of x)) c.in-Size.is selects) h.1
