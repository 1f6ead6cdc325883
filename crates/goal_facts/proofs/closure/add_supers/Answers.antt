use Rattle.std.proofs.Common.{◌≡◌, ◌∙◌, ap}
use Rattle.std.proofs.lemmas.Result.{on_ok_weaker}
use Rattle.goal_facts.specs.Words.{term_of, kind_of, asked_list}
use Rattle.goal_facts.specs.Own.{holes, trait_preds, trait_holes}
use Rattle.goal_facts.proofs.Following.{supers_said}
use Rattle.goal_facts.proofs.closure.add_supers.Goals as goal

pub returns-in_ok-holes-in-Implements : goal.returns-in_ok-holes-in-Implements
returns-in_ok-holes-in-Implements c =
    let raw = c.args.facts.now in
    let here : c.raw-raw.result.now ≡ raw = c.raw-raw.ensures.value in
    on_ok_weaker c.add_said.result
    (supers_said raw (record { kind = kind_of c.args.kind; parts = term_of c.args.args.now }) c.in-Implements.id c.in_ok-holes-in-Implements.holes c.trait_preds.result.now
    (asked_list c.args.goals.now.items) (asked_list c.add_said.new.goals.items)
    (ap kind_of c.in-Implements.is)
    (c.in_ok-holes-in-Implements.ensures ∙ (ap holes c.generic_params.ensures ∙ ap (λ r. trait_holes r c.in-Implements.id) here))
    (c.trait_preds.ensures ∙ ap (λ r. trait_preds r c.in-Implements.id) here))
    c.add_said.ensures
