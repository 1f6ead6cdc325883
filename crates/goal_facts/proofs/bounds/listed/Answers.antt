use Rattle.std.proofs.Common.{rules, ◌≡◌, ◌∙◌, ap, subst}
use Rattle.goal_facts.specs.Words.{asked_list}
use Rattle.std.specs.Prelude.{[]}
use Rattle.goal_facts.specs.Own.{Adds, SomeSays, holes, trait_holes, AliasLists}
use Rattle.goal_facts.proofs.Adding.{before_next, before_all}
use Rattle.goal_facts.proofs.Systems.{alias_lists}
use Rattle.goal_facts.proofs.bounds.listed.Goals as goal

pub loop-place-preserved : goal.loop-place-preserved
loop-place-preserved c =
    let raw = c.args.facts.now in
    let number : c.in_ok-number.number ≡ c.loop-place.place = search rules in
    let args = c.in_ok-args.ensures ∙ (ap holes c.generic_params.ensures ∙ ap (λ r. trait_holes r c.index-aliases-place.result.trait_) c.raw-raw.ensures.value) in
    before_next (AliasLists raw) c.as_slice-aliases.result.now c.loop-place.place c.index-aliases-place.result [] (asked_list c.loop-place.made.items) (asked_list c.add_bounds.new.made.items)
    c.loop-place-test.true c.index-aliases-place.is c.loop-place.invariant
    (alias_lists raw c.loop-place.place (record { 0 = c.in_ok-number.number }) c.index-aliases-place.result c.in_ok-args.args c.as_slice-bounds.result.now
    (asked_list c.loop-place.made.items) (asked_list c.add_bounds.new.made.items) number args c.as_slice-bounds.ensures c.in_ok-add_bounds.ensures)

pub returns : goal.returns
returns c =
    subst (λ xs. Adds (SomeSays (AliasLists c.args.facts.now) xs) [] (asked_list c.loop-place.made.items)) (c.as_slice-aliases.ensures ∙ ap (λ r. r.aliases) c.raw-raw.ensures.value)
    (before_all (AliasLists c.args.facts.now) c.as_slice-aliases.result.now c.loop-place.place [] (asked_list c.loop-place.made.items) c.loop-place-test.false c.loop-place.invariant)
