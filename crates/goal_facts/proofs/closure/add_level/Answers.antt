use Rattle.std.proofs.Common.{◌≡◌, subst, arith}
use Rattle.std.proofs.lemmas.List.{length-map}
use Rattle.goal_facts.specs.Words.{asked_of, asked_list}
use Rattle.goal_facts.specs.Own.{Adds, SomeSuper}
use Rattle.goal_facts.proofs.Following.{no_shorter, entry_at, supers_next}
use Rattle.goal_facts.proofs.closure.add_level.Goals as goal

pub add_supers_at-requires : goal.add_supers_at-requires
add_supers_at-requires c =
    let long = no_shorter (asked_list c.args.goals.now.items) (asked_list c.loop-place.goals.items) c.loop-place.invariant.1.stay in
    let same = length-map c.loop-place.goals.items asked_of in
    record { place = omega (arith, long, same, c.requires.to, c.loop-place-test.true); heads = c.loop-place.invariant.1.heads c.requires.heads }

pub loop-place-preserved : goal.loop-place-preserved
loop-place-preserved c =
    let old = asked_list c.args.goals.now.items in
    let low = c.loop-place.invariant.0 in
    let entry = entry_at old c.loop-place.place (omega (arith, c.requires.to, c.loop-place-test.true)) in (
      omega (arith, low),
      supers_next c.args.facts.now c.args.from c.loop-place.place entry.0 old (asked_list c.loop-place.goals.items) (asked_list c.add_supers_at.new.goals.items) low entry.1 c.loop-place.invariant.1
          (c.in_ok-add_supers_at.ensures entry.0 (c.loop-place.invariant.1.stay c.loop-place.place entry.0 entry.1)),
    )

pub returns : goal.returns
returns c =
    let end : c.loop-place.place ≡ c.args.to = omega (arith, c.loop-place.auto.place-end c.requires.from, c.loop-place-test.false) in
    let old = asked_list c.args.goals.now.items in
    subst (λ n. Adds (SomeSuper c.args.facts.now c.args.from n old) old (asked_list c.loop-place.goals.items)) end c.loop-place.invariant.1
