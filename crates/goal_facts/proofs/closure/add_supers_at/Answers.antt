use Rattle.std.proofs.Common.{◌≡◌, ◌∙◌, sym, subst}
use Rattle.std.specs.Prelude.{slice_get, Some}
use Rattle.std.proofs.lemmas.Option.{same_Some}
use Rattle.std.proofs.lemmas.Result.{on_ok_weaker}
use Rattle.goal_facts.specs.Words.{Asked, term_of, HasHeads, kind_of, asked_of, asked_list}
use Rattle.goal_facts.specs.Own.{IsSuper, Adds}
use Rattle.goal_facts.proofs.Adding.{get_here, get_mapped}
use Rattle.goal_facts.proofs.closure.add_supers_at.Goals as goal

pub add_supers-requires : goal.add_supers-requires
add_supers-requires c =
    let items = c.args.goals.now.items in
    let x = c.index-as_slice-place.result in
    let here : slice_get (asked_list items) c.args.place ≡ Some (asked_of x) = get_mapped asked_of items c.args.place x (get_here items c.args.place x c.requires.place (rw c.as_slice.ensures.value at c.index-as_slice-place.is)) in
    subst HasHeads (sym c.in_ok-args.ensures) (c.requires.heads c.args.place (asked_of x) here)

pub returns : goal.returns
returns c =
    let items = c.args.goals.now.items in
    let x = c.index-as_slice-place.result in
    let here : slice_get (asked_list items) c.args.place ≡ Some (asked_of x) = get_mapped asked_of items c.args.place x (get_here items c.args.place x c.requires.place (rw c.as_slice.ensures.value at c.index-as_slice-place.is)) in
    let clause : Asked = record { kind = kind_of x.kind; parts = term_of c.in_ok-args.args } in
    let same : clause ≡ asked_of x = λ i. record { kind = kind_of x.kind; parts = c.in_ok-args.ensures i } in
    on_ok_weaker c.add_supers.result
    (λ h d at. subst (λ y. Adds (IsSuper c.args.facts.now y) (asked_list items) (asked_list c.add_supers.new.goals.items)) (same ∙ same_Some (asked_of x) d (sym here ∙ at)) h)
    c.add_supers.ensures
