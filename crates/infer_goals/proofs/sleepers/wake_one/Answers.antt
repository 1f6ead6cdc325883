use Rattle.std.proofs.Common.{◌≡◌, ◌∙◌, false, List, Bool, get_or, slice_set, sym, ap, subst}
use Rattle.std.proofs.lemmas.List.{get_or_read}
use Rattle.infer_goals.specs.Own.{Sleeps, AreWoken}
use Rattle.infer_goals.proofs.Waking.{woken_one}
use Rattle.infer_goals.proofs.sleepers.wake_one.Goals as goal

pub returns : goal.returns
returns c =
    let asleep = c.args.asleep.now.items in
    let todo = c.args.todo.now.items in
    let at = c.args.at in
    let b = c.in-Some-true.field-0.now in
    let read : b ≡ get_or c.deref.result.now at false = get_or_read c.deref.result.now at b c.in-Some-true.ensures.lookup.3.0 c.in-Some-true.ensures.lookup.1 false in
    let sleeps : Sleeps asleep at = ap (λ (xs : List Bool). get_or xs at false) (sym c.deref.ensures.value) ∙ (sym read ∙ c.in-Some-true.field-0-test) in
    subst (λ ys. AreWoken (λ i. i ≡ at) asleep todo (slice_set asleep at false) ys) (sym c.in_ok-push.ensures.items) (woken_one asleep todo at sleeps)
