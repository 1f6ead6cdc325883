use Rattle.std.proofs.Common.{◌≡◌, ◌∷◌, [], true≢false, sym, ap, ◌∙◌, subst}
use Rattle.goal_facts.specs.Words.{asked_of, asked_list}
use Rattle.goal_facts.specs.Own.{Has, Adds}
use Rattle.goal_facts.proofs.Adding.{adds_one}
use Rattle.std.proofs.lemmas.List.{map-append}
use Rattle.goal_facts.proofs.additions.add.Goals as goal

pub returns : goal.returns
returns c =
    let old = asked_list c.args.goals.now.items in
    subst (λ ds. Adds (λ d. d ≡ asked_of c.args.goal) old ds) (sym (ap asked_list c.in_ok-push.ensures.items ∙ map-append asked_of c.args.goals.now.items (c.args.goal ∷ [])))
    (adds_one (asked_of c.args.goal) old (λ h. true≢false (sym (c.has.ensures.1 (subst (λ xs. Has (asked_list xs) (asked_of c.args.goal)) (sym c.deref.ensures.value) h)) ∙ c.if-has.false)) c.requires)
