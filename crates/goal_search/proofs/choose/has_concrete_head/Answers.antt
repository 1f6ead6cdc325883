use Rattle.std.proofs.Common.{refl, sym, ◌∙◌, subst}
use Rattle.std.proofs.lemmas.Option.{same_Some}
use Rattle.goal_search.specs.Words.{Rule, IsConcrete}
use Rattle.goal_search.specs.Own.{rule_of}
use Rattle.goal_search.proofs.Only.{mapped_at, mapped_past}
use Rattle.goal_search.proofs.choose.has_concrete_head.Goals as goal

pub returns-in-Some : goal.returns-in-Some
returns-in-Some c =
    let x = c.in-Some.rule.now in
    let at = mapped_at rule_of c.args.rules.now c.args.number x c.in-Some.ensures.lookup.3.0 c.in-Some.ensures.lookup.1 in (
      λ e r h. subst (λ (q : Rule). IsConcrete q.head.parts) (same_Some (rule_of x) r (sym at ∙ h)) (c.is_concrete.ensures.0 e),
      λ h. c.is_concrete.ensures.1 (h (rule_of x) at),
    )

pub returns-in-None : goal.returns-in-None
returns-in-None c = (λ e r h. absurd (mapped_past rule_of c.args.rules.now c.args.number r c.in-None.ensures.lookup.3 h), λ h. refl)
