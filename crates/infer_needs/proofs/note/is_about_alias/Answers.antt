use Rattle.std.proofs.Common.{sym, ap, subst, true≢false}
use Rattle.infer_needs.specs.Words.{asked_goal, IsAboutAlias}
use Rattle.infer_needs.proofs.ReadGoals.{trait_not_about, itself_not_about}
use Rattle.infer_needs.proofs.note.is_about_alias.Goals as goal

pub returns-in-Trait : goal.returns-in-Trait
returns-in-Trait c = (λ h. absurd (true≢false (sym h)), λ h. absurd (trait_not_about (asked_goal c.args.goal.now) c.in-Trait._trait_ref (ap (λ g. (asked_goal g).kind) c.in-Trait.is) h))

pub returns-then-branch : goal.returns-then-branch
returns-then-branch c = (
  λ h. absurd (true≢false (sym h)),
  λ h. absurd (itself_not_about c.in-Projection.alias c.in-Projection.args c.in-Projection.ty (c.in_ok-is_itself-in-Projection.ensures.0 c.if-branch.true) (subst (λ g. IsAboutAlias (asked_goal g)) c.in-Projection.is h)),
)
