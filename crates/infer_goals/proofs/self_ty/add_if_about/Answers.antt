use Rattle.std.proofs.Common.{◌∷◌, [], inl, refl, sym, ◌∙◌, true≢false}
use Rattle.infer_goals.proofs.SelfTy.{not_about_added}
use Rattle.infer_goals.proofs.self_ty.add_if_about.Goals as goal

pub returns-then-not-is_about : goal.returns-then-not-is_about
returns-then-not-is_about c = not_about_added c.args.hole.now c.args.goal c.args.found.now.items (λ h. true≢false (sym (c.is_about.ensures.1 h) ∙ c.if-not-is_about.true))

pub returns : goal.returns
returns c = (c.args.goal ∷ [], inl (c.is_about.ensures.0 c.if-not-is_about.false, refl), c.in_ok-push.ensures.items)
