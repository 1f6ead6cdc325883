use Rattle.std.proofs.Common.{inl, inr, refl, sym, subst, ◌∙◌, true≢false}
use Rattle.std.proofs.lemmas.Result.{on_ok_weaker}
use Rattle.infer_needs.specs.Words.{Same, erased_tells}
use Rattle.infer_needs.specs.Own.{clash, IsSaidOnce}
use Rattle.infer_needs.proofs.note.list.Goals as goal

pub returns-then-branch : goal.returns-then-branch
returns-then-branch c = inr (refl, c.in-Some.first.now, c.in-Some.ensures, inl (c.in_ok-is_same_ty.ensures.0 c.if-branch.true, refl))

pub returns : goal.returns
returns c =
    let first = c.in-Some.first.now in
    let differ : Same first c.args.ty → ⊥ = λ same. true≢false (sym (c.in_ok-is_same_ty.ensures.1 (erased_tells first c.args.ty same)) ∙ c.if-branch.false) in
    on_ok_weaker c.say.result
    (λ said. inr (refl, first, c.in-Some.ensures, inr (differ, subst (λ t. IsSaidOnce (clash c.args.node c.args.alias t c.args.ty) c.args.gaps.now c.say.new.gaps) c.in_ok-first.ensures said))) c.say.ensures
