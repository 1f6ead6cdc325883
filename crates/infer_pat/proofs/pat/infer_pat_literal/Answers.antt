use Rattle.std.proofs.Common.{◌∙◌, refl, sym, ap, subst}
use Rattle.infer_pat.specs.Words.{given_of, schedule_of, expected_type, with_expr_ty, Within, OwnDone, KindDone}
use Rattle.infer_pat.proofs.Words.{comes_within, own_done}
use Rattle.infer_pat.proofs.PatLiterals.{told_literal}
use Rattle.infer_pat.proofs.pat.infer_pat_literal.Goals as goal
use Rattle.infer_pat.specs.Words.infer_result.Columns as column

pub infer_literal-requires-clause-before : goal.infer_literal-requires-clause-before
infer_literal-requires-clause-before c =
    subst (λ k. Within (given_of c.args.given.now) (schedule_of c.args.given.now) c.args.expr (expected_type c.args.expected) k) (sym c.enter.ensures) (comes_within _ _ _ _ _ c.requires.before)

-- there is a place for the type
pub write_expr_ty-requires : goal.write_expr_ty-requires
write_expr_ty-requires c = rw (c.in_ok-ty.ensures.kind.follows.of_body.long column.type_of_expr) c.requires.before.within

pub returns : goal.returns
returns c =
    let g = given_of c.args.given.now in
    let s = schedule_of c.args.given.now in
    let mid = c.infer_literal.new.context in
    let kind = subst (λ k. KindDone g s c.args.expr (expected_type c.args.expected) c.in_ok-ty.ty k mid) c.enter.ensures c.in_ok-ty.ensures.kind in
    subst (λ k. OwnDone g s c.args.expr (expected_type c.args.expected) c.in_ok-ty.ty c.args.context.now k)
    (sym (c.write_expr_ty.ensures ∙ ap (λ y. with_expr_ty mid c.args.expr y) c.in_ok-recorded.ensures))
    (own_done _ _ _ _ _ _ mid mid.goals c.requires.before kind refl refl (told_literal g c.args.expr c.in_ok-ty.ty mid c.requires.is))
