use Rattle.std.proofs.Common.{sym, subst, None}
use Rattle.hir_types.specs.declared.ty.Ty.TheVariants as ty
use Rattle.infer_pat.specs.Words.{hole_count, scope_in, with_table}
use Rattle.infer_pat.specs.Own.{IsGivenOrNew}
use Rattle.infer_pat.proofs.PatHoles.{new_one}
use Rattle.infer_pat.proofs.pat.given_or_new.Goals as goal

pub returns-in_ok-ty-in-None : goal.returns-in_ok-ty-in-None
returns-in_ok-ty-in-None c =
    subst (λ x. IsGivenOrNew (scope_in c.args.given.now) x c.in_ok-ty-in-None.ty c.args.context.now (with_table c.args.context.now c.next_ty_var.new.self)) (sym c.in-None.is)
    (subst (λ t. IsGivenOrNew (scope_in c.args.given.now) None t c.args.context.now (with_table c.args.context.now c.next_ty_var.new.self)) (sym c.in_ok-ty-in-None.ensures.hole)
    (subst (λ s. IsGivenOrNew (scope_in c.args.given.now) None (ty.Var (hole_count c.args.context.now.goals.table)) c.args.context.now (with_table c.args.context.now s)) (sym c.in_ok-ty-in-None.ensures.made)
    (new_one c.args.context.now c.requires.sound)))
