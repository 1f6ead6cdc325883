use Rattle.std.proofs.Common.{sym, subst, Option, ◌∙◌}
use Rattle.infer_pat.specs.Words.{Ty, hole_count, scope_in, expected_type, with_table}
use Rattle.hir_types.specs.declared.ty.Ty.TheVariants as ty
use Rattle.infer_pat.specs.Own.{IntDone}
use Rattle.infer_pat.proofs.Literals.{known_int, int_hole}
use Rattle.infer_pat.proofs.literal.infer_unsuffixed.Goals as goal

pub returns-in_ok-ty-in-None : goal.returns-in_ok-ty-in-None
returns-in_ok-ty-in-None c =
    let x : Option Ty = expected_type c.args.expected in
    subst (λ t. IntDone (scope_in c.args.given.now) x t c.args.context.now (with_table c.args.context.now c.next_int_var.new.self)) (sym c.in_ok-ty-in-None.ensures.hole)
    (subst (λ s. IntDone (scope_in c.args.given.now) x (ty.IntVar (hole_count c.args.context.now.goals.table)) c.args.context.now (with_table c.args.context.now s)) (sym c.in_ok-ty-in-None.ensures.made)
    (int_hole c.args.context.now x c.requires (sym c.expected_integer.ensures ∙ c.in-None.is)))

pub returns-in-Some : goal.returns-in-Some
returns-in-Some c = known_int c.args.context.now c.in-Some.ty (expected_type c.args.expected) c.requires (sym c.expected_integer.ensures ∙ c.in-Some.is)
