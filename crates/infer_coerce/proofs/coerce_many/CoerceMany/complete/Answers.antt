use Rattle.std.proofs.Common.{sym, subst}
use Rattle.hir_types.specs.declared.ty.Ty.TheVariants as ty
use Rattle.infer_coerce.specs.Words.{hole_count, scope_in, expected_type, with_table}
use Rattle.infer_coerce.specs.Own.{Completes}
use Rattle.infer_coerce.proofs.Merged.{hole_completes}
use Rattle.infer_coerce.proofs.coerce_many.CoerceMany.complete.Goals as goal

pub returns-in_ok-ty-in-None : goal.returns-in_ok-ty-in-None
returns-in_ok-ty-in-None c =
    subst (λ t. Completes (scope_in c.args.given.now) (expected_type c.args.expected) c.args.self t c.args.context.now (with_table c.args.context.now c.next_ty_var.new.self)) (sym c.in_ok-ty-in-None.ensures.hole)
    (subst (λ s. Completes (scope_in c.args.given.now) (expected_type c.args.expected) c.args.self (ty.Var (hole_count c.args.context.now.goals.table)) c.args.context.now (with_table c.args.context.now s)) (sym c.in_ok-ty-in-None.ensures.made)
    (hole_completes (expected_type c.args.expected) c.args.self c.args.context.now c.requires.sound (sym c.in-None.ensures) c.in-Nothing.is))
