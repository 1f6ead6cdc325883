use Rattle.std.proofs.Common.{sym, ◌∙◌}
use Rattle.infer_ctx.proofs.Expected.{of_alternatives_at, unless_open_var, unless_open_known}
use Rattle.infer_ctx.proofs.expectation.Expectation.adjust_for_branches.Goals as goal

pub returns-in-Var : goal.returns-in-Var
returns-in-Var c =
    rw c.in-HasType.is (sym (of_alternatives_at c.args.table.now c.in-HasType.ty.now c.shallow_resolve.result.now c.shallow_resolve.ensures.same c.shallow_resolve.ensures.open
    ∙ unless_open_var c.in-HasType.ty.now c.shallow_resolve.result.now _ c.in-Var.is))

pub returns-in_default : goal.returns-in_default
returns-in_default c =
    rw c.in-HasType.is (sym (of_alternatives_at c.args.table.now c.in-HasType.ty.now c.shallow_resolve.result.now c.shallow_resolve.ensures.same c.shallow_resolve.ensures.open
    ∙ unless_open_known c.in-HasType.ty.now c.shallow_resolve.result.now c.in_default.not-Var))
