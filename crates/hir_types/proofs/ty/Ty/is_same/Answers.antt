use Rattle.std.proofs.Common.{sym, ◌∙◌}
use Rattle.hir_types.proofs.Equal.{ty_decides}
use Rattle.hir_types.proofs.ty.Ty.is_same.Goals as goal

pub returns : goal.returns
returns c = let d = ty_decides c.args.self.now c.args.other.now in (λ h. d.0 (sym c.eq.ensures ∙ h), λ e. c.eq.ensures ∙ d.1 e)
