use Rattle.std.proofs.Common.{sym, subst}
use Rattle.hir_types.specs.declared.head.Hole.TheVariants as hole_of
use Rattle.infer_table.specs.Words.{Const, const_term}
use Rattle.infer_table.specs.Own.{MadeIf}
use Rattle.infer_table.proofs.HolesMade.{hole_made}
use Rattle.infer_table.proofs.bindings.Bindings.const_is_made.Goals as goal

pub returns-in-Var : goal.returns-in-Var
returns-in-Var c =
    subst (λ (v : Const). MadeIf c.is_made.result c.args.self.now.kinds (const_term v)) (sym c.in-Var.is)
    (hole_made c.is_made.result c.args.self.now.kinds (hole_of.Const c.in-Var.number) c.is_made.ensures)
