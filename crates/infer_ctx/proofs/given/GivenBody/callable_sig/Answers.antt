use Rattle.std.proofs.Common.{sym, subst}
use Rattle.infer_ctx.specs.Own.{IsSigOfItem}
use Rattle.infer_ctx.proofs.given.GivenBody.callable_sig.Goals as goal

pub returns-in_ok-sig-in-FnDef : goal.returns-in_ok-sig-in-FnDef
returns-in_ok-sig-in-FnDef c =
    let raw = c.args.self.now.facts.now in (
      c.requires _ _ c.in-FnDef.is,
      subst (λ t. IsSigOfItem raw t c.in_ok-sig-in-FnDef.sig) (sym c.in-FnDef.is) c.in_ok-sig-in-FnDef.ensures,
    )
