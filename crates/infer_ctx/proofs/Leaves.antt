-- Literals and paths, which have no parts.
use Rattle.std.proofs.Common.{◌≡◌, sym, subst, Some, slice_get, Option}
use Rattle.infer_ctx.specs.Words.{ExprId, Ty, RawExpr, Schedule, IsCarriedType, RawLiteral, InferenceResult, Given, at_or_mismatch, ObeysOrMismatch, HasTy, IsLiteralType}
use Rattle.infer_ctx.specs.Words.hir_raw.declared.raw.RawExpr.TheVariants as expr
use Rattle.infer_result.specs.Rules.{Rule}
use Rattle.infer_ctx.specs.Own.{Found, Extends, PaidBy, expr_end, IsInside, KindWalked}
use Rattle.infer_ctx.proofs.Category.{walks_refl}
use Rattle.infer_ctx.proofs.Types.{carried_literal}
use Rattle.infer_ctx.proofs.Parts.{expr_ahead}

-- the rule of an expression of this kind
pub rule_of : (g : Given) (r : InferenceResult) (e : ExprId) (x : RawExpr) → slice_get g.body.exprs e.0 ≡ Some x → Rule (at_or_mismatch g r) g r e (Some x) → ObeysOrMismatch g r e
rule_of g r e x is h = subst (λ o. Rule (at_or_mismatch g r) g r e o) (sym is) h

-- nothing was done
pub leaf_done : (g : Given) (s : Schedule) (e : ExprId) (x : Option Ty) (t : Ty) (c : Found) → IsInside g s e x c → c.clock ≡ expr_end g.body s e → IsCarriedType t → ((r : InferenceResult) → Extends c.result r → HasTy r e t → ObeysOrMismatch g r e) → KindWalked g s e x t c c
leaf_done g s e x t c h at_end carried rule = record {
  walks = walks_refl g s (PaidBy g e x t) c h.state;
  clock = at_end;
  carried = carried;
  rule = rule;
}

pub literal_done : (g : Given) (s : Schedule) (e : ExprId) (x : Option Ty) (l : RawLiteral) (t : Ty) (c : Found) → IsInside g s e x c → slice_get g.body.exprs e.0 ≡ Some (expr.Lit l) → IsLiteralType l t → KindWalked g s e x t c c
literal_done g s e x l t c h is k =
    leaf_done g s e x t c h (expr_ahead g.body s e (expr.Lit l) c.clock h.ready.law.schedule h.within is h.clock).1 (carried_literal l t k)
    (λ r q has. rule_of g r e (expr.Lit l) is (t, has, k))
