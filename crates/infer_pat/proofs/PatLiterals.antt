-- A literal that a pattern is has its type, and needs nothing.
use Rattle.std.proofs.Common.{◌≡◌, ◌∙◌, inl, inr, refl, sym, ap, subst, [], slice_get, Option, Some, None, option_and_then}
use Rattle.infer_pat.specs.Words.{ExprId, Ty, RawExpr, RawFacts, IsLiteral, needs_of, needs_at, Given, recorded, AllAreAsked, IsTold, with_expr_ty, InferenceContext}
use Rattle.infer_pat.specs.Words.hir_raw.declared.raw.RawExpr.TheVariants as expr
use Rattle.infer_pat.specs.Words.infer_ctx.Asked.{asked_at}
use Rattle.infer_pat.proofs.Words.{same_or_not, slice_get-set_other}

literal_needs : (raw : RawFacts) (y : Option RawExpr) (o : Option Ty) → IsLiteral y → needs_of raw y o ≡ []
literal_needs raw None o h = absurd h
literal_needs raw (Some (expr.Lit l)) None h = refl
literal_needs raw (Some (expr.Lit l)) (Some t) h = refl
literal_needs raw (Some _) o h = absurd h

module _ (g : Given) (e : ExprId) (t : Ty) (c : InferenceContext) (is : IsLiteral (slice_get g.body.exprs e.0)) where
  needs_here : (o : Option Ty) → needs_of g.scope.facts (slice_get g.body.exprs e.0) o ≡ []
  needs_here o = literal_needs g.scope.facts (slice_get g.body.exprs e.0) o is

  all_asked : AllAreAsked g.scope.facts g.body c → AllAreAsked g.scope.facts g.body (with_expr_ty c e t)
  all_asked before n = elim (same_or_not n e.0) [
    | inl here ↦
        subst (λ m. asked_at c.goals.obligations.tree m ≡ needs_at g.scope.facts g.body (with_expr_ty c e t).result m) (sym here)
        (before e.0 ∙ (needs_here (recorded c.result.type_of_expr e.0) ∙ sym (needs_here (recorded (with_expr_ty c e t).result.type_of_expr e.0))))
    | inr elsewhere ↦
        before n
        ∙ ap (λ (o : Option (Option Ty)). needs_of g.scope.facts (slice_get g.body.exprs n) (option_and_then (λ y. y) o)) (sym (slice_get-set_other c.result.type_of_expr e.0 n (Some t) elsewhere))
  ]

  -- so its type can be recorded, and nothing has to be registered
  pub told_literal : IsTold g c → IsTold g (with_expr_ty c e t)
  told_literal h = record {
    bindings = λ v u at. h.bindings v u at;
    goals = record {
      sources = h.goals.sources;
      bounded = h.goals.bounded;
      kept = h.goals.kept;
      all = h.goals.all;
      heads = h.goals.heads;
      counted = h.goals.counted;
      asked = all_asked h.goals.asked;
    };
  }
