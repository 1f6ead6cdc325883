-- The record of an expression's own type closes the walk of its parts.
use Rattle.std.proofs.Common.{inl, inr, arith, Option, ◌<◌, ◌≡◌, ◌≢◌, refl, length, sym, ap, subst, ◌∙◌, Some, slice_get}
use Rattle.std.proofs.Math.ListN.{length-set}
use Rattle.infer_ctx.specs.Words.{ExprId, Ty, Schedule, IsCarriedType, Given, HasTy, ObeysOrMismatch}
use Rattle.infer_ctx.specs.Own.{Found, entered, pat_start, IsCarriedTable, IsWalked, IsFree, Extends, expr_start, ComesTo, IsInside, KindWalked, OwnWalked}
use Rattle.infer_ctx.specs.Found.{with_expr_ty}
use Rattle.infer_ctx.proofs.Lists.{lt_or_ge, slice_get-set_same, slice_get-set_other, At-set, At-set_cases}
use Rattle.infer_ctx.proofs.Parts.{expr_is_no_pat, binds_within, expr_id, one_expr}
use Rattle.infer_ctx.proofs.Words.{long_with, types_with}
use Rattle.infer_ctx.proofs.Keeps.{columns_written, seen_as_entered, extends_trans, obeys_kept, pat_kept, pat_truth_kept, diagnostic_kept, seen_as_kept, misfit_kept, demand_kept}
use Rattle.infer_result.specs.Columns as column

-- the clock goes on to the parts of the expression
pub entered_within : (g : Given) (s : Schedule) (e : ExprId) (x : Option Ty) (c : Found) → ComesTo g s e x c → IsInside g s e x (entered c)
entered_within g s e x c h = record {
  ready = h.ready;
  state = record {
    of_body = h.state.of_body;
    carried = h.state.carried;
    modes = h.state.modes;
    pat_diagnostics = h.state.pat_diagnostics;
    variants = h.state.variants;
    placeholders = h.state.placeholders;
    items = h.state.items;
    seen = λ i y at. seen_as_entered g c y (h.state.seen i y at);
    diagnostics = h.state.diagnostics;
    free_exprs = λ n i k. h.state.free_exprs n i (omega arith);
    free_pats = λ p i k. h.state.free_pats p i (omega arith);
    free_modes = λ p i k. h.state.free_modes p i (omega arith);
    free_items = λ p i k. h.state.free_items p i (omega arith);
    free_bindings = λ p v i k. h.state.free_bindings p v i (omega arith);
    bound = λ p v i k.
        elim (lt_or_ge (pat_start g.body s p) c.clock) [
          | inl l ↦ h.state.bound p v i l
          | inr r ↦
              absurd (expr_is_no_pat g.body s h.ready.law.schedule e p h.within (binds_within g.body p v i) (omega (arith, h.here)))
        ];
  };
  within = h.within;
  clock = omega (arith, h.here);
  expected = h.expected;
}

-- the own type of e is all that is new
module _ (g : Given) (s : Schedule) (e : ExprId) (x : Option Ty) (t : Ty) (old last : Found) (h : ComesTo g s e x old) (k : KindWalked g s e x t (entered old) last) where
  abbrev new : Found
  new = with_expr_ty last e t

  free_type : IsFree last.result.type_of_expr e.0
  free_type = k.walks.kept e h.within (omega (arith, h.here)) ∙ h.state.free_exprs e h.within (omega (arith, h.here))

  long : e.0 < length last.result.type_of_expr
  long = rw (k.walks.state.of_body.long column.type_of_expr) h.within

  extends : Extends last.result new.result
  extends = record {
    columns = columns_written last.result column.type_of_expr _ (λ n u i. At-set last.result.type_of_expr e.0 n t u free_type i);
    diagnostics = λ n d i. inl i;
    seen = λ n h. record { position = h.position; entry = h.entry; found = h.found; is_node = h.is_node };
  }

  has : HasTy new.result e t
  has = slice_get-set_same last.result.type_of_expr e.0 (Some t) long

  -- another node has another number
  other : (n : ExprId) → expr_start g.body s n ≢ expr_start g.body s e → n.0 ≢ e.0
  other n ne i = ne (ap (λ m. expr_start g.body s m) (expr_id n e i))

  other_type : (n : ExprId) → expr_start g.body s n ≢ expr_start g.body s e → slice_get new.result.type_of_expr n.0 ≡ slice_get last.result.type_of_expr n.0
  other_type n ne = slice_get-set_other last.result.type_of_expr e.0 n.0 (Some t) (other n ne)

  carried : IsCarriedTable new.result
  carried = types_with IsCarriedType last.result column.type_of_expr _ (λ n u i. elim (At-set_cases last.result.type_of_expr e.0 n t u long i) [
    | inl q ↦ k.walks.state.carried.each column.type_of_expr n u q
    | inr q ↦ subst (λ v. IsCarriedType v) q.1 k.carried
  ]) k.walks.state.carried

  state : IsWalked g s new
  state = record {
    of_body = long_with g.body last.result column.type_of_expr _ (length-set last.result.type_of_expr e.0 (Some t) ∙ k.walks.state.of_body.long column.type_of_expr) k.walks.state.of_body;
    carried = carried;
    modes = k.walks.state.modes;
    pat_diagnostics = k.walks.state.pat_diagnostics;
    variants = record { exprs = k.walks.state.variants.exprs; pats = k.walks.state.variants.pats };
    placeholders = k.walks.state.placeholders;
    items = k.walks.state.items;
    seen = λ i y at. seen_as_kept g last new extends (λ n d q. q) refl y (k.walks.state.seen i y at);
    diagnostics = λ n d i. diagnostic_kept g last.result new.result extends n d (k.walks.state.diagnostics n d i);
    free_exprs = λ n i lo.
        other_type n (omega (arith, k.walks.clock, h.here)) ∙ k.walks.state.free_exprs n i lo;
    free_pats = k.walks.state.free_pats;
    free_modes = k.walks.state.free_modes;
    free_items = k.walks.state.free_items;
    free_bindings = k.walks.state.free_bindings;
    bound = k.walks.state.bound;
  }

  obeys : ObeysOrMismatch g new.result e
  obeys = k.rule new.result extends has

  pub close : OwnWalked g s e x t old new
  close = record {
    walks = record {
      clock = omega (arith, k.walks.clock);
      extends = extends_trans old.result last.result new.result k.walks.extends extends;
      kept = λ n i lo. other_type n (omega (arith, h.here)) ∙ k.walks.kept n i (omega arith);
      kept_pats = λ p i lo. k.walks.kept_pats p i (omega arith);
      state = state;
      made = λ n i lo hi.
          elim (lt_or_ge old.clock (expr_start g.body s n)) [
            | inl l ↦ obeys_kept g last.result new.result extends n (k.walks.made n i (omega arith) hi)
            | inr r ↦
                (let is : n ≡ e = one_expr g.body s h.ready.law.schedule n e i h.within (omega (arith, h.here)) in
                subst (λ a. ObeysOrMismatch g new.result a) (sym is) obeys)
          ];
      pats_made = λ p i lo hi.
          elim (lt_or_ge old.clock (pat_start g.body s p)) [
            | inl l ↦ pat_kept g last.result new.result extends p (slice_get g.body.pats p.0) (k.walks.pats_made p i (omega arith) hi)
            | inr r ↦ absurd (expr_is_no_pat g.body s h.ready.law.schedule e p h.within i (omega (arith, h.here)))
          ];
      truths = λ n m i.
          elim (k.walks.truths n m i) [
            | inl o ↦ inl o
            | inr o ↦
                inr (
                  misfit_kept g last.result new.result extends n m o.0,
                  elim o.1 [
                    | inl d ↦ inl (demand_kept g last.result new.result extends n m.expected d)
                    | inr p ↦ elim p [ inl y ↦ inl (y new.result has) | inr y ↦ inr y ]
                  ],
                )
          ];
      pat_truths = λ p m i.
          elim (k.walks.pat_truths p m i) [ inl o ↦ inl o | inr o ↦ inr (pat_truth_kept g last.result new.result extends p m o) ];
    };
    clock = k.clock;
    type_is = has;
  }
