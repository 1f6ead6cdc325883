-- A mismatch that is noted at an expression.
use Rattle.std.proofs.Common.{inl, ◌<◌, length, inr, refl, subst, ◌∙◌, ◌≡◌, ◌⊎◌, sym, slice_get}
use Rattle.infer_ctx.specs.Words.{ExprId, Schedule, IsCarriedType, TypeMismatch, HasMismatch, At, Given, Demand, IsMisfit}
use Rattle.infer_ctx.specs.Own.{Found, Extends, IsWalked, Walks, Debt}
use Rattle.infer_ctx.specs.Found.{with_mismatch}
use Rattle.infer_ctx.proofs.Lists.{noted-keeps, noted-some, noted-cases, length-noted}
use Rattle.infer_ctx.proofs.Words.{long_with, types_with}
use Rattle.infer_ctx.proofs.Keeps.{columns_written, diagnostic_kept, seen_as_kept, extends_trans, obeys_kept, pat_kept, pat_truth_kept, misfit_kept, demand_kept}
use Rattle.infer_ctx.proofs.Parts.{expr_id}
use Rattle.infer_result.specs.Columns as column

pub noted_extends : (c : Found) (e : ExprId) (m : TypeMismatch) → Extends c.result (with_mismatch c e m).result
noted_extends c e m = record {
  columns = columns_written c.result column.expr_mismatches _ (λ n x h. noted-keeps c.result.expr_mismatches e.0 n m x h);
  diagnostics = λ n d h. inl h;
  seen = λ n h. record { position = h.position; entry = h.entry; found = h.found; is_node = h.is_node };
}

pub noted_has : (c : Found) (e : ExprId) (m : TypeMismatch) → e.0 < length c.result.expr_mismatches → HasMismatch (with_mismatch c e m).result e
noted_has c e m h = noted-some c.result.expr_mismatches e.0 m h

pub noted_walked : (g : Given) (s : Schedule) (c : Found) (e : ExprId) (m : TypeMismatch) → IsCarriedType m.expected → IsCarriedType m.actual → IsWalked g s c → IsWalked g s (with_mismatch c e m)
noted_walked g s c e m x y h = record {
  of_body = long_with g.body c.result column.expr_mismatches _ (length-noted c.result.expr_mismatches e.0 m ∙ h.of_body.long column.expr_mismatches) h.of_body;
  carried = types_with IsCarriedType c.result column.expr_mismatches _ (λ n k i. elim (noted-cases c.result.expr_mismatches e.0 n m k i) [
    | inl q ↦ h.carried.each column.expr_mismatches n k q
    | inr q ↦ subst (λ z. IsCarriedType z.expected × IsCarriedType z.actual) q.1 (x, y)
  ]) h.carried;
  modes = h.modes;
  pat_diagnostics = h.pat_diagnostics;
  variants = record { exprs = h.variants.exprs; pats = h.variants.pats };
  placeholders = h.placeholders;
  items = h.items;
  free_items = h.free_items;
  seen = λ i y at. seen_as_kept g c (with_mismatch c e m) (noted_extends c e m) (λ n d k. k) refl y (h.seen i y at);
  diagnostics = λ n d i. diagnostic_kept g c.result (with_mismatch c e m).result (noted_extends c e m) n d (h.diagnostics n d i);
  free_exprs = h.free_exprs;
  free_pats = h.free_pats;
  free_modes = h.free_modes;
  free_bindings = h.free_bindings;
  bound = h.bound;
}

-- it is one that is true, or as which something is owed
pub noted_walks : (g : Given) (s : Schedule) (P : Debt) (old mid : Found) (e : ExprId) (m : TypeMismatch) → IsCarriedType m.expected → IsCarriedType m.actual → IsMisfit g mid.result e m → Demand g mid.result e m.expected ⊎ P e m → Walks g s P old mid → Walks g s P old (with_mismatch mid e m)
noted_walks g s P old mid e m x y misfit owed h =
    let new : Found = with_mismatch mid e m in
    let k : Extends mid.result new.result = noted_extends mid e m in
    record {
      clock = h.clock;
      extends = extends_trans old.result mid.result new.result h.extends k;
      kept = h.kept;
      kept_pats = h.kept_pats;
      state = noted_walked g s mid e m x y h.state;
      made = λ n i lo hi. obeys_kept g mid.result new.result k n (h.made n i lo hi);
      pats_made = λ p i lo hi. pat_kept g mid.result new.result k p (slice_get g.body.pats p.0) (h.pats_made p i lo hi);
      truths = λ n z i.
          elim (noted-cases mid.result.expr_mismatches e.0 n.0 m z i) [
            | inl q ↦
                elim (h.truths n z q) [
                  | inl o ↦ inl o
                  | inr o ↦
                      inr (
                        misfit_kept g mid.result new.result k n z o.0,
                        elim o.1 [ inl d ↦ inl (demand_kept g mid.result new.result k n z.expected d) | inr p ↦ inr p ],
                      )
                ]
            | inr q ↦ own n z q.0 q.1
          ];
      pat_truths = λ p z i.
          elim (h.pat_truths p z i) [ inl o ↦ inl o | inr o ↦ inr (pat_truth_kept g mid.result new.result k p z o) ];
    }
  where
    own : (n : ExprId) (z : TypeMismatch) → n.0 ≡ e.0 → m ≡ z → At old.result.expr_mismatches n.0 z ⊎ (IsMisfit g (with_mismatch mid e m).result n z × (Demand g (with_mismatch mid e m).result n z.expected ⊎ P n z))
    own n z i j =
        let is : e ≡ n = sym (expr_id n e i) in
        let r = (with_mismatch mid e m).result in
        let k : Extends mid.result r = noted_extends mid e m in
        let w : IsMisfit g r e m × (Demand g r e m.expected ⊎ P e m) = (
          misfit_kept g mid.result r k e m misfit,
          elim owed [ inl d ↦ inl (demand_kept g mid.result r k e m.expected d) | inr p ↦ inr p ],
        ) in
        inr (subst (λ (a : ExprId). IsMisfit g r a z × (Demand g r a z.expected ⊎ P a z)) is (subst (λ (y : TypeMismatch). IsMisfit g r e y × (Demand g r e y.expected ⊎ P e y)) j w))
