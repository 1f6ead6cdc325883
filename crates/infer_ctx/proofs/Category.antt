-- Walks compose.
use Rattle.std.proofs.Common.{inl, refl, arith, inr, ◌∙◌, slice_get, ◌⊎◌}
use Rattle.infer_ctx.specs.Words.{ExprId, Schedule, Given, Demand, TypeMismatch}
use Rattle.infer_ctx.specs.Own.{Found, Walks, IsWalked, Debt, expr_start, pat_start}
use Rattle.infer_ctx.proofs.Keeps.{extends_refl, extends_trans, obeys_kept, pat_kept, pat_truth_kept, misfit_kept, demand_kept}
use Rattle.infer_ctx.proofs.Lists.{lt_or_ge}

pub walks_refl : (g : Given) (s : Schedule) (P : Debt) (c : Found) → IsWalked g s c → Walks g s P c c
walks_refl g s P c h = record {
  clock = omega arith;
  extends = extends_refl c.result;
  kept = λ e i k. refl;
  kept_pats = λ p i k. refl;
  state = h;
  made = λ e i lo hi. absurd (omega arith);
  pats_made = λ p i lo hi. absurd (omega arith);
  truths = λ e m h. inl h;
  pat_truths = λ p m h. inl h;
}

pub walks_trans : (g : Given) (s : Schedule) (P : Debt) (x y z : Found) → Walks g s P x y → Walks g s P y z → Walks g s P x z
walks_trans g s P x y z h k = record {
  clock = omega (arith, h.clock, k.clock);
  extends = extends_trans x.result y.result z.result h.extends k.extends;
  kept = λ e i lo. k.kept e i (omega (arith, h.clock)) ∙ h.kept e i lo;
  kept_pats = λ p i lo. k.kept_pats p i (omega (arith, h.clock)) ∙ h.kept_pats p i lo;
  state = k.state;
  made = λ e i lo hi.
      elim (lt_or_ge (expr_start g.body s e) y.clock) [
        | inl l ↦ obeys_kept g y.result z.result k.extends e (h.made e i lo l)
        | inr r ↦ k.made e i r hi
      ];
  pats_made = λ p i lo hi.
      elim (lt_or_ge (pat_start g.body s p) y.clock) [
        | inl l ↦ pat_kept g y.result z.result k.extends p (slice_get g.body.pats p.0) (h.pats_made p i lo l)
        | inr r ↦ k.pats_made p i r hi
      ];
  truths = λ e m i.
      elim (k.truths e m i) [
        | inl o ↦
            elim (h.truths e m o) [
              | inl q ↦ inl q
              | inr q ↦
                  inr (
                    misfit_kept g y.result z.result k.extends e m q.0,
                    elim q.1 [ inl d ↦ inl (demand_kept g y.result z.result k.extends e m.expected d) | inr p ↦ inr p ],
                  )
            ]
        | inr q ↦ inr q
      ];
  pat_truths = λ p m i.
      elim (k.pat_truths p m i) [
        | inl o ↦ elim (h.pat_truths p m o) [ inl q ↦ inl q | inr q ↦ inr (pat_truth_kept g y.result z.result k.extends p m q) ]
        | inr q ↦ inr q
      ];
}

-- debts may be said otherwise, or be paid
pub walks_paid : (g : Given) (s : Schedule) (P Q : Debt) (x y : Found) → ((e : ExprId) (m : TypeMismatch) → P e m → Demand g y.result e m.expected ⊎ Q e m) → Walks g s P x y → Walks g s Q x y
walks_paid g s P Q x y f h = record {
  clock = h.clock;
  extends = h.extends;
  kept = h.kept;
  kept_pats = h.kept_pats;
  state = h.state;
  made = h.made;
  pats_made = h.pats_made;
  truths = λ e m i.
      elim (h.truths e m i) [
        | inl o ↦ inl o
        | inr q ↦ inr (q.0, elim q.1 [ inl d ↦ inl d | inr p ↦ f e m p ])
      ];
  pat_truths = h.pat_truths;
}
