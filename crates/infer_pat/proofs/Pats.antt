-- Patterns that bind a name or nothing, and literals.
use Rattle.std.specs.Option.{option_and_then}
use Rattle.std.proofs.Common.{◌≡◌, sym, subst, Some, slice_get, inl, refl, Option, None, ◌+◌, [], ap, ◌∙◌, arith, Bool, ◌<◌, ◌⊎◌, inr, true, false, ◌∷◌, length}
use Rattle.infer_pat.specs.Words.{PatId, Ty, BindingId, ExprId, RawPat, Schedule, IsCarriedType, same_carried, after, binding_of, pat_parts, inner, expr_part, pattern_literal, part_at, parts_of_pat, InferenceResult, Given, MisfitsAs, Demand, PatRule, PatTy, HasTy, HasMismatch, mismatch, Found, with_pat_ty, with_mismatch, pat_end, Walks, Nothing, expr_end, IsCarriedExpectation, LieAhead, ComesTo, OwnWalked, IsCoercedIf}
use Rattle.hir_types.specs.declared.ids.ExprOrPatId.TheVariants as node
use Rattle.infer_pat.specs.Words.hir_raw.declared.raw.RawPat.TheVariants as pat
use Rattle.infer_pat.specs.Words.infer_ctx.Found.{entered, bound_by}
use Rattle.infer_pat.proofs.Words.{bind_has_no_parts, pat_ahead, expr_before, incoming_kept, noted_walks, noted_has, owed_paid}
use Rattle.infer_pat.specs.Own.{IsPatPlaced, ComesToPat, PatWalked, IsLitPatOf}
use Rattle.infer_pat.proofs.PatSteps.{enters_now, enters_done, IsBoundBy, IsRecordable, has_type, has_mode, has_binding, recorded_walked, enters_recorded, pat_entered, own_free, enters_more, open_walked}
use Rattle.infer_pat.specs.Words.infer_result.Columns as column

-- what holds of a pattern of this kind
pub pat_rule_of : (g : Given) (r : InferenceResult) (p : PatId) (k : RawPat) → slice_get g.body.pats p.0 ≡ Some k → PatRule g r p (Some k) → PatRule g r p (slice_get g.body.pats p.0)
pat_rule_of g r p k is h = subst (λ o. PatRule g r p o) (sym is) h

-- a pattern that has what comes in
pub placed_same : (g : Given) (r : InferenceResult) (p : PatId) (x : Option Ty) (t : Ty) → ((u : Ty) → x ≡ Some u → t ≡ u) → PatTy r p t → IsPatPlaced g r p x
placed_same g r p None t is h = tt
placed_same g r p (Some u) t is h = (t, h, inl (is u refl))

-- ---- a name or nothing
module _ (g : Given) (s : Schedule) (p : PatId) (x : Option Ty) (t : Ty) (old : Found) (h : ComesToPat g s p x old) (carried : IsCarriedType t) (given : (u : Ty) → x ≡ Some u → t ≡ u) where
  recordable : (o : Option BindingId) → option_and_then binding_of (slice_get g.body.pats p.0) ≡ o → IsRecordable g s p t o None (entered old)
  recordable o binds = record {
    ready = h.ready;
    within = h.within;
    past = omega (arith, h.here);
    state = (enters_now g s p x old h).state;
    carried = carried;
    carried_mismatch = λ m i. absurd (cc);
    binds = binds;
    free_pat = h.state.free_pats p h.within (omega (arith, h.here));
    free_mode = λ v i. h.state.free_modes p h.within (omega (arith, h.here));
    free_binding = λ v i. h.state.free_bindings p v (binds ∙ i) (omega (arith, h.here));
  }

  done : (new : Found) (o : Option BindingId) (binds : option_and_then binding_of (slice_get g.body.pats p.0) ≡ o) (w : IsBoundBy (entered old) new p t o None) (k : RawPat) (is : slice_get g.body.pats p.0 ≡ Some k) → pat_parts k ≡ [] → PatRule g new.result p (Some k) → PatWalked g s p x old new
  done new o binds w k is none rule =
      let r : IsRecordable g s p t o None (entered old) = recordable o binds in
      let a = pat_ahead g.body s p k (old.clock + 1) h.ready.law.schedule h.within is (omega (arith, h.here)) in
      record {
        walks =
            enters_done g s p old new (
            enters_recorded g s p t (entered old) new o None r w old h.here (λ m i. absurd (cc)) (enters_now g s p x old h)
            ) (recorded_walked g s p t (entered old) new o None r w) (pat_rule_of g new.result p k is rule);
        clock = w.clock ∙ subst (λ ps. after g.body s (old.clock + 1) ps ≡ pat_end g.body s p) none a.1;
        placed = placed_same g new.result p x t given (has_type g s p t (entered old) new o None r w);
      }

  pub wild_done : slice_get g.body.pats p.0 ≡ Some pat.Wild → PatWalked g s p x old (with_pat_ty (entered old) p t)
  wild_done is =
      let new : Found = with_pat_ty (entered old) p t in
      let w : IsBoundBy (entered old) new p t None None = record { result = refl; holes = refl; clock = refl } in
      let binds : option_and_then binding_of (slice_get g.body.pats p.0) ≡ None = ap (λ o. option_and_then binding_of o) is in
      done new None binds w pat.Wild is refl (t, has_type g s p t (entered old) new None None (recordable None binds) w)

  pub bind_done : (v : BindingId) (sub : Option PatId) → slice_get g.body.pats p.0 ≡ Some (pat.Bind v sub) → PatWalked g s p x old (bound_by (entered old) p v t)
  bind_done v sub is =
      let new : Found = bound_by (entered old) p v t in
      let w : IsBoundBy (entered old) new p t (Some v) None = record { result = refl; holes = refl; clock = refl } in
      let binds : option_and_then binding_of (slice_get g.body.pats p.0) ≡ Some v = ap (λ o. option_and_then binding_of o) is in
      let r : IsRecordable g s p t (Some v) None (entered old) = recordable (Some v) binds in
      done new (Some v) binds w (pat.Bind v sub) is (bind_has_no_parts g.body h.ready.law.carried p v sub is) (
        t,
        has_type g s p t (entered old) new (Some v) None r w,
        has_binding g s p t (entered old) new (Some v) None r w v refl,
        has_mode g s p t (entered old) new (Some v) None r w v refl,
      )

-- ---- literals

-- the literal has what is expected of it, where something is, or that it has not is noted there
abbrev pub IsFitted : ExprId → Ty → Option Ty → Found → Found → Type 0
IsFitted e t None old new = new ≡ old
IsFitted e t (Some u) old new = (yes : Bool) × IsCoercedIf yes e t u old new

module _ (g : Given) (s : Schedule) (p : PatId) (e : ExprId) (x : Option Ty) (old : Found) (h : ComesToPat g s p x old) (is : IsLitPatOf g.body p e) where
  binds_nothing : option_and_then binding_of (slice_get g.body.pats p.0) ≡ None
  binds_nothing = ap (λ o. option_and_then binding_of o) is

  parts_ahead : LieAhead g.body s (inner (node.PatId p)) (old.clock + 1) (expr_part pattern_literal e ∷ []) × (expr_end g.body s e ≡ pat_end g.body s p)
  parts_ahead = pat_ahead g.body s p (pat.Lit e) (old.clock + 1) h.ready.law.schedule h.within is (omega (arith, h.here))

  -- the literal lies ahead
  pub lit_before : ComesTo g s e x (entered old)
  lit_before = expr_before g s (inner (node.PatId p)) pattern_literal e [] x (entered old) h.ready (pat_entered g s p x old h binds_nothing) parts_ahead.0 h.carried

  module _ (t : Ty) (mid : Found) (d : OwnWalked g s e x t (entered old) mid) where
    -- the pattern asks that its literal have what comes in
    demand : (u : Ty) → x ≡ Some u → Demand g mid.result e u
    demand u i =
        let at : part_at g.body (inner (node.PatId p)) 0 ≡ Some (expr_part pattern_literal e) = ap (λ o. slice_get (parts_of_pat o) 0) is in
        inl (record {
          parent = inner (node.PatId p);
          at_part = 0;
          role = pattern_literal;
          stands = record { node_is = h.within; part = at };
          asks = (refl, incoming_kept g old.result mid.result d.walks.extends p u (h.incoming u i));
        })

    paid : Walks g s Nothing (entered old) mid
    paid = owed_paid g s e x (entered old) mid demand d.walks

    carried : IsCarriedType t
    carried = d.walks.state.carried.each column.type_of_expr e.0 t d.type_is

    noted : (u : Ty) → x ≡ Some u → IsCarriedType u → (u ≡ t → ⊥) → Walks g s Nothing (entered old) (with_mismatch mid e (mismatch u t))
    noted u i k differ =
        noted_walks g s Nothing (entered old) mid e (mismatch u t) k carried
        (record { differ = λ same. differ (same_carried u t k carried same); actual = inl d.type_is }) (inl (demand u i)) paid

    -- what is fitted is walked, and the literal's type stays
    record Fits (last : Found) : Type 0 where
      walks : Walks g s Nothing (entered old) last
      clock : last.clock ≡ expr_end g.body s e
      type_is : HasTy last.result e t
      placed : (u : Ty) → x ≡ Some u → (t ≡ u) ⊎ HasMismatch last.result e

    fitted : (y : Option Ty) → x ≡ y → IsCarriedExpectation y → (last : Found) → IsFitted e t y mid last → Fits last
    fitted None i k last f =
        subst (λ c. Fits c) (sym f) (record { walks = paid; clock = d.clock; type_is = d.type_is; placed = λ u j. absurd (cc) })
    fitted (Some u) i k last (true, f) =
        subst (λ c. Fits c) (sym f.1) (record {
          walks = paid;
          clock = d.clock;
          type_is = d.type_is;
          placed = λ v j. (let same : u ≡ v = cc in inl (f.0 ∙ same));
        })
    fitted (Some u) i k last (false, f) =
        let long : e.0 < length mid.result.expr_mismatches = rw (d.walks.state.of_body.long column.expr_mismatches) lit_before.within in
        subst (λ c. Fits c) (sym f.1) (record {
          walks = noted u i k f.0;
          clock = d.clock;
          type_is = d.type_is;
          placed = λ v j. inr (noted_has mid e (mismatch u t) long);
        })

    recordable_lit : (last : Found) → Fits last → IsRecordable g s p t None None last
    recordable_lit last f = record {
      ready = h.ready;
      within = h.within;
      past = omega (arith, h.here, f.walks.clock);
      state = open_walked g s p last f.walks.state;
      carried = carried;
      carried_mismatch = λ m i. absurd (cc);
      binds = binds_nothing;
      free_pat = own_free g s p x old h last f.walks;
      free_mode = λ v i. absurd (cc);
      free_binding = λ v i. absurd (cc);
    }

    placed_lit : (r : InferenceResult) (y : Option Ty) → PatTy r p t → ((u : Ty) → y ≡ Some u → (t ≡ u) ⊎ HasMismatch r e) → IsPatPlaced g r p y
    placed_lit r None has k = tt
    placed_lit r (Some u) has k = (
      t,
      has,
      elim (k u refl) [ inl same ↦ inl same | inr m ↦ inr (subst (λ o. MisfitsAs r p o) (sym is) m) ],
    )

    lit_recorded : (last : Found) → Fits last → PatWalked g s p x old (with_pat_ty last p t)
    lit_recorded last f =
        let new : Found = with_pat_ty last p t in
        let r : IsRecordable g s p t None None last = recordable_lit last f in
        let w : IsBoundBy last new p t None None = record { result = refl; holes = refl; clock = refl } in
        let has : PatTy new.result p t = has_type g s p t last new None None r w in
        record {
          walks =
              enters_done g s p old new (
              enters_recorded g s p t last new None None r w old h.here (λ m i. absurd (cc))
              (enters_more g s p old (entered old) (enters_now g s p x old h) last f.walks)
              ) (recorded_walked g s p t last new None None r w) (pat_rule_of g new.result p (pat.Lit e) is (t, has, f.type_is));
          clock = f.clock ∙ parts_ahead.1;
          placed = placed_lit new.result x has f.placed;
        }

    pub lit_done : (last : Found) → IsFitted e t x mid last → PatWalked g s p x old (with_pat_ty last p t)
    lit_done last f = lit_recorded last (fitted x refl h.carried last f)
