-- From where the walk comes to a pattern to where the pattern is done: the record of its type, and of
-- what it binds, amid the walk of its parts.
use Rattle.std.specs.Option.{option_and_then}
use Rattle.std.proofs.Common.{Option, ◌≡◌, List, ◌∷◌, Some, None, slice_get, ℕ, ◌<◌, ◌≤◌, length, ◌⊎◌, inl, inr, ap, refl, sym, subst, ◌∙◌, arith, ◌≢◌}
use Rattle.std.proofs.Math.ListN.{set, length-set}
use Rattle.infer_pat.specs.Words.{PatId, Ty, Assignment, BindingId, ExprId, Schedule, Part, Node, Role, pat_part, binding_of, Binds, RawPat, RawBody, IsCarriedType, Given, OnlyPlaceholdersHaveTypes, Demand, IsBinder, IsOfBody, OnlyBindersHaveModes, OnlyCtorPatsHaveItems, At, BindingTy, PatTy, HasMode, HasPatMismatch, Seen, InferenceResult, IsTrueDiagnostic, IsTruePatDiagnostic, InferenceDiagnostic, TypeMismatch, ObeysOrMismatch, PatRule, IsTruePatMismatch, IsMisfit, BindingMode, InferenceContext, Closes, found_under, expected_under, Found, RecordsVariants, noted, IsCarriedExpectation, IsWalked, IsSeenAs, IsFree, IsCarriedTable, expr_start, pat_start, Extends, Walks, Nothing, LieAhead, IsReady}
use Rattle.infer_pat.specs.Words.hir_raw.declared.raw.RawPat.TheVariants as pat
use Rattle.infer_pat.specs.Words.infer_result.Incoming.{Gives}
use Rattle.infer_pat.specs.Words.infer_result.declared.modes.BindingMode.TheVariants as mode
use Rattle.infer_pat.specs.Words.infer_ctx.Found.{entered}
use Rattle.infer_pat.specs.Words.infer_ctx.Walks.{StaysIn}
use Rattle.infer_pat.proofs.Words.{columns_are, expected_carried, ahead_stands, pat_id, one_pat, expr_is_no_pat, binds_within, binding_id, same_or_not, lt_or_ge, own_set, slice_get-set_same, slice_get-set_other, At-set, At-set_cases, length-own_set, own_set-at, own_set-other, own_set-cases, noted-keeps, noted-cases, noted-some, length-noted, extends_refl, seen_as_entered, extends_trans, obeys_kept, pat_kept, pat_truth_kept, misfit_kept, demand_kept, diagnostic_kept, seen_as_kept}
use Rattle.infer_pat.specs.Own.{BeforePat, ComesToPat}
use Rattle.infer_pat.specs.Words.infer_result.Columns.{Column, Entry, Entries, entry_kind, index, col, with_columns, IsIn, IsLong, AllIn}
use Rattle.infer_pat.specs.Words.infer_result.Columns as column

module _ (g : Given) (s : Schedule) (a : Assignment) (c : InferenceContext) (k : Closes a c) where
  pub before_pat_under : (p : PatId) (x : Option Ty) → BeforePat g s p x c → ComesToPat g s p (expected_under a x) (found_under a c)
  before_pat_under p x h = assumption (h.state.each a k, expected_carried g.scope a c.goals.table x k.closing h.fine, h.incoming a k, h)

pub pat_before : (g : Given) (s : Schedule) (n : Node) (role : Role) (p : PatId) (ps : List Part) (x : Option Ty) (c : Found) → IsReady g s → IsWalked g s c → LieAhead g.body s n c.clock (pat_part role p ∷ ps) → IsCarriedExpectation x → ((t : Ty) → x ≡ Some t → Gives g c.result n role t) → ComesToPat g s p x c
pat_before g s n role p ps x c ready state ahead carried gives = record {
  ready = ready;
  state = state;
  within = ahead.fit.0;
  here = ahead.fit.1;
  carried = carried;
  incoming = λ t is.
      let q = ahead_stands g.body s n c.clock (pat_part role p) ps ahead in
      record { parent = n; at_part = q.0; role = role; stands = q.1; gives = gives t is };
}

-- what binds a name is a binding pattern
binder_by : (b : RawBody) (p : PatId) (v : BindingId) (x : Option RawPat) → slice_get b.pats p.0 ≡ x → option_and_then binding_of x ≡ Some v → IsBinder b p
binder_by b p v None is k = absurd (cc)
binder_by b p v (Some pat.Wild) is k = absurd (cc)
binder_by b p v (Some (pat.Bind w sub)) is k = (w, sub, is)
binder_by b p v (Some (pat.Tuple ps)) is k = absurd (cc)
binder_by b p v (Some (pat.TupleStruct named ps)) is k = absurd (cc)
binder_by b p v (Some (pat.Path named)) is k = absurd (cc)
binder_by b p v (Some (pat.Lit e)) is k = absurd (cc)
binder_by b p v (Some (pat.Later later)) is k = absurd (cc)

-- The state of the walk at the clock n, but that what p binds may have no type yet.
pub record IsOpen (g : Given) (s : Schedule) (p : PatId) (n : ℕ) (c : Found) : Type 0 where
  pub of_body : IsOfBody g.body c.result
  pub carried : IsCarriedTable c.result
  pub modes : OnlyBindersHaveModes g.body c.result
  pub free_exprs : (e : ExprId) → e.0 < length g.body.exprs → n ≤ expr_start g.body s e → IsFree c.result.type_of_expr e.0
  pub free_pats : (q : PatId) → q.0 < length g.body.pats → n ≤ pat_start g.body s q → IsFree c.result.type_of_pat q.0
  pub free_modes : (q : PatId) → q.0 < length g.body.pats → n ≤ pat_start g.body s q → IsFree c.result.binding_modes q.0
  pub free_bindings : (q : PatId) (v : BindingId) → Binds g.body q v → n ≤ pat_start g.body s q → IsFree c.result.type_of_binding v.0
  pub bound : (q : PatId) (v : BindingId) → Binds g.body q v → (q ≡ p → ⊥) → pat_start g.body s q < n → (t : Ty) × BindingTy c.result v t
  pub diagnostics : (e : ExprId) (d : InferenceDiagnostic) → At c.result.expr_diagnostics e.0 d → IsTrueDiagnostic g c.result e d
  pub pat_diagnostics : (q : PatId) (d : InferenceDiagnostic) → At c.result.pat_diagnostics q.0 d → IsTruePatDiagnostic g q d
  pub variants : RecordsVariants g.body c.result
  pub items : OnlyCtorPatsHaveItems g.scope.facts g.body c.result
  pub free_items : (q : PatId) → q.0 < length g.body.pats → n ≤ pat_start g.body s q → IsFree c.result.item_of_pat q.0
  pub placeholders : OnlyPlaceholdersHaveTypes g c.result
  pub seen : (i : ℕ) (y : Seen) → slice_get c.result.seen i ≡ Some y → IsSeenAs g c y

pub open_walked : (g : Given) (s : Schedule) (p : PatId) (c : Found) → IsWalked g s c → IsOpen g s p c.clock c
open_walked g s p c h = record {
  diagnostics = h.diagnostics;
  of_body = h.of_body;
  carried = h.carried;
  modes = h.modes;
  pat_diagnostics = h.pat_diagnostics;
  variants = h.variants;
  items = h.items;
  free_items = h.free_items;
  placeholders = h.placeholders;
  seen = h.seen;
  free_exprs = h.free_exprs;
  free_pats = h.free_pats;
  free_modes = h.free_modes;
  free_bindings = h.free_bindings;
  bound = λ q v i other lo. h.bound q v i lo;
}

-- Of the nodes from the old clock on all are made but p, where the walk of p has come to c.
pub record Enters (g : Given) (s : Schedule) (p : PatId) (old c : Found) : Type 0 where
  pub clock : old.clock < c.clock
  pub extends : Extends old.result c.result
  pub kept : (e : ExprId) → e.0 < length g.body.exprs → expr_start g.body s e < old.clock → slice_get c.result.type_of_expr e.0 ≡ slice_get old.result.type_of_expr e.0
  pub kept_pats : (q : PatId) → q.0 < length g.body.pats → pat_start g.body s q < old.clock → slice_get c.result.type_of_pat q.0 ≡ slice_get old.result.type_of_pat q.0
  pub state : IsOpen g s p c.clock c
  pub made : (e : ExprId) → e.0 < length g.body.exprs → old.clock ≤ expr_start g.body s e → expr_start g.body s e < c.clock → ObeysOrMismatch g c.result e
  pub pats_made : (q : PatId) → q.0 < length g.body.pats → (q ≡ p → ⊥) → old.clock ≤ pat_start g.body s q → pat_start g.body s q < c.clock → PatRule g c.result q (slice_get g.body.pats q.0)
  pub truths : (e : ExprId) (m : TypeMismatch) → At c.result.expr_mismatches e.0 m → At old.result.expr_mismatches e.0 m ⊎ (IsMisfit g c.result e m × Demand g c.result e m.expected)
  pub pat_truths : (q : PatId) (m : TypeMismatch) → At c.result.pat_mismatches q.0 m → At old.result.pat_mismatches q.0 m ⊎ IsTruePatMismatch g c.result q m

same_pat : (p q : PatId) → (p ≡ q) ⊎ (p ≡ q → ⊥)
same_pat p q =
    elim (same_or_not p.0 q.0) [ inl is ↦ inl (pat_id p q is) | inr ne ↦ inr (λ i. ne (ap (λ x. x.0) i)) ]

module _ (g : Given) (s : Schedule) (p : PatId) (x : Option Ty) (old : Found) (h : ComesToPat g s p x old) where
  -- the clock goes on to the parts of the pattern
  pub enters_now : Enters g s p old (entered old)
  enters_now = record {
    clock = omega arith;
    extends = extends_refl old.result;
    kept = λ e i lo. refl;
    kept_pats = λ q i lo. refl;
    state = record {
      of_body = h.state.of_body;
      carried = h.state.carried;
      modes = h.state.modes;
      pat_diagnostics = h.state.pat_diagnostics;
      variants = h.state.variants;
      items = h.state.items;
      placeholders = h.state.placeholders;
      seen = λ i y at. seen_as_entered g old y (h.state.seen i y at);
      diagnostics = h.state.diagnostics;
      free_exprs = λ e i lo. h.state.free_exprs e i (omega arith);
      free_pats = λ q i lo. h.state.free_pats q i (omega arith);
      free_modes = λ q i lo. h.state.free_modes q i (omega arith);
      free_items = λ q i lo. h.state.free_items q i (omega arith);
      free_bindings = λ q v i lo. h.state.free_bindings q v i (omega arith);
      bound = λ q v i other lo.
          elim (lt_or_ge (pat_start g.body s q) old.clock) [
            | inl l ↦ h.state.bound q v i l
            | inr r ↦ absurd (other (one_pat g.body s h.ready.law.schedule q p (binds_within g.body q v i) h.within (omega (arith, h.here))))
          ];
    };
    made = λ e i lo hi. absurd (expr_is_no_pat g.body s h.ready.law.schedule e p i h.within (omega (arith, h.here)));
    pats_made = λ q i other lo hi. absurd (other (one_pat g.body s h.ready.law.schedule q p i h.within (omega (arith, h.here))));
    truths = λ e m i. inl i;
    pat_truths = λ q m i. inl i;
  }

  -- where it binds nothing, nothing is amiss there
  pub pat_entered : option_and_then binding_of (slice_get g.body.pats p.0) ≡ None → IsWalked g s (entered old)
  pat_entered none = record {
    of_body = enters_now.state.of_body;
    carried = enters_now.state.carried;
    modes = enters_now.state.modes;
    pat_diagnostics = enters_now.state.pat_diagnostics;
    variants = enters_now.state.variants;
    items = enters_now.state.items;
    free_items = enters_now.state.free_items;
    placeholders = enters_now.state.placeholders;
    seen = enters_now.state.seen;
    diagnostics = enters_now.state.diagnostics;
    free_exprs = enters_now.state.free_exprs;
    free_pats = enters_now.state.free_pats;
    free_modes = enters_now.state.free_modes;
    free_bindings = enters_now.state.free_bindings;
    bound = λ q v i lo.
        enters_now.state.bound q v i (λ is.
        (let own : Binds g.body p v = subst (λ z. Binds g.body z v) is i in
        let k : None ≡ Some v = sym none ∙ own in
        absurd (cc))) lo;
  }

  -- the type of the pattern itself is not there before it is recorded
  pub own_free : (c : Found) → Walks g s Nothing (entered old) c → IsFree c.result.type_of_pat p.0
  own_free c w = w.kept_pats p h.within (omega (arith, h.here)) ∙ h.state.free_pats p h.within (omega (arith, h.here))

module _ (g : Given) (s : Schedule) (p : PatId) (old mid : Found) (h : Enters g s p old mid) where
  -- the walk goes on through parts of the pattern
  pub enters_more : (new : Found) → Walks g s Nothing mid new → Enters g s p old new
  enters_more new w = record {
    clock = omega (arith, h.clock, w.clock);
    extends = extends_trans old.result mid.result new.result h.extends w.extends;
    kept = λ e i lo. w.kept e i (omega (arith, h.clock)) ∙ h.kept e i lo;
    kept_pats = λ q i lo. w.kept_pats q i (omega (arith, h.clock)) ∙ h.kept_pats q i lo;
    state = open_walked g s p new w.state;
    made = λ e i lo hi.
        elim (lt_or_ge (expr_start g.body s e) mid.clock) [
          | inl l ↦ obeys_kept g mid.result new.result w.extends e (h.made e i lo l)
          | inr r ↦ w.made e i r hi
        ];
    pats_made = λ q i other lo hi.
        elim (lt_or_ge (pat_start g.body s q) mid.clock) [
          | inl l ↦ pat_kept g mid.result new.result w.extends q (slice_get g.body.pats q.0) (h.pats_made q i other lo l)
          | inr r ↦ w.pats_made q i r hi
        ];
    truths = λ e m i.
        elim (w.truths e m i) [
          | inl o ↦
              elim (h.truths e m o) [
                | inl q ↦ inl q
                | inr q ↦
                    inr (
                      misfit_kept g mid.result new.result w.extends e m q.0,
                      demand_kept g mid.result new.result w.extends e m.expected q.1,
                    )
              ]
          | inr q ↦ inr (q.0, elim q.1 [ inl d ↦ d | inr n ↦ absurd n ])
        ];
    pat_truths = λ q m i.
        elim (w.pat_truths q m i) [
          | inl o ↦ elim (h.pat_truths q m o) [ inl y ↦ inl y | inr y ↦ inr (pat_truth_kept g mid.result new.result w.extends q m y) ]
          | inr y ↦ inr y
        ];
  }

  -- the pattern is done once its rule holds
  pub enters_done : IsWalked g s mid → PatRule g mid.result p (slice_get g.body.pats p.0) → Walks g s Nothing old mid
  enters_done state mine = record {
    clock = omega (arith, h.clock);
    extends = h.extends;
    kept = h.kept;
    kept_pats = h.kept_pats;
    state = state;
    made = h.made;
    pats_made = λ q i lo hi.
        elim (same_pat q p) [
          | inl is ↦ subst (λ z. PatRule g mid.result z (slice_get g.body.pats z.0)) (sym is) mine
          | inr other ↦ h.pats_made q i other lo hi
        ];
    truths = λ e m i. elim (h.truths e m i) [ inl o ↦ inl o | inr q ↦ inr (q.0, inl q.1) ];
    pat_truths = h.pat_truths;
  }

-- ---- the record
abbrev pub mode_of : Option BindingId → Option BindingMode
mode_of None = None
mode_of (Some v) = Some mode.Move

abbrev pub binding_set : List (Option Ty) → Option BindingId → Ty → List (Option Ty)
binding_set xs None t = xs
binding_set xs (Some v) t = set xs v.0 (Some t)

abbrev pub maybe_noted : List (Option TypeMismatch) → ℕ → Option TypeMismatch → List (Option TypeMismatch)
maybe_noted xs n None = xs
maybe_noted xs n (Some m) = noted xs n m

-- the columns once p has the type t, and what it binds too, and there is a mismatch at p or none
abbrev pub bound_column : InferenceResult → PatId → Ty → Option BindingId → Option TypeMismatch → (c : Column) → Entries c
bound_column r p t o y column.type_of_pat = set r.type_of_pat p.0 (Some t)
bound_column r p t o y column.type_of_binding = binding_set r.type_of_binding o t
bound_column r p t o y column.binding_modes = own_set r.binding_modes p.0 (mode_of o)
bound_column r p t o y column.pat_mismatches = maybe_noted r.pat_mismatches p.0 y
bound_column r p t o y c = col r c

-- this is all that is new
pub record IsBoundBy (old new : Found) (p : PatId) (t : Ty) (o : Option BindingId) (y : Option TypeMismatch) : Type 0 where
  pub result : new.result ≡ with_columns old.result (bound_column old.result p t o y)
  pub holes : new.holes ≡ old.holes
  pub clock : new.clock ≡ old.clock

-- what the record of a type, and of what is bound, wants
pub record IsRecordable (g : Given) (s : Schedule) (p : PatId) (t : Ty) (o : Option BindingId) (y : Option TypeMismatch) (c : Found) : Type 0 where
  pub ready : IsReady g s
  pub within : p.0 < length g.body.pats
  pub past : pat_start g.body s p < c.clock
  pub state : IsOpen g s p c.clock c
  pub carried : IsCarriedType t
  pub carried_mismatch : (m : TypeMismatch) → y ≡ Some m → IsCarriedType m.expected × IsCarriedType m.actual
  pub binds : option_and_then binding_of (slice_get g.body.pats p.0) ≡ o
  pub free_pat : IsFree c.result.type_of_pat p.0
  pub free_mode : (v : BindingId) → o ≡ Some v → IsFree c.result.binding_modes p.0
  pub free_binding : (v : BindingId) → o ≡ Some v → IsFree c.result.type_of_binding v.0

module _ (g : Given) (s : Schedule) (p : PatId) (t : Ty) (old new : Found) (o : Option BindingId) (y : Option TypeMismatch) (h : IsRecordable g s p t o y old) (w : IsBoundBy old new p t o y) where
  columns : (c : Column) → col new.result c ≡ bound_column old.result p t o y c
  columns c = ap (λ r. col r c) w.result ∙ columns_are old.result (bound_column old.result p t o y) c

  seen_is : new.result.seen ≡ old.result.seen
  seen_is = ap (λ r. r.seen) w.result

  long : p.0 < length old.result.type_of_pat
  long = rw (h.state.of_body.long column.type_of_pat) h.within

  pub has_type : PatTy new.result p t
  has_type = rw (columns column.type_of_pat) (slice_get-set_same old.result.type_of_pat p.0 (Some t) long)

  pub has_mode : (v : BindingId) → o ≡ Some v → HasMode new.result p mode.Move
  has_mode v i =
      let k : p.0 < length old.result.binding_modes = rw (h.state.of_body.long column.binding_modes) h.within in
      rw (columns column.binding_modes) (own_set-at old.result.binding_modes p.0 (mode_of o) mode.Move k (ap (λ z. mode_of z) i))

  noted_there : (z : Option TypeMismatch) (m : TypeMismatch) → z ≡ Some m → (n : TypeMismatch) × At (maybe_noted old.result.pat_mismatches p.0 z) p.0 n
  noted_there None m i = absurd (cc)
  noted_there (Some k) m i = (let l : p.0 < length old.result.pat_mismatches = rw (h.state.of_body.long column.pat_mismatches) h.within in noted-some old.result.pat_mismatches p.0 k l)

  pub has_mismatch : (m : TypeMismatch) → y ≡ Some m → HasPatMismatch new.result p
  has_mismatch m i = subst (λ (l : List (Option TypeMismatch)). (n : TypeMismatch) × At l p.0 n) (sym (columns column.pat_mismatches)) (noted_there y m i)

  -- what p binds
  bound_long : (v : BindingId) → o ≡ Some v → v.0 < length old.result.type_of_binding
  bound_long v i = rw (h.state.of_body.long column.type_of_binding) (h.ready.law.binders p v (h.binds ∙ i))

  binding_kept : (z : Option BindingId) → o ≡ z → (n : ℕ) (u : Ty) → At old.result.type_of_binding n u → At (binding_set old.result.type_of_binding z t) n u
  binding_kept None i n u k = k
  binding_kept (Some v) i n u k = At-set old.result.type_of_binding v.0 n t u (h.free_binding v i) k

  binding_has : (v : BindingId) (z : Option BindingId) → o ≡ Some v → z ≡ o → At (binding_set old.result.type_of_binding z t) v.0 t
  binding_has v z i k =
      let f : z ≡ Some v = k ∙ i in
      subst (λ a. At (binding_set old.result.type_of_binding a t) v.0 t) (sym f) (
      slice_get-set_same old.result.type_of_binding v.0 (Some t) (bound_long v i)
      )

  pub has_binding : (v : BindingId) → o ≡ Some v → BindingTy new.result v t
  has_binding v i = rw (columns column.type_of_binding) (binding_has v o i refl)

  binding_cases : (z : Option BindingId) → o ≡ z → (n : ℕ) (u : Ty) → At (binding_set old.result.type_of_binding z t) n u → At old.result.type_of_binding n u ⊎ (t ≡ u)
  binding_cases None i n u k = inl k
  binding_cases (Some v) i n u k =
      elim (At-set_cases old.result.type_of_binding v.0 n t u (bound_long v i) k) [ inl q ↦ inl q | inr q ↦ inr q.1 ]

  binding_long : (z : Option BindingId) → length (binding_set old.result.type_of_binding z t) ≡ length old.result.type_of_binding
  binding_long None = refl
  binding_long (Some v) = length-set old.result.type_of_binding v.0 (Some t)

  -- a binding of another pattern is another binding
  binding_other : (q : PatId) (v : BindingId) → Binds g.body q v → (q ≡ p → ⊥) → (z : Option BindingId) → o ≡ z → slice_get (binding_set old.result.type_of_binding z t) v.0 ≡ slice_get old.result.type_of_binding v.0
  binding_other q v k ne None i = refl
  binding_other q v k ne (Some u) i =
      let apart : v.0 ≢ u.0
      = (λ same.
      (let uv : v ≡ u = binding_id v u same in
      let b = h.ready.law.bound u (h.ready.law.binders p u (h.binds ∙ i)) in
      let qb : q ≡ b.binder = b.only q (subst (λ z. Binds g.body q z) uv k) in
      let pb : p ≡ b.binder = b.only p (h.binds ∙ i) in
      ne (qb ∙ sym pb))) in
      slice_get-set_other old.result.type_of_binding u.0 v.0 (Some t) apart

  later : (q : PatId) → new.clock ≤ pat_start g.body s q → q ≡ p → ⊥
  later q lo is =
      let k : pat_start g.body s q ≡ pat_start g.body s p = ap (λ z. pat_start g.body s z) is in
      omega (arith, lo, k, h.past, w.clock)

  mismatch_kept : (z : Option TypeMismatch) (n : ℕ) (m : TypeMismatch) → At old.result.pat_mismatches n m → At (maybe_noted old.result.pat_mismatches p.0 z) n m
  mismatch_kept None n m i = i
  mismatch_kept (Some k) n m i = noted-keeps old.result.pat_mismatches p.0 n k m i

  mismatch_cases : (z : Option TypeMismatch) (n : ℕ) (m : TypeMismatch) → At (maybe_noted old.result.pat_mismatches p.0 z) n m → At old.result.pat_mismatches n m ⊎ ((n ≡ p.0) × (z ≡ Some m))
  mismatch_cases None n m i = inl i
  mismatch_cases (Some k) n m i =
      elim (noted-cases old.result.pat_mismatches p.0 n k m i) [ inl q ↦ inl q | inr q ↦ inr (q.0, ap (λ a. Some a) q.1) ]

  mismatch_long : (z : Option TypeMismatch) → length (maybe_noted old.result.pat_mismatches p.0 z) ≡ length old.result.pat_mismatches
  mismatch_long None = refl
  mismatch_long (Some k) = length-noted old.result.pat_mismatches p.0 k

  modes_kept : (z : Option BindingId) → o ≡ z → (n : ℕ) (m : BindingMode) → At old.result.binding_modes n m → At (own_set old.result.binding_modes p.0 (mode_of z)) n m
  modes_kept None i n m k = k
  modes_kept (Some v) i n m k = At-set old.result.binding_modes p.0 n mode.Move m (h.free_mode v i) k

  stays : (c : Column) (n : ℕ) (x : Entry c) → IsIn old.result c n x → StaysIn c (bound_column old.result p t o y c) n x
  stays column.type_of_pat n u i = At-set old.result.type_of_pat p.0 n t u h.free_pat i
  stays column.type_of_binding n u i = binding_kept o refl n u i
  stays column.binding_modes n m i = modes_kept o refl n m i
  stays column.pat_mismatches n m i = mismatch_kept y n m i
  stays column.expr_diagnostics n d i = tt
  stays c n x i = i

  pub extends : Extends old.result new.result
  extends = record {
    columns = λ c n x i. subst (λ xs. StaysIn c xs n x) (sym (columns c)) (stays c n x i);
    diagnostics = λ e d i. inl (rw (columns column.expr_diagnostics) i);
    seen = λ e i. record { position = i.position; entry = i.entry; found = rw seen_is i.found; is_node = i.is_node };
  }

  carried_in : (c : Column) (n : ℕ) (x : Entry c) → At (bound_column old.result p t o y c) n x → AllIn IsCarriedType (entry_kind c) x
  carried_in column.type_of_pat n u i =
      elim (At-set_cases old.result.type_of_pat p.0 n t u long i) [
        | inl q ↦ h.state.carried.each column.type_of_pat n u q
        | inr q ↦ subst (λ v. IsCarriedType v) q.1 h.carried
      ]
  carried_in column.type_of_binding n u i =
      elim (binding_cases o refl n u i) [
        | inl q ↦ h.state.carried.each column.type_of_binding n u q
        | inr q ↦ subst (λ v. IsCarriedType v) q h.carried
      ]
  carried_in column.pat_mismatches n m i =
      elim (mismatch_cases y n m i) [
        | inl q ↦ h.state.carried.each column.pat_mismatches n m q
        | inr q ↦ h.carried_mismatch m q.1
      ]
  carried_in column.binding_modes n m i = tt
  carried_in c n x i = h.state.carried.each c n x i

  carried : IsCarriedTable new.result
  carried = record { each = λ c n x i. carried_in c n x (subst (λ xs. At xs n x) (columns c) i) }

  long_in : (c : Column) → IsLong g.body (index c) (length (bound_column old.result p t o y c))
  long_in column.type_of_pat = length-set old.result.type_of_pat p.0 (Some t) ∙ h.state.of_body.long column.type_of_pat
  long_in column.type_of_binding = binding_long o ∙ h.state.of_body.long column.type_of_binding
  long_in column.binding_modes = length-own_set old.result.binding_modes p.0 (mode_of o) ∙ h.state.of_body.long column.binding_modes
  long_in column.pat_mismatches = mismatch_long y ∙ h.state.of_body.long column.pat_mismatches
  long_in c = h.state.of_body.long c

  of_body : IsOfBody g.body new.result
  of_body = record { long = λ c. subst (λ xs. IsLong g.body (index c) (length xs)) (sym (columns c)) (long_in c) }

  bound : (q : PatId) (v : BindingId) → Binds g.body q v → pat_start g.body s q < new.clock → (u : Ty) × BindingTy new.result v u
  bound q v i hi =
      elim (same_pat q p) [
        | inl is ↦
            (let own : Binds g.body p v = subst (λ z. Binds g.body z v) is i in
            (t, has_binding v (sym h.binds ∙ own)))
        | inr other ↦ (let k = h.state.bound q v i other (omega (arith, w.clock)) in (k.0, extends.columns column.type_of_binding v.0 k.0 k.1))
      ]

  new_modes : OnlyBindersHaveModes g.body new.result
  new_modes q m i =
      let long_modes : p.0 < length old.result.binding_modes = rw (h.state.of_body.long column.binding_modes) h.within in
      elim (own_set-cases old.result.binding_modes p.0 q.0 (mode_of o) m long_modes (rw (columns column.binding_modes) at i)) [
        | inl z ↦ h.state.modes q m z
        | inr z ↦ subst (λ a. IsBinder g.body a) (sym (pat_id q p z.0)) (own_binder o refl z.1)
      ]
    where
      own_binder : (z : Option BindingId) → o ≡ z → mode_of z ≡ Some m → IsBinder g.body p
      own_binder None is k = absurd (cc)
      own_binder (Some v) is k = binder_by g.body p v (slice_get g.body.pats p.0) refl (h.binds ∙ is)

  -- the walk is where it was
  pub recorded_walked : IsWalked g s new
  recorded_walked = record {
    of_body = of_body;
    carried = carried;
    modes = new_modes;
    diagnostics = λ e d i. diagnostic_kept g old.result new.result extends e d (h.state.diagnostics e d (rw (columns column.expr_diagnostics) at i));
    pat_diagnostics = λ q d i. h.state.pat_diagnostics q d (rw (columns column.pat_diagnostics) at i);
    variants = record { exprs = columns column.expr_variants ∙ h.state.variants.exprs; pats = columns column.pat_variants ∙ h.state.variants.pats };
    items = λ q u i. h.state.items q u (rw (columns column.item_of_pat) at i);
    free_items = λ q i lo. rw (columns column.item_of_pat) (h.state.free_items q i (omega (arith, w.clock)));
    placeholders = λ k u i. h.state.placeholders k u (rw (columns column.type_of_placeholder) at i);
    seen = λ i z there. seen_as_kept g old new extends (λ e d k. rw (columns column.expr_diagnostics) k) w.holes z (h.state.seen i z (rw seen_is at there));
    free_exprs = λ e i lo. rw (columns column.type_of_expr) (h.state.free_exprs e i (omega (arith, w.clock)));
    free_pats = λ q i lo.
        rw (columns column.type_of_pat) (slice_get-set_other old.result.type_of_pat p.0 q.0 (Some t) (other_number q lo) ∙ h.state.free_pats q i (omega (arith, w.clock)));
    free_modes = λ q i lo.
        rw (columns column.binding_modes) (own_set-other old.result.binding_modes p.0 q.0 (mode_of o) (other_number q lo) ∙ h.state.free_modes q i (omega (arith, w.clock)));
    free_bindings = λ q v i lo.
        rw (columns column.type_of_binding) (binding_other q v i (later q lo) o refl ∙ h.state.free_bindings q v i (omega (arith, w.clock)));
    bound = bound;
  }
    where
      other_number : (q : PatId) → new.clock ≤ pat_start g.body s q → q.0 ≢ p.0
      other_number q lo i = later q lo (pat_id q p i)

  -- and the pattern is still open, but has its type
  pub enters_recorded : (first : Found) → pat_start g.body s p ≡ first.clock → ((m : TypeMismatch) → y ≡ Some m → IsTruePatMismatch g new.result p m) → Enters g s p first old → Enters g s p first new
  enters_recorded first here true k = record {
    clock = omega (arith, k.clock, w.clock);
    extends = extends_trans first.result old.result new.result k.extends extends;
    kept = λ e i lo. ap (λ l. slice_get l e.0) (columns column.type_of_expr) ∙ k.kept e i lo;
    kept_pats = λ q i lo.
        let ne : q.0 ≢ p.0 = (λ is. (let same : pat_start g.body s q ≡ pat_start g.body s p = ap (λ z. pat_start g.body s z) (pat_id q p is) in omega (arith, same, here, lo))) in
        ap (λ l. slice_get l q.0) (columns column.type_of_pat) ∙ (slice_get-set_other old.result.type_of_pat p.0 q.0 (Some t) ne ∙ k.kept_pats q i lo);
    state = open_walked g s p new recorded_walked;
    made = λ e i lo hi. obeys_kept g old.result new.result extends e (k.made e i lo (omega (arith, w.clock)));
    pats_made = λ q i other lo hi. pat_kept g old.result new.result extends q (slice_get g.body.pats q.0) (k.pats_made q i other lo (omega (arith, w.clock)));
    truths = λ e m i.
        elim (k.truths e m (rw (columns column.expr_mismatches) at i)) [
          | inl q ↦ inl q
          | inr q ↦ inr (misfit_kept g old.result new.result extends e m q.0, demand_kept g old.result new.result extends e m.expected q.1)
        ];
    pat_truths = λ q m i.
        elim (mismatch_cases y q.0 m (rw (columns column.pat_mismatches) at i)) [
          | inl z ↦ elim (k.pat_truths q m z) [ inl a ↦ inl a | inr a ↦ inr (pat_truth_kept g old.result new.result extends q m a) ]
          | inr z ↦ inr (subst (λ a. IsTruePatMismatch g new.result a m) (sym (pat_id q p z.0)) (true m z.1))
        ];
  }
