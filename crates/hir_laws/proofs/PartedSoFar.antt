-- Patterns that bind the same, number by number.
use Rattle.std.proofs.Common.{◌≡◌, ◌⊎◌, ◌<◌, ◌≤◌, ◌+◌, ℕ, Bool, true, false, List, length, get_or, Option, Some, None, refl, sym, ◌∙◌, ap, subst, arith, inl, inr, replicate}
use Rattle.std.specs.Prelude.{slice_get, slice_set, IsTrue, ◌↔◌, MatchBool}
use Rattle.std.proofs.lemmas.Bool.{cases_lt, cases_order}
use Rattle.std.proofs.lemmas.Bool.Decides.{eqb_tells}
use Rattle.std.proofs.lemmas.List.{get_or-set_same, get_or-set_other, length-set, length-replicate, get_or-replicate, get_or_past, set_past}
use Rattle.std.proofs.Math.Nat.{eq-or-lt_of_le}
use Rattle.hir_types.specs.declared.ids.ExprOrPatId.TheVariants as node
use Rattle.hir_laws.specs.Words.{BindingId, PatId, RawBody, Schedule, Binds, IsNode, IsSchedule, Node, inner, position, start, end, the_body}
use Rattle.hir_laws.specs.Own.{AllParted, ArePartedBelow, AreParted, IsBinder, IsLast, IsPartedFrom, IsPartedSoFar, bound_at, number}
use Rattle.hir_laws.proofs.Nodes.{at_binder, binder_at, binder_inside}
use Rattle.hir_laws.proofs.Parted.{parted_further}

pub none_parted : (b : RawBody) (s : Schedule) (lasts : List (Option ℕ)) → lasts ≡ replicate (length b.bindings) None → IsPartedSoFar b s 0 lasts
none_parted b s lasts is = record {
  size = rw is (length-replicate {A = Option ℕ} (length b.bindings) None);
  last = λ v lt. rw (is, get_or-replicate {A = Option ℕ} (length b.bindings) v.0 None None lt) (λ p binds below. absurd (omega (arith, below)));
  parted = λ v p q lt one two before below. absurd (omega (arith, below));
}

pub parted_all : (b : RawBody) (s : Schedule) (k : ℕ) (lasts : List (Option ℕ)) → IsSchedule b s → end b s the_body ≤ k → IsPartedSoFar b s k lasts → AllParted b s
parted_all b s k lasts law le h v p q lt one two before =
    h.parted v p q lt one two before (let reached = law.reached (inner (node.PatId q)) (binder_inside b q v two) in omega (arith, reached, le))

-- no pattern with the number k binds v
abbrev IsNoBinder : RawBody → Schedule → ℕ → BindingId → Type 0
IsNoBinder b s k v = (p : PatId) → Binds b p v → number b s p ≡ k → ⊥

below_more : (b : RawBody) (s : Schedule) (k : ℕ) (v : BindingId) (p : PatId) → IsNoBinder b s k v → Binds b p v → number b s p < k + 1 → number b s p < k
below_more b s k v p none binds lt = elim (eq-or-lt_of_le {n = number b s p} {m = k} (omega (arith, lt))) [ inl e ↦ absurd (none p binds e) | inr l ↦ l ]

last_stays : (b : RawBody) (s : Schedule) (k : ℕ) (v : BindingId) (o : Option ℕ) → IsNoBinder b s k v → IsLast b s k v o → IsLast b s (k + 1) v o
last_stays b s k v None none h = λ p binds lt. h p binds (below_more b s k v p none binds lt)
last_stays b s k v (Some m) none h = (h.0, (let lt = h.1 in omega (arith, lt)), λ q binds lt. h.2 q binds (below_more b s k v q none binds lt))

pub parted_stays : (b : RawBody) (s : Schedule) (k : ℕ) (lasts : List (Option ℕ)) → ((v : BindingId) → v.0 < length b.bindings → IsNoBinder b s k v) → IsPartedSoFar b s k lasts → IsPartedSoFar b s (k + 1) lasts
parted_stays b s k lasts none h = record {
  size = h.size;
  last = λ v lt. last_stays b s k v (get_or lasts v.0 None) (none v lt) (h.last v lt);
  parted = λ v p q lt one two before below. h.parted v p q lt one two before (below_more b s k v q (none v lt) two below);
}

-- ---- a pattern with the number k binds v

module _ (b : RawBody) (s : Schedule) (law : IsSchedule b s) (k : ℕ) (p : PatId) (v : BindingId) (binds : Binds b p v) (at : number b s p ≡ k) where
  -- no other pattern has its number
  only_here : (q : PatId) (w : BindingId) → Binds b q w → number b s q ≡ k → q ≡ p
  only_here q w other there =
      let same : inner (node.PatId q) ≡ inner (node.PatId p) = law.apart (inner (node.PatId q)) (inner (node.PatId p)) (binder_inside b q w other) (binder_inside b p v binds) (there ∙ sym at) in
      cc

  -- it binds nothing else
  binds_none : (w : BindingId) → (w.0 ≡ v.0 → ⊥) → IsNoBinder b s k w
  binds_none w apart q other there =
      let same : q ≡ p = only_here q w other there in
      let here : Binds b p w = subst (λ r. Binds b r w) same other in
      let equal : w ≡ v = cc in
      apart (ap (λ (u : BindingId). u.0) equal)

  -- each pattern before that binds v is parted from it
  parted_here : (o : Option ℕ) → IsLast b s k v o → IsPartedFrom b s k o → ArePartedBelow b s k → v.0 < length b.bindings → (q : PatId) → Binds b q v → number b s q < k → AreParted b s (number b s q) k
  parted_here None last from parted within q other lt = absurd (last q other lt)
  parted_here (Some m) last from parted within q other lt = elim (eq-or-lt_of_le {n = number b s q} {m = m} (last.2 q other lt)) [
    | inl e ↦ rw e from
    | inr l ↦
        (let before : number b s q < number b s last.0.0 = rw last.0.2 l in
        let near : AreParted b s (number b s q) (number b s last.0.0) = parted v q last.0.0 within other last.0.1 before (let below = last.1 in rw last.0.2 below) in
        parted_further b s law (number b s q) m k l last.1 (rw last.0.2 at near) from)
  ]

  pub binder_of_last : (o : Option ℕ) → IsLast b s k v o → IsBinder b s k o
  binder_of_last None last = tt
  binder_of_last (Some m) last = ((last.0.0, v, last.0.1, last.0.2), last.1)

  pub parted_more : (lasts new : List (Option ℕ)) → v.0 < length b.bindings → IsPartedSoFar b s k lasts → IsPartedFrom b s k (get_or lasts v.0 None) → new ≡ slice_set lasts v.0 (Some k) → IsPartedSoFar b s (k + 1) new
  parted_more lasts new within h from is = record {
    size = rw (is, length-set lasts v.0 (Some k)) h.size;
    last = λ w lt. rw is (elim (eqb_tells w.0 v.0) [
      | inl e ↦ rw (e.1, get_or-set_same lasts v.0 (Some k) None (rw h.size within)) ((p, binds, at), omega arith, λ q other below. omega (arith, below))
      | inr e ↦ rw (get_or-set_other lasts v.0 w.0 (Some k) None e.1) (last_stays b s k w (get_or lasts w.0 None) (binds_none w e.1) (h.last w lt))
    ]);
    parted = λ w q r lt one two before below. elim (eq-or-lt_of_le {n = number b s r} {m = k} (omega (arith, below))) [
      | inl e ↦
          (let here : Binds b p w = subst (λ x. Binds b x w) (only_here r w two e) two in
          let same : w ≡ v = cc in
          rw e (parted_here (get_or lasts v.0 None) (h.last v within) from h.parted within q (subst (λ u. Binds b q u) same one) (rw e at before)))
      | inr l ↦ h.parted w q r lt one two before l
    ];
  }

  pub not_parted : (m : ℕ) → v.0 < length b.bindings → IsLast b s k v (Some m) → (AreParted b s m k → ⊥) → AllParted b s → ⊥
  not_parted m within last none all =
      none (rw last.0.2 at (rw at at (all v last.0.0 p within last.0.1 binds (let lt = last.1 in rw (last.0.2, at) lt))))

  -- where no or-pattern parts it from the last before it
  broken_here : (o : Option ℕ) → IsLast b s k v o → v.0 < length b.bindings → (IsPartedFrom b s k o → ⊥) → AllParted b s → ⊥
  broken_here None last within none all = none tt
  broken_here (Some m) last within none all = not_parted m within last none all

  pub binder_tells : (told : Bool) (lasts new : List (Option ℕ)) → IsPartedSoFar b s k lasts → (IsBinder b s k (get_or lasts v.0 None) → IsTrue told ↔ IsPartedFrom b s k (get_or lasts v.0 None))
      → new ≡ slice_set lasts v.0 (Some k) → MatchBool told (IsPartedSoFar b s (k + 1) new) (AllParted b s → ⊥)
  binder_tells told lasts new h says is = elim (cases_lt v.0 (length b.bindings)) [
    | inl lt ↦ by told (says (binder_of_last (get_or lasts v.0 None) (h.last v lt))) lt
    | inr ge ↦
        (let past : length lasts ≤ v.0 = rw h.size ge in
        let none : get_or lasts v.0 None ≡ None = get_or_past lasts v.0 None past in
        let told_so : IsTrue told = (says (rw none tt)).1 (rw none tt) in
        let same : new ≡ lasts = is ∙ set_past lasts v.0 (Some k) past in
        let stays : IsPartedSoFar b s (k + 1) lasts = parted_stays b s k lasts (λ w lt. binds_none w (λ e. (let below : w.0 < length b.bindings = lt in omega (arith, below, e, ge)))) h in
        subst (λ c. MatchBool c (IsPartedSoFar b s (k + 1) new) (AllParted b s → ⊥)) (sym told_so) (rw same stays))
  ]
    where
      by : (told : Bool) → IsTrue told ↔ IsPartedFrom b s k (get_or lasts v.0 None) → v.0 < length b.bindings → MatchBool told (IsPartedSoFar b s (k + 1) new) (AllParted b s → ⊥)
      by true tells lt = parted_more lasts new lt h (tells.0 refl) is
      by false tells lt = broken_here (get_or lasts v.0 None) (h.last v lt) lt (λ from. (let t = tells.1 from in cc))

-- ---- by positions

-- where a node that binds nothing has the number k, no pattern that binds has it
pub none_here : (b : RawBody) (s : Schedule) → IsSchedule b s → (k : ℕ) (n : Node) → IsNode b n → start b s n ≡ k → bound_at b (position b n) ≡ None → (v : BindingId) → IsNoBinder b s k v
none_here b s law k n is at none v p binds there =
    let same : n ≡ inner (node.PatId p) = law.apart n (inner (node.PatId p)) is (binder_inside b p v binds) (at ∙ sym there) in
    let some : bound_at b (position b n) ≡ Some v.0 = subst (λ m. bound_at b (position b m) ≡ Some v.0) (sym same) (at_binder b p v (binder_inside b p v binds) binds) in
    cc

-- where a node that binds has the number k
pub node_tells : (b : RawBody) (s : Schedule) → IsSchedule b s → (k i v : ℕ) (n : Node) (told : Bool) (lasts new : List (Option ℕ)) → IsNode b n → position b n ≡ i → start b s n ≡ k → bound_at b i ≡ Some v → IsPartedSoFar b s k lasts
    → (IsBinder b s k (get_or lasts v None) → IsTrue told ↔ IsPartedFrom b s k (get_or lasts v None)) → new ≡ slice_set lasts v (Some k) → MatchBool told (IsPartedSoFar b s (k + 1) new) (AllParted b s → ⊥)
node_tells b s law k i v n told lasts new is there at bound h says e =
    let binder = binder_at b n (record { 0 = v }) is (rw there bound) in
    binder_tells b s law k binder.0 (record { 0 = v }) binder.2 (sym (ap (start b s) binder.1) ∙ at) told lasts new h says e

-- where no node has the number k
pub number_passed : (b : RawBody) (s : Schedule) (k : ℕ) (lasts : List (Option ℕ)) → ((n : Node) → IsNode b n → start b s n ≡ k → ⊥) → IsPartedSoFar b s k lasts → IsPartedSoFar b s (k + 1) lasts
number_passed b s k lasts none h = parted_stays b s k lasts (λ v lt p binds at. none (inner (node.PatId p)) (binder_inside b p v binds) at) h
