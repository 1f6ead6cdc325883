-- Which patterns bind each binding of a body.
use Rattle.std.proofs.Common.{◌≡◌, ◌⊎◌, ◌<◌, arith, ℕ, List, length, get_or, map, Bool, true, false, Option, Some, None, refl, sym, ◌∙◌, ap, inl, inr}
use Rattle.std.specs.Prelude.{slice_get, option_map, IsTrue, ◌==◌, ◌↔◌}
use Rattle.std.specs.Option.{option_and_then}
use Rattle.std.proofs.lemmas.Option.{slice_get_within, slice_get-map}
use Rattle.std.proofs.lemmas.Bool.{cases_order}
use Rattle.std.proofs.lemmas.Bool.Decides.{eqb_tells}
use Rattle.hir_types.specs.declared.ids.ExprOrPatId.TheVariants as node
use Rattle.hir_laws.specs.Words.{BindingId, PatId, RawPat, RawBody, Namers, Schedule, AreAlternatives, Binds, binding_of, inner, IsNode, IsSchedule, IsNamedAt, IsNamedBy, BoundBySelf, BoundByPatterns, IsWellFormed, StandOnce}
use Rattle.hir_laws.specs.Words.hir_ids.declared.namers.Namers.TheVariants.{Nobody, One, Several}
use Rattle.hir_laws.proofs.Words.{tree_of_schedule}
use Rattle.hir_laws.specs.Own.{AllBound, AllParted, AreBinders, bound_binding, is_bound, is_self, number}
use Rattle.hir_laws.proofs.Alternatives.{alternatives_from, either_order, parted_from}
use Rattle.hir_laws.proofs.Nodes.{binder_inside, binding_from, same_binding}

same_pat : (p q : PatId) → p.0 ≡ q.0 → p ≡ q
same_pat p q e = λ i. record { 0 = e i }

binds_at : (o : Option RawPat) (v : BindingId) → option_map bound_binding o ≡ Some (Some v.0) → option_and_then binding_of o ≡ Some v
binds_at None v e = cc
binds_at (Some p) v e = let q : bound_binding p ≡ Some v.0 = cc in binding_from (binding_of p) v q

at_binds : (o : Option RawPat) (v : BindingId) → option_and_then binding_of o ≡ Some v → option_map bound_binding o ≡ Some (Some v.0)
at_binds None v e = cc
at_binds (Some p) v e = ap (λ (w : Option BindingId). Some (option_map (λ u. u.0) w)) e

pub binds_from_named : (b : RawBody) (p : PatId) (v : BindingId) → IsNamedAt (map bound_binding b.pats) v.0 p.0 → Binds b p v
binds_from_named b p v h = binds_at (slice_get b.pats p.0) v (sym (slice_get-map bound_binding b.pats p.0) ∙ h)

pub named_from_binds : (b : RawBody) (p : PatId) (v : BindingId) → Binds b p v → IsNamedAt (map bound_binding b.pats) v.0 p.0
named_from_binds b p v h = slice_get-map bound_binding b.pats p.0 ∙ at_binds (slice_get b.pats p.0) v h

-- ---- self

self_is : (o : Option BindingId) (v : BindingId) → is_self o v.0 ≡ true → o ≡ Some v
self_is None v e = cc
self_is (Some w) v e = elim (eqb_tells w.0 v.0) [ inl t ↦ ap (λ (u : BindingId). Some u) (same_binding w v t.1) | inr t ↦ absurd (let q : (w.0 == v.0) ≡ false = t.0 in cc) ]

is_self_at : (o : Option BindingId) (v : BindingId) → o ≡ Some v → is_self o v.0 ≡ true
is_self_at None v e = cc
is_self_at (Some w) v e = let q : w ≡ v = cc in elim (eqb_tells w.0 v.0) [ inl t ↦ t.0 | inr t ↦ absurd (t.1 (ap (λ (u : BindingId). u.0) q)) ]

pub self_from : (b : RawBody) (v : BindingId) → is_self b.self_ v.0 ≡ true → b.self_ ≡ Some v
self_from b v e = self_is b.self_ v e

pub is_self_from : (b : RawBody) (v : BindingId) → b.self_ ≡ Some v → is_self b.self_ v.0 ≡ true
is_self_from b v e = is_self_at b.self_ v e

-- ---- bound by some

some_from : (b : RawBody) (v : BindingId) (own : Bool) (x : Namers) → is_self b.self_ v.0 ≡ own → IsNamedBy (map bound_binding b.pats) (length b.pats) v.0 x → is_bound own x ≡ true
    → ((p q : PatId) → Binds b p v → Binds b q v → (p ≡ q) ⊎ AreAlternatives b p q) → BoundBySelf b v ⊎ BoundByPatterns b v
some_from b v true Nobody own named told apart = inl (record { is_self = self_from b v own; alone = λ p binds. named p.0 (binder_inside b p v binds) (named_from_binds b p v binds) })
some_from b v true (One k) own named told apart = cc
some_from b v true Several own named told apart = cc
some_from b v false Nobody own named told apart = cc
some_from b v false (One k) own named told apart = inr (record {
  binder = record { 0 = k };
  binds = binds_from_named b (record { 0 = k }) v named.1;
  apart = apart;
  not_self = λ e. (let q : is_self b.self_ v.0 ≡ true = is_self_from b v e in cc);
})
some_from b v false Several own named told apart = inr (record {
  binder = record { 0 = named.0 };
  binds = binds_from_named b (record { 0 = named.0 }) v named.2;
  apart = apart;
  not_self = λ e. (let q : is_self b.self_ v.0 ≡ true = is_self_from b v e in cc);
})

from_self : (b : RawBody) (v : BindingId) (own : Bool) (x : Namers) → is_self b.self_ v.0 ≡ own → IsNamedBy (map bound_binding b.pats) (length b.pats) v.0 x → BoundBySelf b v → is_bound own x ≡ true
from_self b v false x own named h = let q : is_self b.self_ v.0 ≡ true = is_self_from b v h.is_self in cc
from_self b v true Nobody own named h = refl
from_self b v true (One k) own named h = absurd (h.alone (record { 0 = k }) (binds_from_named b (record { 0 = k }) v named.1))
from_self b v true Several own named h = absurd (h.alone (record { 0 = named.0 }) (binds_from_named b (record { 0 = named.0 }) v named.2))

from_patterns : (b : RawBody) (v : BindingId) (own : Bool) (x : Namers) → is_self b.self_ v.0 ≡ own → IsNamedBy (map bound_binding b.pats) (length b.pats) v.0 x → BoundByPatterns b v → is_bound own x ≡ true
from_patterns b v true x own named h = absurd (h.not_self (self_from b v own))
from_patterns b v false Nobody own named h = absurd (named h.binder.0 (binder_inside b h.binder v h.binds) (named_from_binds b h.binder v h.binds))
from_patterns b v false (One k) own named h = refl
from_patterns b v false Several own named h = refl

-- ---- each binding of the body

-- which of them are bound is right
abbrev pub AreNamedRight : RawBody → List Namers → Type 0
AreNamedRight b xs = (v : ℕ) → v < length xs → IsTrue (is_bound (is_self b.self_ v) (get_or xs v Nobody))

pub named_right : (b : RawBody) (xs : List Namers) → AreBinders b xs → AllBound b → AreNamedRight b xs
named_right b xs names bound v lt =
    let below : v < length b.bindings = rw names.size at lt in
    elim (bound (record { 0 = v }) below) [
      | inl h ↦ from_self b (record { 0 = v }) (is_self b.self_ v) (get_or xs v Nobody) refl (names.each v below) h
      | inr h ↦ from_patterns b (record { 0 = v }) (is_self b.self_ v) (get_or xs v Nobody) refl (names.each v below) h
    ]

module _ (b : RawBody) (s : Schedule) (law : IsSchedule b s) where
  apart_from : AllParted b s → (v : BindingId) (p q : PatId) → v.0 < length b.bindings → Binds b p v → Binds b q v → (p ≡ q) ⊎ AreAlternatives b p q
  apart_from parted v p q within one two =
      let first : IsNode b (inner (node.PatId p)) = binder_inside b p v one in
      let second : IsNode b (inner (node.PatId q)) = binder_inside b q v two in
      elim (cases_order (number b s p) (number b s q)) [
        | inl e ↦ inl (let same : inner (node.PatId p) ≡ inner (node.PatId q) = law.apart (inner (node.PatId p)) (inner (node.PatId q)) first second e in cc)
        | inr (inl lt) ↦ inr (alternatives_from b s law p q first second lt (parted v p q within one two lt))
        | inr (inr gt) ↦ inr (either_order b q p (alternatives_from b s law q p second first gt (parted v q p within two one gt)))
      ]

  pub bound_from : (xs : List Namers) → AreBinders b xs → AreNamedRight b xs → AllParted b s → AllBound b
  bound_from xs names right parted v lt =
      some_from b v (is_self b.self_ v.0) (get_or xs v.0 Nobody) refl (names.each v.0 lt) (right v.0 (rw names.size lt)) (λ p q. apart_from parted v p q lt)

  pub parted_by_bound : AllBound b → AllParted b s
  parted_by_bound bound v p q within one two lt = elim (bound v within) [
    | inl own ↦ absurd (own.alone p one)
    | inr by ↦ elim (by.apart p q one two) [
      | inl same ↦ absurd (let e : number b s p ≡ number b s q = ap (number b s) same in omega (arith, e, lt))
      | inr other ↦ parted_from b s law p q lt other
    ]
  ]

-- ---- as the tests tell it

pub unbound_told : (b : RawBody) (xs : List Namers) (told : Bool) → AreBinders b xs → told ≡ false → IsTrue told ↔ AreNamedRight b xs → AllBound b → ⊥
unbound_told b xs told names was says bound = let t : told ≡ true = says.1 (named_right b xs names bound) in cc

pub bound_told : (b : RawBody) (s : Schedule) → IsSchedule b s → (xs : List Namers) (told : Bool) → AreBinders b xs → AreNamedRight b xs → IsTrue told ↔ AllParted b s → IsTrue told ↔ AllBound b
bound_told b s law xs told names right says = (λ t. bound_from b s law xs names right (says.0 t), λ bound. says.1 (parted_by_bound b s law bound))

-- ---- the law of trees

pub formed : (b : RawBody) (s : Schedule) (told : Bool) → IsSchedule b s → AllBound b → IsTrue told ↔ StandOnce b → IsTrue told ↔ IsWellFormed b
formed b s told law bound says = (λ t. record { tree = tree_of_schedule b s law; bound = bound; labels = says.0 t }, λ h. says.1 h.labels)
