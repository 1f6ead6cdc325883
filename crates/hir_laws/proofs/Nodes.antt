-- What stands at the position of a node.
use Rattle.std.proofs.Common.{◌≡◌, ◌<◌, ◌≤◌, ◌+◌, ◌-◌, ℕ, suc, List, length, Bool, true, false, Option, Some, None, refl, sym, ◌∙◌, ap, subst, arith, inl, inr}
use Rattle.std.specs.Prelude.{slice_get, nat_lt, option_map, if◌then◌else◌}
use Rattle.std.specs.Option.{option_and_then}
use Rattle.std.proofs.lemmas.Bool.{lt-ltb, lt-leb}
use Rattle.std.proofs.lemmas.Bool.Decides.{leb_tells}
use Rattle.std.proofs.lemmas.Option.{slice_get_past, slice_get_within}
use Rattle.hir_types.specs.declared.ids.ExprOrPatId.TheVariants as node
use Rattle.hir_laws.specs.Words.{BindingId, PatId, RawPat, RawBody, Binds, IsNode, Node, binding_of, inner, position, the_body}
use Rattle.hir_laws.specs.Words.hir_raw.declared.raw.RawPat.TheVariants as pat
use Rattle.hir_laws.specs.Words.hir_raw.declared.later.LaterPat.TheVariants as later_pat
use Rattle.hir_laws.specs.Own.{bound_at, bound_binding, is_or, pattern_at, pattern_of}

before_exprs : (b : RawBody) (i : ℕ) → i < length b.exprs → pattern_at b i ≡ None
before_exprs b i lt = elim (leb_tells (suc i) (length b.exprs)) [
  | inl t ↦ ap (λ (c : Bool). if c then None else slice_get b.pats (i - length b.exprs)) t.0
  | inr t ↦ (let ge = t.1 in absurd (omega (arith, lt, ge)))
]

past_exprs : (b : RawBody) (i : ℕ) → length b.exprs ≤ i → pattern_at b i ≡ slice_get b.pats (i - length b.exprs)
past_exprs b i le = elim (leb_tells (suc i) (length b.exprs)) [
  | inl t ↦ (let lt = t.1 in absurd (omega (arith, lt, le)))
  | inr t ↦ ap (λ (c : Bool). if c then None else slice_get b.pats (i - length b.exprs)) t.0
]

-- the pattern at the position of a node is the node
pub pattern_here : (b : RawBody) (n : Node) → IsNode b n → pattern_at b (position b n) ≡ pattern_of b n
pattern_here b the_body is = past_exprs b (length b.exprs + length b.pats) (omega arith) ∙ slice_get_past b.pats (length b.exprs + length b.pats - length b.exprs) (omega arith)
pattern_here b (inner (node.ExprId e)) is = before_exprs b e.0 is
pattern_here b (inner (node.PatId p)) is = past_exprs b (length b.exprs + p.0) (omega arith) ∙ ap (slice_get b.pats) (omega arith)

pub same_binding : (v w : BindingId) → v.0 ≡ w.0 → v ≡ w
same_binding v w e = λ i. record { 0 = e i }

pub binding_from : (o : Option BindingId) (v : BindingId) → option_map (λ w. w.0) o ≡ Some v.0 → o ≡ Some v
binding_from None v e = absurd (cc)
binding_from (Some w) v e = let q : w.0 ≡ v.0 = cc in ap (λ (u : BindingId). Some u) (same_binding w v q)

binds_from : (o : Option RawPat) (v : BindingId) → option_and_then bound_binding o ≡ Some v.0 → option_and_then binding_of o ≡ Some v
binds_from None v e = absurd (cc)
binds_from (Some p) v e = binding_from (binding_of p) v e

from_binds : (o : Option RawPat) (v : BindingId) → option_and_then binding_of o ≡ Some v → option_and_then bound_binding o ≡ Some v.0
from_binds None v e = absurd (cc)
from_binds (Some p) v e = ap (λ (w : Option BindingId). option_map (λ u. u.0) w) e

-- the node at a position that binds v is a pattern
pub binder_at : (b : RawBody) (n : Node) (v : BindingId) → IsNode b n → bound_at b (position b n) ≡ Some v.0 → (p : PatId) × (n ≡ inner (node.PatId p)) × Binds b p v
binder_at b n v is e = by n is (sym (ap (option_and_then bound_binding) (pattern_here b n is)) ∙ e)
  where
    by : (n : Node) → IsNode b n → option_and_then bound_binding (pattern_of b n) ≡ Some v.0 → (p : PatId) × (n ≡ inner (node.PatId p)) × Binds b p v
    by the_body is e = absurd (cc)
    by (inner (node.ExprId d)) is e = absurd (cc)
    by (inner (node.PatId p)) is e = (p, refl, binds_from (slice_get b.pats p.0) v e)

pub at_binder : (b : RawBody) (p : PatId) (v : BindingId) → IsNode b (inner (node.PatId p)) → Binds b p v → bound_at b (position b (inner (node.PatId p))) ≡ Some v.0
at_binder b p v is binds = ap (option_and_then bound_binding) (pattern_here b (inner (node.PatId p)) is) ∙ from_binds (slice_get b.pats p.0) v binds

some_at : (o : Option RawPat) (v : BindingId) → option_and_then binding_of o ≡ Some v → (x : RawPat) × (o ≡ Some x)
some_at None v e = absurd (cc)
some_at (Some p) v e = (p, refl)

pub binder_inside : (b : RawBody) (p : PatId) (v : BindingId) → Binds b p v → IsNode b (inner (node.PatId p))
binder_inside b p v binds = let x = some_at (slice_get b.pats p.0) v binds in slice_get_within b.pats p.0 x.0 x.1

-- ---- or-patterns

parts_from : (o : Option RawPat) → is_or o ≡ true → (parts : List PatId) × (o ≡ Some (pat.Later (later_pat.Or parts)))
parts_from (Some (pat.Later (later_pat.Or parts))) e = (parts, refl)
parts_from _ e = absurd (cc)

-- an or-pattern stands at a position
pub or_at : (b : RawBody) (n : Node) → IsNode b n → is_or (pattern_at b (position b n)) ≡ true
    → (p : PatId) × (parts : List PatId) × (n ≡ inner (node.PatId p)) × (slice_get b.pats p.0 ≡ Some (pat.Later (later_pat.Or parts)))
or_at b n is e = by n (parts_from (pattern_of b n) (sym (ap is_or (pattern_here b n is)) ∙ e))
  where
    by : (n : Node) → (parts : List PatId) × (pattern_of b n ≡ Some (pat.Later (later_pat.Or parts)))
        → (p : PatId) × (parts : List PatId) × (n ≡ inner (node.PatId p)) × (slice_get b.pats p.0 ≡ Some (pat.Later (later_pat.Or parts)))
    by the_body h = absurd (let e = h.1 in cc)
    by (inner (node.ExprId d)) h = absurd (let e = h.1 in cc)
    by (inner (node.PatId p)) h = (p, h.0, refl, h.1)

pub at_or : (b : RawBody) (p : PatId) (parts : List PatId) → IsNode b (inner (node.PatId p)) → slice_get b.pats p.0 ≡ Some (pat.Later (later_pat.Or parts)) → is_or (pattern_at b (position b (inner (node.PatId p)))) ≡ true
at_or b p parts is found = ap is_or (pattern_here b (inner (node.PatId p)) is ∙ found)

-- which binds nothing
pub or_binds_none : (b : RawBody) (p : PatId) (parts : List PatId) (v : BindingId) → slice_get b.pats p.0 ≡ Some (pat.Later (later_pat.Or parts)) → Binds b p v → ⊥
or_binds_none b p parts v found binds = let none : Some v ≡ option_and_then binding_of (Some (pat.Later (later_pat.Or parts))) = sym binds ∙ ap (option_and_then binding_of) found in cc
