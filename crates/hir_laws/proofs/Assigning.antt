-- Patterns under an assignment's target: which they are is told by the node above each.
use Rattle.std.proofs.Common.{◌≡◌, ◌⊎◌, ◌<◌, ◌≤◌, ◌+◌, ◌-◌, ◌||◌, ℕ, zero, suc, Bool, true, false, List, length, get_or, Option, Some, None, refl, sym, ◌∙◌, ap, subst, arith, inl, inr, replicate}
use Rattle.std.specs.Prelude.{slice_get, slice_set, nat_lt, if◌then◌else◌, IsTrue, ◌↔◌, ◌==◌, MatchBool, not}
use Rattle.std.proofs.lemmas.Bool.{cases_lt}
use Rattle.std.proofs.lemmas.Bool.Decides.{eqb_tells, leb_tells}
use Rattle.std.proofs.lemmas.List.{get_or-set_same, get_or-set_other, length-set, length-replicate}
use Rattle.std.proofs.lemmas.Option.{slice_get_within, slice_get_past}
use Rattle.std.proofs.Math.Nat.{eq-or-lt_of_le}
use Rattle.hir_types.specs.declared.ids.ExprOrPatId.TheVariants as node
use Rattle.hir_laws.specs.Words.{ExprId, PatId, RawExpr, RawPat, RawBody, Schedule, IsAssigned, assigned_below, assigned_here, IsNode, IsSchedule, Node, Part, IsInnermost, end, inner, part_at, position, start, the_body}
use Rattle.hir_laws.specs.Words.hir_raw.Order.{assigned, later_parts, parts_of_expr, parts_of_pat, is_place_target}
use Rattle.hir_laws.specs.Words.hir_raw.declared.raw.RawExpr.TheVariants as expr
use Rattle.hir_laws.specs.Words.hir_raw.declared.raw.RawPat.TheVariants as pat
use Rattle.hir_laws.specs.Words.hir_raw.declared.later.LaterExpr.TheVariants as later_expr
use Rattle.hir_laws.specs.Words.hir_raw.declared.later.LaterPat.TheVariants as later_pat
use Rattle.hir_laws.specs.Own.{AreMarkedSoFar, PlacesFit, assigns_to, is_place, is_under, mark_by, number, pattern_index}
use Rattle.hir_laws.proofs.Words.{above, innermost_above, one_place, some_innermost}

-- ---- the positions of nodes

index_before : (b : RawBody) (i : ℕ) → i < length b.exprs → pattern_index b i ≡ None
index_before b i lt = elim (leb_tells (suc i) (length b.exprs)) [
  | inl t ↦ ap (λ (c : Bool). if c then None else (if nat_lt (i - length b.exprs) (length b.pats) then Some (i - length b.exprs) else None)) t.0
  | inr t ↦ (let ge = t.1 in absurd (omega (arith, lt, ge)))
]

index_past : (b : RawBody) (i : ℕ) → length b.exprs ≤ i → pattern_index b i ≡ (if nat_lt (i - length b.exprs) (length b.pats) then Some (i - length b.exprs) else None)
index_past b i le = elim (leb_tells (suc i) (length b.exprs)) [
  | inl t ↦ (let lt = t.1 in absurd (omega (arith, lt, le)))
  | inr t ↦ ap (λ (c : Bool). if c then None else (if nat_lt (i - length b.exprs) (length b.pats) then Some (i - length b.exprs) else None)) t.0
]

index_among : (b : RawBody) (p : ℕ) → p < length b.pats → (if nat_lt p (length b.pats) then Some p else None) ≡ Some p
index_among b p lt = elim (leb_tells (suc p) (length b.pats)) [
  | inl t ↦ ap (λ (c : Bool). if c then Some p else None) t.0
  | inr t ↦ (let ge = t.1 in absurd (omega (arith, lt, ge)))
]

index_beyond : (b : RawBody) (p : ℕ) → length b.pats ≤ p → (if nat_lt p (length b.pats) then Some p else None) ≡ None
index_beyond b p le = elim (leb_tells (suc p) (length b.pats)) [
  | inl t ↦ (let lt = t.1 in absurd (omega (arith, lt, le)))
  | inr t ↦ ap (λ (c : Bool). if c then Some p else None) t.0
]

-- the index of a node, where it is a pattern
abbrev index_of : Node → Option ℕ
index_of the_body = None
index_of (inner (node.ExprId e)) = None
index_of (inner (node.PatId p)) = Some p.0

abbrev expr_of : RawBody → Node → Option RawExpr
expr_of b the_body = None
expr_of b (inner (node.ExprId e)) = slice_get b.exprs e.0
expr_of b (inner (node.PatId p)) = None

index_here : (b : RawBody) (n : Node) → IsNode b n → pattern_index b (position b n) ≡ index_of n
index_here b the_body is = index_past b (length b.exprs + length b.pats) (omega arith) ∙ index_beyond b (length b.exprs + length b.pats - length b.exprs) (omega arith)
index_here b (inner (node.ExprId e)) is = index_before b e.0 is
index_here b (inner (node.PatId p)) is =
    index_past b (length b.exprs + p.0) (omega arith) ∙ (ap (λ (i : ℕ). if nat_lt i (length b.pats) then Some i else None) (omega arith) ∙ index_among b p.0 is)

expr_here : (b : RawBody) (n : Node) → IsNode b n → slice_get b.exprs (position b n) ≡ expr_of b n
expr_here b the_body is = slice_get_past b.exprs (length b.exprs + length b.pats) (omega arith)
expr_here b (inner (node.ExprId e)) is = refl
expr_here b (inner (node.PatId p)) is = slice_get_past b.exprs (length b.exprs + p.0) (omega arith)

-- ---- assignments

pat_same : (p q : PatId) → p.0 ≡ q.0 → p ≡ q
pat_same p q e = λ i. record { 0 = e i }

target_from : (o : Option RawExpr) (p : PatId) → assigns_to o p.0 ≡ true → (value : ExprId) × (o ≡ Some (expr.Later (later_expr.Assignment p value)))
target_from (Some (expr.Later (later_expr.Assignment target value))) p e = elim (eqb_tells target.0 p.0) [
  | inl t ↦ (value, ap (λ (q : PatId). Some (expr.Later (later_expr.Assignment q value))) (pat_same target p t.1))
  | inr t ↦ absurd (let no : (target.0 == p.0) ≡ false = t.0 in cc)
]
target_from _ p e = absurd (cc)

target_told : (o : Option RawExpr) (p : PatId) (value : ExprId) → o ≡ Some (expr.Later (later_expr.Assignment p value)) → assigns_to o p.0 ≡ true
target_told o p value is = ap (λ (x : Option RawExpr). assigns_to x p.0) is ∙ elim (eqb_tells p.0 p.0) [ inl t ↦ t.0 | inr t ↦ absurd (t.1 refl) ]

assigned_part : (is : Bool) (p : PatId) (value : ExprId) → (k : ℕ) × (x : Part) × (slice_get (later_parts 0 (assigned is p value)) k ≡ Some x) × (x.node ≡ node.PatId p)
assigned_part true p value = (0, _, refl, refl)
assigned_part false p value = (1, _, refl, refl)

-- a target is a part of its assignment
target_part : (b : RawBody) (e value : ExprId) (p : PatId) → slice_get b.exprs e.0 ≡ Some (expr.Later (later_expr.Assignment p value))
    → (k : ℕ) × (x : Part) × (part_at b (inner (node.ExprId e)) k ≡ Some x) × (x.node ≡ node.PatId p)
target_part b e value p found =
    let part = assigned_part (is_place_target b (slice_get b.pats p.0)) p value in
    (part.0, part.1, ap (λ o. slice_get (parts_of_expr b o) part.0) found ∙ part.2, part.3)

-- ---- what the node above a pattern tells

-- how a pattern is assigned to: an assignment names it, or it is part of one that is
data IsAssignedBy (b : RawBody) (p : PatId) : Type 0 where
  by_expr : (e : ExprId) (value : ExprId) → slice_get b.exprs e.0 ≡ Some (expr.Later (later_expr.Assignment p value)) → IsAssignedBy b p
  by_pat : (q : PatId) (k : ℕ) (x : Part) → part_at b (inner (node.PatId q)) k ≡ Some x → x.node ≡ node.PatId p → IsAssigned b q → IsAssignedBy b p

assigned_by : (b : RawBody) (p : PatId) → IsAssigned b p → IsAssignedBy b p
assigned_by b _ (assigned_here p e value found) = by_expr e value found
assigned_by b _ (assigned_below q p k x there same h) = by_pat q k x there same h

or_false : (c : Bool) → (c || false) ≡ true → c ≡ true
or_false true e = refl
or_false false e = e

false_or : (c : Bool) → c ≡ true → (c || false) ≡ true
false_or true e = refl
false_or false e = e

some_part : (o : Option RawPat) (k : ℕ) (x : Part) → slice_get (parts_of_pat o) k ≡ Some x → (y : RawPat) × (o ≡ Some y)
some_part None k x e = absurd (cc)
some_part (Some y) k x e = (y, refl)

module _ (b : RawBody) (s : Schedule) (law : IsSchedule b s) (k : ℕ) (p : PatId) (is : IsNode b (inner (node.PatId p))) (at : number b s p ≡ k) (marks : List Bool) (h : AreMarkedSoFar b s k marks) where
  -- of the node of which it is a part
  module _ (n : Node) (n_is : IsNode b n) (before : start b s n < k) (place : ℕ) (part : Part) (there : part_at b n place ≡ Some part) (same : part.node ≡ node.PatId p) where
    only_above : (m : Node) (j : ℕ) (x : Part) → IsNode b m → part_at b m j ≡ Some x → x.node ≡ node.PatId p → n ≡ m
    only_above m j x m_is at_m equal = (one_place b s law n m place j part x n_is m_is there at_m (same ∙ sym equal)).0

    by_above : IsAssignedBy b p → ((value : ExprId) × (expr_of b n ≡ Some (expr.Later (later_expr.Assignment p value)))) ⊎ ((q : PatId) × (n ≡ inner (node.PatId q)) × IsAssigned b q)
    by_above (by_expr e value found) =
        let part_of = target_part b e value p found in
        let equal = only_above (inner (node.ExprId e)) part_of.0 part_of.1 (slice_get_within b.exprs e.0 _ found) part_of.2 part_of.3 in
        inl (value, ap (expr_of b) equal ∙ found)
    by_above (by_pat q j x at_q equal assigned) =
        let some = some_part (slice_get b.pats q.0) j x at_q in
        inr (q, only_above (inner (node.PatId q)) j x (slice_get_within b.pats q.0 some.0 some.1) at_q equal, assigned)

  above_tells : (n : Node) → IsNode b n → start b s n < k → (place : ℕ) (part : Part) → part_at b n place ≡ Some part → part.node ≡ node.PatId p
      → IsTrue (assigns_to (expr_of b n) p.0 || mark_by marks (index_of n)) ↔ IsAssigned b p
  above_tells the_body n_is before place part there same = (
    λ t. absurd (cc),
    λ a. absurd (elim (by_above the_body n_is before place part there same (assigned_by b p a)) [ inl e ↦ (let no = e.1 in cc) | inr q ↦ (let no = q.1 in cc) ]),
  )
  above_tells (inner (node.ExprId e)) n_is before place part there same = (
    λ t. (let found = target_from (slice_get b.exprs e.0) p (or_false (assigns_to (slice_get b.exprs e.0) p.0) t) in assigned_here p e found.0 found.1),
    λ a. elim (by_above (inner (node.ExprId e)) n_is before place part there same (assigned_by b p a)) [
      | inl by ↦ false_or (assigns_to (slice_get b.exprs e.0) p.0) (target_told (slice_get b.exprs e.0) p by.0 by.1)
      | inr q ↦ absurd (let no = q.1 in cc)
    ],
  )
  above_tells (inner (node.PatId q)) n_is before place part there same = (
    λ t. assigned_below q p place part there same ((h.each q n_is before).0 t),
    λ a. elim (by_above (inner (node.PatId q)) n_is before place part there same (assigned_by b p a)) [
      | inl by ↦ absurd (let no = by.1 in cc)
      | inr r ↦ (let equal : inner (node.PatId q) ≡ inner (node.PatId r.0) = r.1 in let pattern : r.0 ≡ q = cc in (h.each q n_is before).1 (subst (IsAssigned b) pattern r.2))
    ],
  )

  -- the innermost node around it
  pub under_tells : (i : ℕ) (told : Bool) → IsInnermost b s k k (Some i) → told ≡ is_under b marks i p.0 → IsTrue told ↔ IsAssigned b p
  under_tells i told last is_told =
      let r = above b s law k (node.PatId p) is at in
      let place : position b r.parent ≡ i = innermost_above b s law k (node.PatId p) is at i last in
      let later : start b s r.parent < k = (let lt = r.later in omega (arith, lt, at)) in
      let tells = above_tells r.parent r.is_node later r.place r.part r.there r.same in
      let by : is_under b marks i p.0 ≡ (assigns_to (expr_of b r.parent) p.0 || mark_by marks (index_of r.parent)) =
      subst (λ (j : ℕ). is_under b marks j p.0 ≡ (assigns_to (expr_of b r.parent) p.0 || mark_by marks (index_of r.parent))) place
      (rw (expr_here b r.parent r.is_node, index_here b r.parent r.is_node) refl) in
      (λ t. tells.0 (sym by ∙ (sym is_told ∙ t)), λ a. is_told ∙ (by ∙ tells.1 a))

  pub none_under : IsInnermost b s k k None → ⊥
  none_under none = some_innermost b s law k (node.PatId p) is at none

-- ---- number by number

pub none_marked : (b : RawBody) (s : Schedule) (marks : List Bool) → marks ≡ replicate (length b.pats) false → AreMarkedSoFar b s 0 marks
none_marked b s marks is = record {
  size = rw is (length-replicate {A = Bool} (length b.pats) false);
  each = λ p lt before. absurd (omega (arith, before));
  fit = λ p e before found. absurd (omega (arith, before));
}

pub marked_all : (b : RawBody) (s : Schedule) (k : ℕ) (marks : List Bool) → IsSchedule b s → end b s the_body ≤ k → AreMarkedSoFar b s k marks → PlacesFit b
marked_all b s k marks law le h p e found = h.fit p e (let reached = law.reached (inner (node.PatId p)) (slice_get_within b.pats p.0 _ found) in omega (arith, reached, le)) found

-- where no pattern has the number k
pub marks_kept : (b : RawBody) (s : Schedule) (k : ℕ) (marks : List Bool) → ((p : PatId) → IsNode b (inner (node.PatId p)) → number b s p ≡ k → ⊥) → AreMarkedSoFar b s k marks → AreMarkedSoFar b s (k + 1) marks
marks_kept b s k marks none h = record {
  size = h.size;
  each = λ p lt before. h.each p lt (below p lt before);
  fit = λ p e before found. h.fit p e (below p (slice_get_within b.pats p.0 _ found) before) found;
}
  where
    below : (p : PatId) → IsNode b (inner (node.PatId p)) → number b s p < k + 1 → number b s p < k
    below p is lt = elim (eq-or-lt_of_le {n = number b s p} {m = k} (omega (arith, lt))) [ inl e ↦ absurd (none p is e) | inr l ↦ l ]

place_is : (o : Option RawPat) (e : ExprId) → o ≡ Some (pat.Later (later_pat.Expr e)) → is_place o ≡ true
place_is o e is = ap is_place is

is_place_from : (o : Option RawPat) → is_place o ≡ true → (e : ExprId) × (o ≡ Some (pat.Later (later_pat.Expr e)))
is_place_from (Some (pat.Later (later_pat.Expr e))) is = (e, refl)
is_place_from _ is = absurd (cc)

-- where the pattern p has it
pub marks_more : (b : RawBody) (s : Schedule) → IsSchedule b s → (k : ℕ) (p : PatId) → IsNode b (inner (node.PatId p)) → number b s p ≡ k → (told : Bool) (marks new : List Bool) → AreMarkedSoFar b s k marks
    → IsTrue told ↔ IsAssigned b p → new ≡ slice_set marks p.0 told → MatchBool (told || not (is_place (slice_get b.pats p.0))) (AreMarkedSoFar b s (k + 1) new) (PlacesFit b → ⊥)
marks_more b s law k p is at told marks new h says set = by told (is_place (slice_get b.pats p.0)) refl refl
  where
    before_or_here : (q : PatId) → IsNode b (inner (node.PatId q)) → number b s q < k + 1 → (q ≡ p) ⊎ (number b s q < k)
    before_or_here q q_is lt = elim (eq-or-lt_of_le {n = number b s q} {m = k} (omega (arith, lt))) [
      | inl e ↦ inl (let same : inner (node.PatId q) ≡ inner (node.PatId p) = law.apart (inner (node.PatId q)) (inner (node.PatId p)) q_is is (e ∙ sym at) in cc)
      | inr l ↦ inr l
    ]

    each : (q : PatId) → q.0 < length b.pats → number b s q < k + 1 → IsTrue (get_or new q.0 false) ↔ IsAssigned b q
    each q q_is lt = elim (before_or_here q q_is lt) [
      | inl same ↦ subst (λ r. IsTrue (get_or new r.0 false) ↔ IsAssigned b r) (sym same) (rw (set, get_or-set_same marks p.0 told false (rw h.size is)) says)
      | inr l ↦
          (let other : q.0 ≡ p.0 → ⊥ = λ e. (let equal : number b s q ≡ number b s p = ap (λ (i : ℕ). start b s (inner (node.PatId (record { 0 = i })))) e in omega (arith, l, equal, at)) in
          rw (set, get_or-set_other marks p.0 q.0 told false other) (h.each q q_is l))
    ]

    -- where it is no place, or is assigned to
    marked : ((e : ExprId) → slice_get b.pats p.0 ≡ Some (pat.Later (later_pat.Expr e)) → IsAssigned b p) → AreMarkedSoFar b s (k + 1) new
    marked fits = record {
      size = rw (set, length-set marks p.0 told) h.size;
      each = each;
      fit = λ q e lt found. elim (before_or_here q (slice_get_within b.pats q.0 _ found) lt) [
        | inl same ↦ subst (IsAssigned b) (sym same) (fits e (subst (λ (r : PatId). slice_get b.pats r.0 ≡ Some (pat.Later (later_pat.Expr e))) same found))
        | inr l ↦ h.fit q e l found
      ];
    }

    by : (c d : Bool) → told ≡ c → is_place (slice_get b.pats p.0) ≡ d → MatchBool (c || not d) (AreMarkedSoFar b s (k + 1) new) (PlacesFit b → ⊥)
    by true d is_told is_d = marked (λ e found. says.0 is_told)
    by false false is_told is_d = marked (λ e found. absurd (let yes : is_place (slice_get b.pats p.0) ≡ true = ap is_place found in cc))
    by false true is_told is_d = λ fit. (let found = is_place_from (slice_get b.pats p.0) is_d in let t : told ≡ true = says.1 (fit p found.0 found.1) in absurd (cc))

-- ---- by positions

index_tells : (n : Node) (i : ℕ) → index_of n ≡ Some i → n ≡ inner (node.PatId (record { 0 = i }))
index_tells the_body i e = absurd (cc)
index_tells (inner (node.ExprId d)) i e = absurd (cc)
index_tells (inner (node.PatId p)) i e = let same : p.0 ≡ i = cc in λ j. inner (node.PatId (record { 0 = same j }))

-- the pattern that stands at a position
pub pattern_there : (b : RawBody) (n : Node) (i : ℕ) → IsNode b n → pattern_index b (position b n) ≡ Some i → n ≡ inner (node.PatId (record { 0 = i }))
pattern_there b n i is e = index_tells n i (sym (index_here b n is) ∙ e)

-- where no pattern stands
pub no_pattern_there : (b : RawBody) (s : Schedule) → IsSchedule b s → (k : ℕ) (n : Node) → IsNode b n → start b s n ≡ k → pattern_index b (position b n) ≡ None → (p : PatId) → IsNode b (inner (node.PatId p)) → number b s p ≡ k → ⊥
no_pattern_there b s law k n is at none p p_is there =
    let same : n ≡ inner (node.PatId p) = law.apart n (inner (node.PatId p)) is p_is (at ∙ sym there) in
    let index : index_of n ≡ Some p.0 = ap index_of same in
    let none_of : index_of n ≡ None = sym (index_here b n is) ∙ none in
    cc
