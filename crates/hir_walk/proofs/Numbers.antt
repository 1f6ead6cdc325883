-- The nodes of a body by their numbers, as they are found.
use Rattle.std.proofs.Common.{◌≡◌, ◌<◌, ◌≤◌, ◌+◌, ◌-◌, ℕ, List, length, Option, Some, None, refl, sym, ◌∙◌, ap, arith, inl, inr, replicate}
use Rattle.std.specs.Prelude.{slice_get, slice_set, slice_index}
use Rattle.std.proofs.lemmas.Bool.{cases_lt}
use Rattle.std.proofs.lemmas.Bool.Decides.{eqb_tells}
use Rattle.std.proofs.lemmas.List.{get_or-set_same, get_or-set_other, length-set, length-replicate, get_or-replicate}
use Rattle.std.proofs.lemmas.Option.{slice_get-get_or, slice_get_within, get_or_from_slice_get, slice_get_past}
use Rattle.std.proofs.Math.Nat.{eq-or-lt_of_le}
use Rattle.hir_types.specs.declared.ids.ExprOrPatId.TheVariants as node
use Rattle.hir_walk.specs.Words.{RawBody, Schedule, Node, IsNode, IsSchedule, node_count, inner, the_body, position, start, end}
use Rattle.hir_walk.specs.Numbered.{AreNumbered, IsNumber, last_or_none}

-- at each position below that of the body's end a node stands
pub node_at : (b : RawBody) (i : ℕ) → i < node_count b → (n : Node) × IsNode b n × (position b n ≡ i)
node_at b i lt = elim (cases_lt i (length b.exprs)) [
  | inl expr ↦ (inner (node.ExprId (record { 0 = i })), expr, refl)
  | inr past ↦ elim (cases_lt i (length b.exprs + length b.pats)) [
    | inl pat ↦ (inner (node.PatId (record { 0 = i - length b.exprs })), omega (arith, past, pat), omega (arith, past))
    | inr last ↦ (the_body, tt, omega (arith, last, lt))
  ]
]

pub position_within : (b : RawBody) (n : Node) → IsNode b n → position b n < node_count b
position_within b the_body is = omega arith
position_within b (inner (node.ExprId e)) is = omega (arith, is)
position_within b (inner (node.PatId p)) is = omega (arith, is)

-- the numbers of the nodes at the first n positions
pub record NumberedSoFar (b : RawBody) (s : Schedule) (n : ℕ) (xs : List (Option ℕ)) : Type 0 where
  pub size : length xs ≡ end b s the_body
  pub all : (m : Node) → IsNode b m → position b m < n → slice_get xs (start b s m) ≡ Some (Some (position b m))
  pub each : (k i : ℕ) → slice_get xs k ≡ Some (Some i) → (m : Node) × IsNode b m × (position b m ≡ i) × (start b s m ≡ k)

-- an entry of a list with one entry set is the one that was set, or was there before
module _ {X : Type 0} where
  set_same : (xs : List X) (k : ℕ) (x : X) → k < length xs → slice_get (slice_set xs k x) k ≡ Some x
  set_same xs k x lt =
      slice_get-get_or (slice_set xs k x) k x (rw (length-set xs k x) lt) ∙ ap (λ (y : X). Some y) (get_or-set_same xs k x x lt)

  set_other : (xs : List X) (k j : ℕ) (x : X) → (j ≡ k → ⊥) → slice_get (slice_set xs k x) j ≡ slice_get xs j
  set_other xs k j x other = elim (cases_lt j (length xs)) [
    | inl lt ↦ slice_get-get_or (slice_set xs k x) j x (rw (length-set xs k x) lt) ∙ (ap (λ (y : X). Some y) (get_or-set_other xs k j x x other) ∙ sym (slice_get-get_or xs j x lt))
    | inr ge ↦ slice_get_past (slice_set xs k x) j (rw (length-set xs k x) ge) ∙ sym (slice_get_past xs j ge)
  ]

module _ (b : RawBody) (s : Schedule) (law : IsSchedule b s) where
  last_end : last_or_none s.ends ≡ end b s the_body
  last_end = ap (λ (i : ℕ). slice_index s.ends i) (let size = law.ends_size in omega (arith, size))

  pub numbered_none : (xs : List (Option ℕ)) → xs ≡ replicate (last_or_none s.ends) None → NumberedSoFar b s 0 xs
  numbered_none xs is = record {
    size = rw (is, length-replicate {A = Option ℕ} (last_or_none s.ends) None) last_end;
    all = λ m node lt. absurd (omega (arith, lt));
    each = λ k i at.
        (let at_none : slice_get (replicate (last_or_none s.ends) None) k ≡ Some (Some i) = rw is at at in
        let below = slice_get_within (replicate (last_or_none s.ends) None) k (Some i) at_none in
        let small : k < last_or_none s.ends = rw (length-replicate {A = Option ℕ} (last_or_none s.ends) None) at below in
        let none = get_or-replicate {A = Option ℕ} (last_or_none s.ends) k None None small in
        let some = get_or_from_slice_get (replicate (last_or_none s.ends) None) k (Some i) None at_none in
        absurd (cc));
  }

  pub numbered_more : (n number : ℕ) (xs ys : List (Option ℕ)) → NumberedSoFar b s n xs → n < length s.starts → number ≡ slice_index s.starts n → ys ≡ slice_set xs number (Some n) → NumberedSoFar b s (n + 1) ys
  numbered_more n number xs ys h lt numbered is =
      let here = node_at b n (let size = law.starts_size in omega (arith, size, lt)) in
      let own : start b s here.0 ≡ number = ap (λ (i : ℕ). slice_index s.starts i) here.2 ∙ sym numbered in
      let within : number < length xs = (let reached = law.reached here.0 here.1 in omega (arith, reached, own, h.size)) in
      record {
        size = rw (is, length-set xs number (Some n)) h.size;
        all = λ m node below. rw is (elim (eq-or-lt_of_le {n = position b m} {m = n} (omega (arith, below))) [
          | inl e ↦
              (let same : start b s m ≡ number = ap (λ (i : ℕ). slice_index s.starts i) e ∙ sym numbered in
              rw (same, e) (set_same xs number (Some n) within))
          | inr l ↦
              (let apart : start b s m ≡ number → ⊥ = λ e. (let same : m ≡ here.0 = law.apart m here.0 node here.1 (e ∙ sym own) in
              let there : position b m ≡ position b here.0 = ap (λ (o : Node). position b o) same in omega (arith, there, l, here.2)) in
              set_other xs number (start b s m) (Some n) apart ∙ h.all m node l)
        ]);
        each = λ k i at.
            (let at_set : slice_get (slice_set xs number (Some n)) k ≡ Some (Some i) = rw is at at in
            elim (eqb_tells k number) [
              | inl e ↦
                  (let set : slice_get (slice_set xs number (Some n)) k ≡ Some (Some n) = rw e.1 (set_same xs number (Some n) within) in
                  let same : n ≡ i = cc in
                  (here.0, here.1, here.2 ∙ same, own ∙ sym e.1))
              | inr e ↦ h.each k i (sym (set_other xs number k (Some n) e.1) ∙ at_set)
            ]);
      }

  pub numbered_all : (n : ℕ) (xs : List (Option ℕ)) → NumberedSoFar b s n xs → length s.starts ≤ n → AreNumbered b s xs
  numbered_all n xs h le = record { size = h.size; all = λ m node. h.all m node (let lt = position_within b m node in let size = law.starts_size in omega (arith, lt, size, le)); each = h.each }

-- what stands at the number k
pub numbered_here : (b : RawBody) (s : Schedule) (xs : List (Option ℕ)) (k : ℕ) (o : Option ℕ) → AreNumbered b s xs → slice_get xs k ≡ Some o → IsNumber b s k o
numbered_here b s xs k None h at = λ n node same. (let there : slice_get xs k ≡ Some (Some (position b n)) = rw same at (h.all n node) in absurd (cc))
numbered_here b s xs k (Some i) h at = h.each k i at
