-- The nodes that enclose a place of the walk, as it goes on.
use Rattle.std.proofs.Common.{◌≡◌, ◌⊎◌, ◌<◌, ◌≤◌, ◌+◌, ◌-◌, ℕ, zero, suc, List, [], ◌∷◌, ◌++◌, length, get_or, take, true, false, Some, None, refl, sym, ◌∙◌, ap, subst, arith, inl, inr}
use Rattle.std.specs.Prelude.{slice_get}
use Rattle.std.specs.List.Sorted.{IsNonDecreasingBy, IsPartitionPoint, IsPartitionedBy}
use Rattle.std.proofs.lemmas.Bool.{cases_lt, ltb-true, ltb-false, lt-ltb, leb-true, leb-false}
use Rattle.std.proofs.lemmas.Option.{slice_get_within, slice_get-get_or, get_or_from_slice_get}
use Rattle.std.proofs.lemmas.List.Sorted.{IsNonDecreasingBy-take, IsNonDecreasingBy-push, IsPartitionedBy-leb}
use Rattle.std.proofs.Math.Nat.{eq-or-lt_of_le}
use lib.Dec.{ltb, leb}
use Rattle.hir_walk.specs.Words.{RawBody, Schedule, Node, IsNode, IsSchedule, start, end}
use Rattle.hir_walk.specs.declared.enclosing.Enclosed.{Enclosed}
use Rattle.hir_walk.specs.Enclosed.{IsOf, IsOpen, IsAround, AreOpen, AreAround, IsAroundFrom, IsInnermost}
use Rattle.hir_walk.proofs.Words.{nested}

-- ---- entries of lists

module _ {X : Type 0} where
  pub entry_left : (xs ys : List X) (i : ℕ) (x : X) → slice_get xs i ≡ Some x → slice_get (xs ++ ys) i ≡ Some x
  entry_left [] ys i x e = cc
  entry_left (y ∷ xs) ys zero x e = e
  entry_left (y ∷ xs) ys (suc i) x e = entry_left xs ys i x e

  pub entry_last : (xs : List X) (y : X) → slice_get (xs ++ y ∷ []) (length xs) ≡ Some y
  entry_last [] y = refl
  entry_last (x ∷ xs) y = entry_last xs y

  -- an entry is one of those before the last, or the last
  pub entry_of_push : (xs : List X) (y : X) (i : ℕ) (x : X) → slice_get (xs ++ y ∷ []) i ≡ Some x → (slice_get xs i ≡ Some x) ⊎ (y ≡ x)
  entry_of_push [] y zero x e = inr (cc)
  entry_of_push [] y (suc i) x e = absurd (cc)
  entry_of_push (z ∷ xs) y zero x e = inl e
  entry_of_push (z ∷ xs) y (suc i) x e = entry_of_push xs y i x e

  entry_of_take : (n : ℕ) (xs : List X) (i : ℕ) (x : X) → slice_get (take n xs) i ≡ Some x → (slice_get xs i ≡ Some x) × (i < n)
  entry_of_take zero xs i x e = absurd (cc)
  entry_of_take (suc n) [] i x e = absurd (cc)
  entry_of_take (suc n) (y ∷ xs) zero x e = (e, omega arith)
  entry_of_take (suc n) (y ∷ xs) (suc i) x e = let h = entry_of_take n xs i x e in (h.0, omega (arith, h.1))

  entry_in_take : (n : ℕ) (xs : List X) (i : ℕ) (x : X) → slice_get xs i ≡ Some x → i < n → slice_get (take n xs) i ≡ Some x
  entry_in_take zero xs i x e lt = absurd (omega arith)
  entry_in_take (suc n) [] i x e lt = absurd (cc)
  entry_in_take (suc n) (y ∷ xs) zero x e lt = e
  entry_in_take (suc n) (y ∷ xs) (suc i) x e lt = entry_in_take n xs i x e (omega (arith, lt))

-- an earlier entry has no higher number
earlier : {X : Type 0} (f : X → ℕ) (xs : List X) (i j : ℕ) (x y : X) → IsNonDecreasingBy f xs → slice_get xs i ≡ Some x → slice_get xs j ≡ Some y → i ≤ j → f x ≤ f y
earlier f xs i j x y rise at_i at_j le =
    let below = slice_get_within xs j y at_j in
    let first = get_or_from_slice_get xs i x y at_i in
    let second = get_or_from_slice_get xs j y y at_j in
    subst (λ z. f z ≤ f y) first (subst (λ z. f (get_or xs i y) ≤ f z) second (rise i j y le below))

-- ---- the walk goes on

pub none_open : (b : RawBody) (s : Schedule) → AreOpen b s 0 []
none_open b s = record {
  each = λ i x at. absurd (cc);
  all = λ n is h. (let lt = h.0 in absurd (omega (arith, lt)));
  in_order = λ i j d le lt. absurd (omega (arith, lt));
}

-- where no node has the number k, the same nodes are open before k + 1
pub still_open : (b : RawBody) (s : Schedule) (k : ℕ) (xs : List Enclosed) → ((n : Node) → IsNode b n → start b s n ≡ k → ⊥) → AreAround b s k xs → AreOpen b s (k + 1) xs
still_open b s k xs none h = record {
  each = λ i x at. (let e = h.each i x at in (e.0, e.1, ((let from = e.2.0 in omega (arith, from)), (let to = e.2.1 in omega (arith, to)))));
  all = λ n is held. elim (eq-or-lt_of_le {n = start b s n} {m = k} (let from = held.0 in omega (arith, from))) [
    | inl e ↦ absurd (none n is e)
    | inr lt ↦ h.all n is (lt, let to = held.1 in omega (arith, to))
  ];
  in_order = h.in_order;
}

module _ (b : RawBody) (s : Schedule) (law : IsSchedule b s) where
  -- of two nodes that begin before the number k and do not end before it, the later ends no later
  ends_fall : (k : ℕ) (xs : List Enclosed) → AreOpen b s k xs → IsPartitionedBy (λ x. ltb k x.end) xs
  ends_fall k xs h i j d le below passes =
      let outer = get_or xs i d in
      let deeper = get_or xs j d in
      let m = h.each i outer (slice_get-get_or xs i d (omega (arith, le, below))) in
      let n = h.each j deeper (slice_get-get_or xs j d below) in
      let rise : outer.start ≤ deeper.start = h.in_order i j d le below in
      let from : deeper.start < k = n.2.0 in
      let to : k ≤ outer.end = m.2.1 in
      let held = nested b s law (end b s m.0) m.0 n.0 m.1.is_node n.1.is_node (omega arith) (omega (arith, rise, m.1.from, n.1.from)) (omega (arith, from, to, m.1.to, n.1.from)) in
      lt-ltb k outer.end (let lt = ltb-true k deeper.end passes in omega (arith, lt, held, m.1.to, n.1.to))

  -- those that end before the number k are left
  pub left : (k count : ℕ) (xs : List Enclosed) → (IsPartitionedBy (λ x. ltb k x.end) xs → IsPartitionPoint (λ x. ltb k x.end ≡ true) (λ x. ltb k x.end ≡ false) xs count)
      → AreOpen b s k xs → AreAround b s k (take count xs)
  left k count xs split h =
      let parted = split (ends_fall k xs h) in
      record {
        each = λ i x at.
            (let entry = entry_of_take count xs i x at in
            let e = h.each i x entry.0 in
            let passes = subst (λ y. ltb k y.end ≡ true) (get_or_from_slice_get xs i x x entry.0) (parted.0 i x (omega arith) entry.1) in
            (e.0, e.1, (e.2.0, ltb-true k x.end passes)));
        all = λ n is around.
            (let from = around.0 in
            let to = around.1 in
            let e = h.all n is (from, omega (arith, to)) in
            let below = slice_get_within xs e.0 e.1 e.2 in
            elim (cases_lt e.0 count) [
              | inl lt ↦ (e.0, e.1, entry_in_take count xs e.0 e.1 e.2 lt, e.3)
              | inr ge ↦
                  (let fails = subst (λ y. ltb k y.end ≡ false) (get_or_from_slice_get xs e.0 e.1 e.1 e.2) (parted.1 e.0 e.1 ge below) in
                  let ended = ltb-false k e.1.end fails in
                  absurd (omega (arith, ended, to, e.3.to)))
            ]);
        in_order = IsNonDecreasingBy-take (λ x. x.start) count xs h.in_order;
      }

  -- the node with the number k is entered
  pub entered : (k : ℕ) (n : Node) (x : Enclosed) (xs : List Enclosed) → IsOf b s n x → start b s n ≡ k → AreAround b s k xs → AreOpen b s (k + 1) (xs ++ x ∷ [])
  entered k n x xs of at h = record {
    each = λ i y entry. elim (entry_of_push xs x i y entry) [
      | inl before ↦ (let e = h.each i y before in (e.0, e.1, ((let from = e.2.0 in omega (arith, from)), (let to = e.2.1 in omega (arith, to)))))
      | inr same ↦ (let grown = law.order n of.is_node in subst (λ z. (m : Node) × IsOf b s m z × IsOpen (k + 1) z.start z.end) same (n, of, (omega (arith, at, of.from), omega (arith, at, grown, of.from, of.to))))
    ];
    all = λ m is held. elim (eq-or-lt_of_le {n = start b s m} {m = k} (let from = held.0 in omega (arith, from))) [
      | inl e ↦ (let same : n ≡ m = law.apart n m of.is_node is (at ∙ sym e) in (length xs, x, entry_last xs x, subst (λ o. IsOf b s o x) same of))
      | inr lt ↦ (let e = h.all m is (lt, (let to = held.1 in omega (arith, to))) in (e.0, e.1, entry_left xs (x ∷ []) e.0 e.1 e.2, e.3))
    ];
    in_order = IsNonDecreasingBy-push (λ y. y.start) xs x h.in_order (λ d some.
        (let last = h.each (length xs - 1) (get_or xs (length xs - 1) d) (slice_get-get_or xs (length xs - 1) d (omega (arith, some))) in
        let from = last.2.0 in omega (arith, from, at, of.from)));
  }

-- ---- the innermost

module _ (b : RawBody) (s : Schedule) (k m count : ℕ) (xs : List Enclosed) (h : AreAround b s k xs)
    (split : IsPartitionedBy (λ x. leb x.start m) xs → IsPartitionPoint (λ x. leb x.start m ≡ true) (λ x. leb x.start m ≡ false) xs count) where
  -- those that begin at the number m or before it come first
  among_first : (n : Node) → IsAroundFrom b s k m n → (i : ℕ) × (x : Enclosed) × (slice_get xs i ≡ Some x) × IsOf b s n x × (i < count)
  among_first n is =
      let e = h.all n is.0 is.1 in
      let below = slice_get_within xs e.0 e.1 e.2 in
      elim (cases_lt e.0 count) [
        | inl lt ↦ (e.0, e.1, e.2, e.3, lt)
        | inr ge ↦
            (let fails = subst (λ y. leb y.start m ≡ false) (get_or_from_slice_get xs e.0 e.1 e.1 e.2) ((split (IsPartitionedBy-leb (λ x. x.start) xs m h.in_order)).1 e.0 e.1 ge below) in
            let later = leb-false e.1.start m fails in
            let from = is.2 in
            absurd (omega (arith, later, from, e.3.from)))
      ]

  pub none_around : count ≡ 0 → IsInnermost b s k m None
  none_around none n is = let e = among_first n is in let lt = e.4 in absurd (omega (arith, lt, none))

  pub innermost : (x : Enclosed) → count ≤ length xs → 0 < count → x ≡ get_or xs (count - 1) x → IsInnermost b s k m (Some x.node)
  innermost x bound some is =
      let entry : slice_get xs (count - 1) ≡ Some x = slice_get-get_or xs (count - 1) x (omega (arith, bound, some)) ∙ ap (λ (y : Enclosed). Some y) (sym is) in
      let e = h.each (count - 1) x entry in
      let passes = subst (λ y. leb y.start m ≡ true) (sym is) ((split (IsPartitionedBy-leb (λ x. x.start) xs m h.in_order)).0 (count - 1) x (omega arith) (omega (arith, some))) in
      let from = leb-true x.start m passes in
      let around : IsAround k (start b s e.0) (end b s e.0) = (let lt = e.2.0 in omega (arith, lt, e.1.from), let to = e.2.1 in omega (arith, to, e.1.to)) in (
        e.0,
        (e.1.is_node, around, omega (arith, from, e.1.from)),
        e.1.at,
        λ o other.
            (let f = among_first o other in
            let rise = earlier (λ y. y.start) xs f.0 (count - 1) f.1 x h.in_order f.2 entry (let lt = f.4 in omega (arith, lt)) in
            omega (arith, rise, e.1.from, f.3.from)),
      )
