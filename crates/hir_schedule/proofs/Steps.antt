-- One step of a walk through a graph.
use Rattle.std.proofs.Common.{◌≡◌, ◌⊎◌, inl, inr, ℕ, zero, suc, ◌+◌, ◌-◌, ◌*◌, ◌<◌, length, Some, None, sym, ap, subst, arith, List, [], ◌∷◌}
use Rattle.std.specs.Prelude.{slice_get}
use Rattle.std.proofs.lemmas.Bool.{cases_lt}
use Rattle.std.proofs.lemmas.List.{length_push, length-take-le}
use Rattle.std.proofs.lemmas.Option.{slice_get_within, get_or_from_slice_get}
use Rattle.hir_schedule.specs.Own.{KidsFit, Visited, next_of, unseen, Advances, Departs, advanced, departed}
use Rattle.hir_schedule.proofs.Walking.{IsSeen, on, Walking, seen_in}
use Rattle.hir_schedule.proofs.Advances.{Entering, walking_on, fewer}
use Rattle.hir_schedule.proofs.Departs.{Leaving, walking_back}

-- the node n is on top
pub record Top (kids : List (List ℕ)) (root : ℕ) (m : Visited) (n : ℕ) : Type 0 where
  pub walking : Walking kids root m
  pub read : slice_get m.stack (length m.stack - 1) ≡ Some n

module _ (kids : List (List ℕ)) (root : ℕ) (m : Visited) (n : ℕ) (t : Top kids root m n) where
  under_way : 0 < length m.stack
  under_way = let lt = slice_get_within m.stack (length m.stack - 1) n t.read in omega arith

  is_top : (i : ℕ) → suc i ≡ length m.stack → on m i ≡ n
  is_top i e =
      let z : length m.stack - 1 ≡ i = omega arith in
      subst (λ (x : ℕ). on m x ≡ n) z (get_or_from_slice_get m.stack (length m.stack - 1) n 0 t.read)

  pub top_seen : IsSeen m n
  top_seen =
      let u = under_way in
      subst (λ (x : ℕ). IsSeen m x) (is_top (length m.stack - 1) (omega arith)) (t.walking.stands (length m.stack - 1) (omega arith)).seen

  pub top_inside : n < length kids
  top_inside = let lt = seen_in m.seen n top_seen in let r = t.walking.ready.seen in omega arith

  entering : KidsFit kids → (new : Visited) (a : Advances kids m new n) → Entering kids root m n a.child
  entering fit new a = record {
    walking = t.walking;
    inside = top_inside;
    child_inside = fit n (next_of m n) a.child a.edge;
    top = is_top;
    under_way = under_way;
    edge = a.edge;
    fresh = a.fresh;
  }

  leaving : (new : Visited) → Departs kids m new n → Leaving kids root m n
  leaving new d = record { walking = t.walking; inside = top_inside; top = is_top; under_way = under_way; all = d.all }

  pub walking_step : KidsFit kids → (new : Visited) → Advances kids m new n ⊎ Departs kids m new n → Walking kids root new
  walking_step fit new (inl a) = subst (λ (x : Visited). Walking kids root x) (sym a.after) (walking_on kids root m n a.child (entering fit new a))
  walking_step fit new (inr d) = subst (λ (x : Visited). Walking kids root x) (sym d.after) (walking_back kids root m n (leaving new d))

  abbrev left_of : Visited → ℕ
  left_of x = 2 * unseen x.seen + length x.stack

  pub less_left : KidsFit kids → (new : Visited) → Advances kids m new n ⊎ Departs kids m new n → left_of new < left_of m
  less_left fit new (inl a) =
      let same : left_of new ≡ left_of (advanced m n a.child) = ap left_of a.after in
      let f = fewer kids root m n a.child (entering fit new a) in
      let l = length_push m.stack a.child in
      omega arith
  less_left fit new (inr d) =
      let same : left_of new ≡ left_of (departed m n) = ap left_of d.after in
      let u = under_way in
      let l = length-take-le (length m.stack - 1) m.stack (omega arith) in
      omega arith

none_past : {X : Type 0} (xs : List X) (i : ℕ) → i < length xs → slice_get xs i ≡ None → ⊥
none_past [] i lt e = absurd (omega arith)
none_past (x ∷ xs) zero lt e = absurd (cc)
none_past (x ∷ xs) (suc i) lt e = none_past xs i (omega arith) e

-- nothing is on top of an empty stack
pub empty_from_top : (xs : List ℕ) → slice_get xs (length xs - 1) ≡ None → length xs ≡ 0
empty_from_top xs e =
    elim (cases_lt 0 (length xs)) [
      | inl lt ↦ absurd (none_past xs (length xs - 1) (omega arith) e)
      | inr ge ↦ omega arith
    ]
