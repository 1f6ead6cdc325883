-- A walk through a graph begins, and what it tells at its end.
use Rattle.std.proofs.Common.{◌≡◌, ◌⊎◌, inl, inr, ℕ, suc, ◌+◌, ◌*◌, ◌<◌, Bool, true, false, List, [], ◌∷◌, length, get_or, replicate, Some, refl, sym, ap, subst, ◌∙◌, arith}
use Rattle.std.specs.Prelude.{slice_get, if◌then◌else◌}
use Rattle.std.proofs.lemmas.List.{get_or-set_same, get_or-set_other, length-set, length-replicate}
use Rattle.std.proofs.lemmas.List.Elements.{Contains-push}
use Rattle.std.proofs.lemmas.List.Folds.{sum_by-replicate}
use Rattle.std.proofs.lemmas.Bool.{cases_lt, cases_eq, false≢true}
use Rattle.std.proofs.lemmas.Option.{slice_get_within, option_and_then_some}
use Rattle.hir_schedule.specs.Words.{Schedule}
use Rattle.hir_schedule.specs.Own.{kids_of, Edge, leads, OneWay, IsTreeGraph, IsNumbering, Follow, number_after, start_at, end_at, Visited, next_of, unseen, blank, entered, MeetsAgain}
use Rattle.hir_schedule.proofs.Walking.{IsSeen, start_of, end_of, depth_of, on, Passed, Ended, Entry, Goes, Stands, Walking, seen_in, blank_at, fewer_unseen, none_unseen}

module _ (kids : List (List ℕ)) (root : ℕ) (inside : root < length kids) where
  abbrev begun : Visited
  begun = entered (blank (length kids)) root

  begun_seen : IsSeen begun root
  begun_seen = get_or-set_same (replicate (length kids) false) root true false (omega (arith, length-replicate (length kids) false))

  only_root : (x : ℕ) → IsSeen begun x → x ≡ root
  only_root x p = elim (cases_eq x root) [
    | inl e ↦ e
    | inr ne ↦ absurd (false≢true (sym (blank_at (length kids) x false) ∙ (sym (get_or-set_other (replicate (length kids) false) root x true false ne) ∙ p)))
  ]

  begun_start : start_of begun root ≡ 0
  begun_start = get_or-set_same (replicate (length kids) 0) root 0 0 (omega (arith, length-replicate {A = ℕ} (length kids) 0))

  begun_depth : depth_of begun root ≡ 0
  begun_depth = get_or-set_same (replicate (length kids) 0) root 0 0 (omega (arith, length-replicate {A = ℕ} (length kids) 0))

  begun_next : (x : ℕ) → next_of begun x ≡ 0
  begun_next x = blank_at (length kids) x 0

  begun_end : (x : ℕ) → end_of begun x ≡ 0
  begun_end x = blank_at (length kids) x 0

  root_goes : Goes kids root begun root
  root_goes = record {
    early = (let a = begun_start in omega arith);
    within = (let a = begun_next root in omega arith);
    passed = λ k c lt edge. absurd (let a = begun_next root in omega arith);
    ended = λ p. absurd (let a = begun_end root in omega arith);
    waits = λ p. Contains-push [] root;
    way = ([], refl);
    entry = inl refl;
  }

  root_stands : Stands kids begun 0 root
  root_stands = record {
    seen = begun_seen;
    waits = begun_end root;
    deep = begun_depth;
    link = λ lt. absurd (let a : 1 < 1 = lt in omega arith);
    cursor = λ z. record {
      none = λ y. (let a = begun_start in omega arith);
      last = λ j c y edge. absurd (let a = begun_next root in omega arith);
    };
  }

  pub walking_begun : Walking kids root begun
  walking_begun =
      let size : length (replicate (length kids) false) ≡ length kids = length-replicate (length kids) false in
      let zeros : length (replicate {A = ℕ} (length kids) 0) ≡ length kids = length-replicate {A = ℕ} (length kids) 0 in
      let fewer : unseen begun.seen + 1 ≡ unseen (replicate (length kids) false) =
      fewer_unseen (replicate (length kids) false) root (omega arith) (blank_at (length kids) root false) in
      let f : Bool → ℕ = λ (b : Bool). if b then 0 else 1 in
      let all : unseen (replicate (length kids) false) ≡ length kids * 1 = sum_by-replicate f (length kids) false in
      record {
        ready = record {
          seen = length-set (replicate (length kids) false) root true ∙ size;
          next = zeros;
          starts = length-set (replicate (length kids) 0) root 0 ∙ zeros;
          ends = zeros;
          depths = length-set (replicate (length kids) 0) root 0 ∙ zeros;
          count = omega arith;
        };
        root_seen = begun_seen;
        root_first = begun_start;
        root_deep = begun_depth;
        apart = λ x y p q e. only_root x p ∙ sym (only_root y q);
        fresh = λ x p. (begun_next x, begun_end x);
        nodes = λ x p. subst (λ (y : ℕ). Goes kids root begun y) (sym (only_root x p)) root_goes;
        stands = λ i lt.
            let z : 0 ≡ i = (let lt2 : i < 1 = lt in omega arith) in
            subst (λ (y : ℕ). Stands kids begun y (on begun y)) z root_stands;
        done = λ z. absurd (let a : 1 ≡ 0 = z in omega arith);
        bottom = λ z. refl;
      }

-- ---- where it ends without numbers

module _ (kids : List (List ℕ)) (root : ℕ) (m : Visited) (w : Walking kids root m) where
  step_from : (n k c : ℕ) (way : List ℕ) → leads kids root way ≡ Some n → Edge kids n k c → leads kids root (k ∷ way) ≡ Some c
  step_from n k c way there edge = rw there edge

  two_entries : (n k c : ℕ) → IsSeen m n → Edge kids n k c → OneWay kids root c → (c ≡ root) ⊎ Entry kids m c → k < next_of m n
  two_entries n k c seen edge one (inl e) =
      let way = (w.nodes n seen).way in
      let top : leads kids root [] ≡ Some c = ap (λ (x : ℕ). Some x) (sym e) in
      let both : k ∷ way.0 ≡ [] = one.only (k ∷ way.0) (step_from n k c way.0 way.1 edge) ∙ sym (one.only [] top) in
      absurd (cc)
  two_entries n k c seen edge one (inr e) =
      let way = (w.nodes n seen).way in
      let above = (w.nodes e.parent e.seen).way in
      let both : k ∷ way.0 ≡ e.place ∷ above.0 =
      one.only (k ∷ way.0) (step_from n k c way.0 way.1 edge) ∙ sym (one.only (e.place ∷ above.0) (step_from e.parent e.place c above.0 above.1 e.edge)) in
      let place : e.place ≡ k = cc in
      let ways : way.0 ≡ above.0 = cc in
      let ends : Some n ≡ Some e.parent = sym way.1 ∙ (ap (λ (x : List ℕ). leads kids root x) ways ∙ above.1) in
      let parent : e.parent ≡ n = cc in
      subst (λ (x : ℕ). k < next_of m x) parent (subst (λ (x : ℕ). x < next_of m e.parent) place e.passed)

  -- a node that is come to again has two ways
  pub no_tree_again : (n : ℕ) → IsSeen m n → MeetsAgain kids m n → IsTreeGraph kids root → ⊥
  no_tree_again n seen again tree =
      let c_in : again.child < length kids = (let lt = seen_in m.seen again.child again.seen in let r = w.ready.seen in omega arith) in
      let lt = two_entries n (next_of m n) again.child seen again.edge (tree.each again.child c_in) (w.nodes again.child again.seen).entry in
      omega arith

  all_ended : length m.stack ≡ 0 → (n : ℕ) → IsSeen m n → Ended kids m n
  all_ended empty n seen =
      let g = w.nodes n seen in
      elim (cases_lt 0 (end_of m n)) [
        | inl lt ↦ g.ended lt
        | inr ge ↦ (let at = g.waits (omega arith) in absurd (let lt = at.1 in omega arith))
      ]

  way_seen : length m.stack ≡ 0 → (way : List ℕ) (x : ℕ) → leads kids root way ≡ Some x → IsSeen m x
  way_seen empty [] x p = let q : root ≡ x = cc in subst (λ (y : ℕ). IsSeen m y) q w.root_seen
  way_seen empty (k ∷ way) x p =
      option_and_then_some (λ n. slice_get (kids_of kids n) k) (leads kids root way) x p (λ n there edge.
      let seen = way_seen empty way n there in
      let e = all_ended empty n seen in
      let lt = slice_get_within (kids_of kids n) k x edge in
      ((w.nodes n seen).passed k x (let a = e.whole in omega arith) edge).seen)

  seen_all : ((x : ℕ) → x < length kids → IsSeen m x) → (ys : List Bool) → ((x : ℕ) → x < length ys → get_or ys x false ≡ true) → unseen ys ≡ 0
  seen_all all [] h = refl
  seen_all all (y ∷ ys) h =
      let rest : unseen ys ≡ 0 = seen_all all ys (λ x lt. h (suc x) (omega arith)) in
      let here : y ≡ true = h 0 (omega arith) in
      rw here rest

  -- in a tree each node is entered
  pub tree_counted : length m.stack ≡ 0 → IsTreeGraph kids root → m.clock ≡ length kids
  tree_counted empty tree =
      let all : (x : ℕ) → x < length kids → IsSeen m x = (λ x lt. let one = tree.each x lt in way_seen empty one.way x one.there) in
      let none : unseen m.seen ≡ 0 = seen_all all m.seen (λ x lt. all x (let r = w.ready.seen in omega arith)) in
      let count = w.ready.count in
      omega arith

-- ---- where it ends with numbers

follow_all : (s : Schedule) (from : ℕ) (cs : List ℕ) → ((c : ℕ) → slice_get cs 0 ≡ Some c → start_at s c ≡ from)
    → ((j c d : ℕ) → slice_get cs j ≡ Some c → slice_get cs (suc j) ≡ Some d → end_at s c ≡ start_at s d) → Follow s from cs
follow_all s from [] first next = tt
follow_all s from (c ∷ cs) first next = (first c refl, follow_all s (end_at s c) cs (λ d e. sym (next 0 c d refl e)) (λ j d e p q. next (suc j) d e p q))

after_all : (s : Schedule) (from to : ℕ) (cs : List ℕ) → (length cs ≡ 0 → to ≡ from)
    → ((j c : ℕ) → suc j ≡ length cs → slice_get cs j ≡ Some c → end_at s c ≡ to) → number_after s from cs ≡ to
after_all s from to [] none last = sym (none refl)
after_all s from to (c ∷ cs) none last =
    after_all s (end_at s c) to cs (λ z. sym (last 0 c (omega arith) refl)) (λ j d e p. last (suc j) d (omega arith) p)

module _ (kids : List (List ℕ)) (root : ℕ) (m : Visited) (w : Walking kids root m) (empty : length m.stack ≡ 0) (all : m.clock ≡ length kids) (s : Schedule)
    (starts : s.starts ≡ m.starts) (ends : s.ends ≡ m.ends) (depths : s.depths ≡ m.depths) where
  start_is : (n : ℕ) → start_at s n ≡ start_of m n
  start_is n = ap (λ (xs : List ℕ). get_or xs n 0) starts

  end_is : (n : ℕ) → end_at s n ≡ end_of m n
  end_is n = ap (λ (xs : List ℕ). get_or xs n 0) ends

  depth_is : (n : ℕ) → get_or s.depths n 0 ≡ depth_of m n
  depth_is n = ap (λ (xs : List ℕ). get_or xs n 0) depths

  seen : (n : ℕ) → n < length kids → IsSeen m n
  seen n lt = none_unseen m.seen n (let c = w.ready.count in omega arith) (let r = w.ready.seen in omega arith)

  ended : (n : ℕ) → n < length kids → Ended kids m n
  ended n lt = all_ended kids root m w empty n (seen n lt)

  passed : (n k c : ℕ) → n < length kids → Edge kids n k c → Passed kids m n k c
  passed n k c lt edge =
      let e = ended n lt in
      let in_list = slice_get_within (kids_of kids n) k c edge in
      (w.nodes n (seen n lt)).passed k c (let a = e.whole in omega arith) edge

  follows : (n : ℕ) → n < length kids → Follow s (start_at s n + 1) (kids_of kids n)
  follows n lt =
      follow_all s (start_at s n + 1) (kids_of kids n)
      (λ c edge. let a = (passed n 0 c lt edge).reaches.none refl in let b = start_is n in let d = start_is c in omega arith)
      (λ j c d edge next. let a = (passed n (suc j) d lt next).reaches.last j c refl edge in let e = a.1 in let b = end_is c in let f = start_is d in omega arith)

  closes : (n : ℕ) → n < length kids → number_after s (start_at s n + 1) (kids_of kids n) ≡ end_at s n
  closes n lt =
      after_all s (start_at s n + 1) (end_at s n) (kids_of kids n)
      (λ z. let a = (ended n lt).reaches.none z in let b = start_is n in let d = end_is n in omega arith)
      (λ j c z edge. let a = (ended n lt).reaches.last j c z edge in let e = a.1 in let b = end_is n in let d = end_is c in omega arith)

  pub numbering : IsNumbering kids root s
  numbering = record {
    starts_size = ap length starts ∙ w.ready.starts;
    ends_size = ap length ends ∙ w.ready.ends;
    depths_size = ap length depths ∙ w.ready.depths;
    first = start_is root ∙ w.root_first;
    fits = follows;
    ends = closes;
    order = λ n lt. (let a = (ended n lt).order in let b = start_is n in let d = end_is n in omega arith);
    reached = λ n lt. (let a = (w.nodes n (seen n lt)).early in let b = w.done empty in let c = start_is n in let d = end_is root in omega arith);
    apart = λ n k n_in k_in e. w.apart n k (seen n n_in) (seen k k_in) (sym (start_is n) ∙ (e ∙ start_is k));
    top = depth_is root ∙ w.root_deep;
    below = λ n k c lt edge. depth_is c ∙ ((passed n k c lt edge).deep ∙ ap (λ (x : ℕ). x + 1) (sym (depth_is n)));
  }
