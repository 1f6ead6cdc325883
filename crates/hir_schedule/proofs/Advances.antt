-- A walk through a graph enters a node.
use Rattle.std.proofs.Common.{◌≡◌, ◌≢◌, ◌⊎◌, inl, inr, ℕ, suc, ◌+◌, ◌-◌, ◌<◌, true, false, List, [], ◌∷◌, length, refl, sym, ap, subst, ◌∙◌, arith}
use Rattle.std.proofs.lemmas.List.{get_or-set_same, get_or-set_other, length-set, length_push, get_or_append_left, get_or_push}
use Rattle.std.proofs.lemmas.List.Elements.{Contains-push, Contains-append_left}
use Rattle.std.proofs.lemmas.Bool.{cases_lt, cases_eq, false≢true}
use Rattle.std.proofs.lemmas.Option.{slice_get_within}
use Rattle.hir_schedule.specs.Own.{kids_of, Edge, Visited, is_seen, next_of, unseen, advanced, HasRoomFor}
use Rattle.hir_schedule.proofs.Walking.{IsSeen, start_of, end_of, depth_of, on, Reaches, Passed, Goes, Stands, Walking, Keeps, other_seen, fewer_unseen, reaches_kept, passed_kept, goes_kept}

-- a walk that enters c from the node n on top, of which it was not entered before
pub record Entering (kids : List (List ℕ)) (root : ℕ) (m : Visited) (n c : ℕ) : Type 0 where
  pub walking : Walking kids root m
  pub inside : n < length kids
  pub child_inside : c < length kids
  pub top : (i : ℕ) → suc i ≡ length m.stack → on m i ≡ n
  pub under_way : 0 < length m.stack
  pub edge : Edge kids n (next_of m n) c
  pub fresh : is_seen m c ≡ false

module _ (kids : List (List ℕ)) (root : ℕ) (m : Visited) (n c : ℕ) (h : Entering kids root m n c) where
  abbrev new : Visited
  new = advanced m n c

  ready : HasRoomFor (length kids) m
  ready = h.walking.ready

  top_place : (i : ℕ) × (suc i ≡ length m.stack)
  top_place = (length m.stack - 1, (let o : 0 < length m.stack = h.under_way in omega arith))

  top_stands : Stands kids m top_place.0 n
  top_stands = subst (λ (x : ℕ). Stands kids m top_place.0 x) (h.top top_place.0 top_place.1) (h.walking.stands top_place.0 (let e = top_place.1 in omega arith))

  top_seen : IsSeen m n
  top_seen = top_stands.seen

  ne_top : c ≢ n
  ne_top e = other_seen m n c top_seen h.fresh (sym e)

  next_top : next_of new n ≡ next_of m n + 1
  next_top = get_or-set_same m.next n (next_of m n + 1) 0 (let r = ready.next in let i = h.inside in omega arith)

  next_other : (x : ℕ) → x ≢ n → next_of new x ≡ next_of m x
  next_other x ne = get_or-set_other m.next n x (next_of m n + 1) 0 ne

  child_seen : IsSeen new c
  child_seen = get_or-set_same m.seen c true false (let r = ready.seen in let i = h.child_inside in omega arith)

  child_start : start_of new c ≡ m.clock
  child_start = get_or-set_same m.starts c m.clock 0 (let r = ready.starts in let i = h.child_inside in omega arith)

  child_depth : depth_of new c ≡ length m.stack
  child_depth = get_or-set_same m.depths c (length m.stack) 0 (let r = ready.depths in let i = h.child_inside in omega arith)

  child_next : next_of new c ≡ 0
  child_next = next_other c ne_top ∙ (h.walking.fresh c h.fresh).0

  child_end : end_of new c ≡ 0
  child_end = (h.walking.fresh c h.fresh).1

  seen_other : (x : ℕ) → x ≢ c → is_seen new x ≡ is_seen m x
  seen_other x ne = get_or-set_other m.seen c x true false ne

  seen_cases : (x : ℕ) → IsSeen new x → (x ≡ c) ⊎ IsSeen m x
  seen_cases x p = elim (cases_eq x c) [ inl e ↦ inl e | inr ne ↦ inr (sym (seen_other x ne) ∙ p) ]

  start_other : (x : ℕ) → IsSeen m x → start_of new x ≡ start_of m x
  start_other x p = get_or-set_other m.starts c x m.clock 0 (other_seen m x c p h.fresh)

  keeps : Keeps m new
  keeps = record {
    seen = λ x p. seen_other x (other_seen m x c p h.fresh) ∙ p;
    start = start_other;
    depth = λ x p. get_or-set_other m.depths c x (length m.stack) 0 (other_seen m x c p h.fresh);
    ends = λ x p. refl;
    clock = omega arith;
    next = λ x. elim (cases_eq x n) [
      | inl e ↦ (let a : next_of new x ≡ next_of m x + 1 = rw e next_top in omega arith)
      | inr ne ↦ (let a : next_of new x ≡ next_of m x = next_other x ne in omega arith)
    ];
  }

  cursor : Reaches kids m n (next_of m n) m.clock
  cursor = top_stands.cursor top_place.1

  top_goes : Goes kids root new n
  top_goes =
      let g : Goes kids root m n = h.walking.nodes n top_seen in
      record {
        early = (let a = g.early in let b = start_other n top_seen in omega arith);
        within = (let a = slice_get_within (kids_of kids n) (next_of m n) c h.edge in omega (arith, next_top));
        passed = λ k d lt edge. elim (cases_eq k (next_of m n)) [
          | inl e ↦ (let at : Edge kids n (next_of m n) d = subst (λ (x : ℕ). Edge kids n x d) e edge in
              let same : c ≡ d = (let a = h.edge in cc) in
              subst (λ (x : ℕ). Passed kids new n k x) same (record {
                seen = child_seen;
                deep = (let a = top_stands.deep in let b = keeps.depth n top_seen in let z = top_place.1 in omega (arith, child_depth));
                reaches = subst (λ (x : ℕ). Reaches kids new n k x) (sym child_start) (subst (λ (x : ℕ). Reaches kids new n x m.clock) (sym e) (reaches_kept kids root m new keeps n (next_of m n) m.clock top_seen cursor));
              }))
          | inr ne ↦ passed_kept kids root m new keeps n k d top_seen (g.passed k d (let a = next_top in omega arith) edge)
        ];
        ended = λ p. absurd (let a = top_stands.waits in omega arith);
        waits = λ p. Contains-append_left m.stack (c ∷ []) n (g.waits top_stands.waits);
        way = g.way;
        entry = elim g.entry [
          | inl e ↦ inl e
          | inr e ↦ inr (record { parent = e.parent; place = e.place; seen = keeps.seen e.parent e.seen; edge = e.edge; passed = (let a = keeps.next e.parent in let b = e.passed in omega arith) })
        ];
      }

  child_goes : Goes kids root new c
  child_goes =
      let g : Goes kids root m n = h.walking.nodes n top_seen in
      record {
        early = omega (arith, child_start);
        within = omega (arith, child_next);
        passed = λ k d lt edge. absurd (omega (arith, child_next));
        ended = λ p. absurd (let a = child_end in omega arith);
        waits = λ p. Contains-push m.stack c;
        way = (next_of m n ∷ g.way.0, rw g.way.1 h.edge);
        entry = inr (record { parent = n; place = next_of m n; seen = keeps.seen n top_seen; edge = h.edge; passed = omega (arith, next_top) });
      }

  seen_goes : (x : ℕ) → IsSeen new x → Goes kids root new x
  seen_goes x p = elim (seen_cases x p) [
    | inl e ↦ subst (λ (y : ℕ). Goes kids root new y) (sym e) child_goes
    | inr q ↦ elim (cases_eq x n) [
      | inl e ↦ subst (λ (y : ℕ). Goes kids root new y) (sym e) top_goes
      | inr ne ↦ goes_kept kids root m new keeps x q (next_other x ne) refl (λ w. Contains-append_left m.stack (c ∷ []) x w) (h.walking.nodes x q)
    ]
  ]

  on_below : (i : ℕ) → i < length m.stack → on new i ≡ on m i
  on_below i lt = get_or_append_left m.stack (c ∷ []) 0 i lt

  on_child : (i : ℕ) → i ≡ length m.stack → on new i ≡ c
  on_child i e = get_or_push m.stack c 0 i (sym e)

  stack_size : length new.stack ≡ length m.stack + 1
  stack_size = length_push m.stack c

  stands_below : (i : ℕ) → i < length m.stack → Stands kids new i (on m i)
  stands_below i lt =
      let s : Stands kids m i (on m i) = h.walking.stands i lt in
      record {
        seen = keeps.seen (on m i) s.seen;
        waits = s.waits;
        deep = keeps.depth (on m i) s.seen ∙ s.deep;
        link = λ lt2. elim (cases_lt (suc i) (length m.stack)) [
          | inl lower ↦ (let l = s.link lower in
              let ne : on m i ≢ n = (λ e. let d : depth_of m (on m i) ≡ depth_of m n = ap (λ (x : ℕ). depth_of m x) e in
              let a = top_stands.deep in let b = s.deep in let z = top_place.1 in omega arith) in
              (l.0, next_other (on m i) ne ∙ l.1, subst (λ (x : ℕ). Edge kids (on m i) l.0 x) (sym (on_below (suc i) lower)) l.2))
          | inr high ↦ (let z : suc i ≡ length m.stack = omega arith in
              let at : on m i ≡ n = h.top i z in
              let more : next_of new (on m i) ≡ suc (next_of m n) = rw at (let a = next_top in omega arith) in
              let edge : Edge kids (on m i) (next_of m n) (on new (suc i)) = rw (at, on_child (suc i) z) h.edge in
              (next_of m n, more, edge))
        ];
        cursor = λ z. absurd (let a = stack_size in omega arith);
      }

  stands_child : (i : ℕ) → i ≡ length m.stack → Stands kids new i c
  stands_child i e = record {
    seen = child_seen;
    waits = child_end;
    deep = child_depth ∙ sym e;
    link = λ lt. absurd (let a = stack_size in omega arith);
    cursor = λ z. record {
      none = λ y. (let a = child_start in omega arith);
      last = λ j d y edge. absurd (let a = child_next in omega arith);
    };
  }

  stands_all : (i : ℕ) → i < length new.stack → Stands kids new i (on new i)
  stands_all i lt = elim (cases_lt i (length m.stack)) [
    | inl lower ↦ subst (λ (x : ℕ). Stands kids new i x) (sym (on_below i lower)) (stands_below i lower)
    | inr high ↦ (let z : i ≡ length m.stack = (let a = stack_size in omega arith) in subst (λ (x : ℕ). Stands kids new i x) (sym (on_child i z)) (stands_child i z))
  ]

  start_differs : (x : ℕ) → IsSeen m x → start_of new x ≡ start_of new c → ⊥
  start_differs x p e = (let a = start_other x p in let b = child_start in let g = (h.walking.nodes x p).early in omega arith)

  apart : (x y : ℕ) → IsSeen new x → IsSeen new y → start_of new x ≡ start_of new y → x ≡ y
  apart x y p q e = elim (seen_cases x p) [
    | inl xc ↦ elim (seen_cases y q) [
      | inl yc ↦ xc ∙ sym yc
      | inr ys ↦ absurd (start_differs y ys (sym e ∙ ap (λ (z : ℕ). start_of new z) xc))
    ]
    | inr xs ↦ elim (seen_cases y q) [
      | inl yc ↦ absurd (start_differs x xs (e ∙ ap (λ (z : ℕ). start_of new z) yc))
      | inr ys ↦ h.walking.apart x y xs ys (sym (start_other x xs) ∙ (e ∙ start_other y ys))
    ]
  ]

  pub fewer : unseen new.seen + 1 ≡ unseen m.seen
  fewer = fewer_unseen m.seen c (let r = ready.seen in let i = h.child_inside in omega arith) h.fresh

  pub walking_on : Walking kids root new
  walking_on = record {
    ready = record {
      seen = length-set m.seen c true ∙ ready.seen;
      next = length-set m.next n (next_of m n + 1) ∙ ready.next;
      starts = length-set m.starts c m.clock ∙ ready.starts;
      ends = ready.ends;
      depths = length-set m.depths c (length m.stack) ∙ ready.depths;
      count = (let a = fewer in let b = ready.count in omega arith);
    };
    root_seen = keeps.seen root h.walking.root_seen;
    root_first = start_other root h.walking.root_seen ∙ h.walking.root_first;
    root_deep = keeps.depth root h.walking.root_seen ∙ h.walking.root_deep;
    apart = apart;
    fresh = λ x p. elim (cases_eq x c) [
      | inl e ↦ absurd (false≢true (sym p ∙ subst (λ (y : ℕ). is_seen new y ≡ true) (sym e) child_seen))
      | inr ne ↦
          (let was : is_seen m x ≡ false = sym (seen_other x ne) ∙ p in
          let f = h.walking.fresh x was in
          let xn : x ≢ n = (λ e. false≢true (sym was ∙ subst (λ (y : ℕ). is_seen m y ≡ true) (sym e) top_seen)) in
          (next_other x xn ∙ f.0, f.1))
    ];
    nodes = seen_goes;
    stands = stands_all;
    done = λ z. absurd (let a = stack_size in omega arith);
    bottom = λ z. on_below 0 h.under_way ∙ h.walking.bottom h.under_way;
  }
