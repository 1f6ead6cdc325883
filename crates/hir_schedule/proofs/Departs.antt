-- A walk through a graph leaves a node.
use Rattle.std.proofs.Common.{◌≡◌, ◌≢◌, inl, inr, ℕ, suc, ◌+◌, ◌-◌, ◌<◌, ◌≤◌, true, List, length, refl, sym, ap, subst, ◌∙◌, arith}
use Rattle.std.specs.List.{Contains}
use Rattle.std.proofs.lemmas.List.{get_or-set_same, get_or-set_other, length-set, length-take-le, get_or-take, get_or_default}
use Rattle.std.proofs.lemmas.Bool.{cases_lt, cases_eq}
use Rattle.hir_schedule.specs.Own.{kids_of, Edge, Visited, is_seen, next_of, departed, HasRoomFor}
use Rattle.hir_schedule.proofs.Walking.{IsSeen, start_of, end_of, depth_of, on, Reaches, Goes, Stands, Walking, Keeps, reaches_kept, passed_kept, entry_kept, goes_kept}

-- a walk that leaves the node n on top, all children of which were entered
pub record Leaving (kids : List (List ℕ)) (root : ℕ) (m : Visited) (n : ℕ) : Type 0 where
  pub walking : Walking kids root m
  pub inside : n < length kids
  pub top : (i : ℕ) → suc i ≡ length m.stack → on m i ≡ n
  pub under_way : 0 < length m.stack
  pub all : length (kids_of kids n) ≤ next_of m n

module _ (kids : List (List ℕ)) (root : ℕ) (m : Visited) (n : ℕ) (h : Leaving kids root m n) where
  abbrev new : Visited
  new = departed m n

  ready : HasRoomFor (length kids) m
  ready = h.walking.ready

  top_place : (i : ℕ) × (suc i ≡ length m.stack)
  top_place = (length m.stack - 1, (let o : 0 < length m.stack = h.under_way in omega arith))

  top_stands : Stands kids m top_place.0 n
  top_stands = subst (λ (x : ℕ). Stands kids m top_place.0 x) (h.top top_place.0 top_place.1) (h.walking.stands top_place.0 (let e = top_place.1 in omega arith))

  top_seen : IsSeen m n
  top_seen = top_stands.seen

  top_early : start_of m n < m.clock
  top_early = (h.walking.nodes n top_seen).early

  end_top : end_of new n ≡ m.clock
  end_top = get_or-set_same m.ends n m.clock 0 (let r = ready.ends in let i = h.inside in omega arith)

  end_other : (x : ℕ) → x ≢ n → end_of new x ≡ end_of m x
  end_other x ne = get_or-set_other m.ends n x m.clock 0 ne

  keeps : Keeps m new
  keeps = record {
    seen = λ x p. p;
    start = λ x p. refl;
    depth = λ x p. refl;
    ends = λ x p. end_other x (λ e. let z : end_of m x ≡ 0 = ap (λ (y : ℕ). end_of m y) e ∙ top_stands.waits in omega arith);
    clock = omega arith;
    next = λ x. omega arith;
  }

  whole : next_of m n ≡ length (kids_of kids n)
  whole = (let a = h.all in let b = (h.walking.nodes n top_seen).within in omega arith)

  stack_size : length new.stack + 1 ≡ length m.stack
  stack_size = (let a = length-take-le (length m.stack - 1) m.stack (omega arith) in let o = h.under_way in omega arith)

  on_below : (i : ℕ) → i < length new.stack → on new i ≡ on m i
  on_below i lt = get_or-take (length m.stack - 1) m.stack i 0 (let a = stack_size in omega arith)

  not_top : (i : ℕ) → i < length new.stack → on m i ≢ n
  not_top i lt e =
      let s : Stands kids m i (on m i) = h.walking.stands i (let a = stack_size in omega arith) in
      let d : depth_of m (on m i) ≡ depth_of m n = ap (λ (x : ℕ). depth_of m x) e in
      let a = s.deep in
      let b = top_stands.deep in
      let c = stack_size in
      let z = top_place.1 in
      omega arith

  still_waits : (x : ℕ) → x ≢ n → Contains m.stack x → Contains new.stack x
  still_waits x ne w =
      elim (cases_lt w.0 (length new.stack)) [
        | inl lt ↦ (w.0, lt, get_or-take (length m.stack - 1) m.stack w.0 x (let a = stack_size in omega arith) ∙ w.2)
        | inr ge ↦
            (let z : suc w.0 ≡ length m.stack = (let a = stack_size in let b = w.1 in omega arith) in
            let at : on m w.0 ≡ n = h.top w.0 z in
            let same : on m w.0 ≡ x = get_or_default m.stack w.0 0 x w.1 ∙ w.2 in
            absurd (ne (sym same ∙ at)))
      ]

  top_goes : Goes kids root new n
  top_goes =
      let g = h.walking.nodes n top_seen in
      record {
        early = g.early;
        within = g.within;
        passed = λ k c lt edge. passed_kept kids root m new keeps n k c top_seen (g.passed k c lt edge);
        ended = λ p. record {
          whole = whole;
          order = (let a = top_early in let b = end_top in omega arith);
          reaches = subst (λ (x : ℕ). Reaches kids new n (length (kids_of kids n)) x) (sym end_top)
              (subst (λ (x : ℕ). Reaches kids new n x m.clock) whole (reaches_kept kids root m new keeps n (next_of m n) m.clock top_seen (top_stands.cursor top_place.1)));
        };
        waits = λ p. absurd (let a = top_early in let b = end_top in omega arith);
        way = g.way;
        entry = entry_kept kids root m new keeps n g.entry;
      }

  seen_goes : (x : ℕ) → IsSeen new x → Goes kids root new x
  seen_goes x p = elim (cases_eq x n) [
    | inl e ↦ subst (λ (y : ℕ). Goes kids root new y) (sym e) top_goes
    | inr ne ↦ goes_kept kids root m new keeps x p refl (end_other x ne) (still_waits x ne) (h.walking.nodes x p)
  ]

  stands_below : (i : ℕ) → i < length new.stack → Stands kids new i (on m i)
  stands_below i lt =
      let s : Stands kids m i (on m i) = h.walking.stands i (let a = stack_size in omega arith) in
      let higher : suc i < length m.stack = (let a = stack_size in omega arith) in
      let l = s.link higher in
      record {
        seen = s.seen;
        waits = end_other (on m i) (not_top i lt) ∙ s.waits;
        deep = s.deep;
        link = λ lt2. (l.0, l.1, subst (λ (x : ℕ). Edge kids (on m i) l.0 x) (sym (on_below (suc i) lt2)) l.2);
        cursor = λ z.
            let at : on m (suc i) ≡ n = h.top (suc i) (let a = stack_size in omega arith) in
            let edge : Edge kids (on m i) l.0 n = subst (λ (x : ℕ). Edge kids (on m i) l.0 x) at l.2 in
            record {
              none = λ y. absurd (let a = l.1 in omega arith);
              last = λ j c y step.
                  let same : j ≡ l.0 = (let a = l.1 in omega arith) in
                  let step2 : Edge kids (on m i) l.0 c = subst (λ (x : ℕ). Edge kids (on m i) x c) same step in
                  let cn : c ≡ n = cc in
                  subst (λ (x : ℕ). (0 < end_of new x) × (end_of new x ≡ m.clock)) (sym cn) ((let a = end_top in let b = top_early in omega arith), end_top);
            };
      }

  pub walking_back : Walking kids root new
  walking_back = record {
    ready = record { seen = ready.seen; next = ready.next; starts = ready.starts; ends = length-set m.ends n m.clock ∙ ready.ends; depths = ready.depths; count = ready.count };
    root_seen = h.walking.root_seen;
    root_first = h.walking.root_first;
    root_deep = h.walking.root_deep;
    apart = h.walking.apart;
    fresh = λ x p.
        let f = h.walking.fresh x p in
        let ne : x ≢ n = (λ e. let q : is_seen m x ≡ true = subst (λ (y : ℕ). is_seen m y ≡ true) (sym e) top_seen in cc) in
        (f.0, end_other x ne ∙ f.1);
    nodes = seen_goes;
    stands = λ i lt. subst (λ (x : ℕ). Stands kids new i x) (sym (on_below i lt)) (stands_below i lt);
    done = λ z.
        let at : on m 0 ≡ n = h.top 0 (let a = stack_size in omega arith) in
        let same : n ≡ root = sym at ∙ h.walking.bottom h.under_way in
        subst (λ (x : ℕ). end_of new x ≡ m.clock) same end_top;
    bottom = λ z. on_below 0 z ∙ h.walking.bottom h.under_way;
  }
