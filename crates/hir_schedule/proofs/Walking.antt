-- What holds all along a walk through a graph.
use Rattle.std.proofs.Common.{◌≡◌, ◌≢◌, ◌⊎◌, inl, inr, ℕ, suc, ◌+◌, ◌<◌, ◌≤◌, Bool, true, false, List, length, get_or, replicate, Some, sym, ap, subst, ◌∙◌, arith}
use Rattle.std.specs.Prelude.{slice_set, sum_by, if◌then◌else◌}
use Rattle.std.specs.List.{Contains}
use Rattle.std.proofs.lemmas.List.{length-replicate, get_or-replicate, get_or_past}
use Rattle.std.proofs.lemmas.List.Sums.{sum_by-set, get_or-le-sum_by}
use Rattle.std.proofs.lemmas.Bool.{cases_lt, cases_Bool, false≢true}
use Rattle.hir_schedule.specs.Own.{kids_of, Edge, leads, Visited, is_seen, next_of, unseen, HasRoomFor}

abbrev pub IsSeen : Visited → ℕ → Type 0
IsSeen m n = is_seen m n ≡ true

abbrev pub start_of : Visited → ℕ → ℕ
start_of m n = get_or m.starts n 0

abbrev pub end_of : Visited → ℕ → ℕ
end_of m n = get_or m.ends n 0

abbrev pub depth_of : Visited → ℕ → ℕ
depth_of m n = get_or m.depths n 0

-- the node at a position of the stack
abbrev pub on : Visited → ℕ → ℕ
on m i = get_or m.stack i 0

-- the number after the first k children of n
pub record Reaches (kids : List (List ℕ)) (m : Visited) (n k number : ℕ) : Type 0 where
  pub none : k ≡ 0 → number ≡ start_of m n + 1
  pub last : (j c : ℕ) → suc j ≡ k → Edge kids n j c → (0 < end_of m c) × (end_of m c ≡ number)

-- child k of n, which is c, was entered
pub record Passed (kids : List (List ℕ)) (m : Visited) (n k c : ℕ) : Type 0 where
  pub seen : IsSeen m c
  pub deep : depth_of m c ≡ depth_of m n + 1
  pub reaches : Reaches kids m n k (start_of m c)

pub record Ended (kids : List (List ℕ)) (m : Visited) (n : ℕ) : Type 0 where
  pub whole : next_of m n ≡ length (kids_of kids n)
  pub order : start_of m n < end_of m n
  pub reaches : Reaches kids m n (length (kids_of kids n)) (end_of m n)

-- x was entered as child k of n
pub record Entry (kids : List (List ℕ)) (m : Visited) (x : ℕ) : Type 0 where
  pub parent : ℕ
  pub place : ℕ
  pub seen : IsSeen m parent
  pub edge : Edge kids parent place x
  pub passed : place < next_of m parent

-- what is known of a node that was entered
pub record Goes (kids : List (List ℕ)) (root : ℕ) (m : Visited) (n : ℕ) : Type 0 where
  pub early : start_of m n < m.clock
  pub within : next_of m n ≤ length (kids_of kids n)
  pub passed : (k c : ℕ) → k < next_of m n → Edge kids n k c → Passed kids m n k c
  pub ended : 0 < end_of m n → Ended kids m n
  pub waits : end_of m n ≡ 0 → Contains m.stack n
  pub way : (way : List ℕ) × (leads kids root way ≡ Some n)
  pub entry : (n ≡ root) ⊎ Entry kids m n

-- what is known of the node x at the position i of the stack
pub record Stands (kids : List (List ℕ)) (m : Visited) (i x : ℕ) : Type 0 where
  pub seen : IsSeen m x
  pub waits : end_of m x ≡ 0
  pub deep : depth_of m x ≡ i
  pub link : suc i < length m.stack → (k : ℕ) × (next_of m x ≡ suc k) × Edge kids x k (on m (suc i))
  pub cursor : suc i ≡ length m.stack → Reaches kids m x (next_of m x) m.clock

pub record Walking (kids : List (List ℕ)) (root : ℕ) (m : Visited) : Type 0 where
  pub ready : HasRoomFor (length kids) m
  pub root_seen : IsSeen m root
  pub root_first : start_of m root ≡ 0
  pub root_deep : depth_of m root ≡ 0
  pub apart : (x y : ℕ) → IsSeen m x → IsSeen m y → start_of m x ≡ start_of m y → x ≡ y
  pub fresh : (n : ℕ) → is_seen m n ≡ false → (next_of m n ≡ 0) × (end_of m n ≡ 0)
  pub nodes : (n : ℕ) → IsSeen m n → Goes kids root m n
  pub stands : (i : ℕ) → i < length m.stack → Stands kids m i (on m i)
  pub done : length m.stack ≡ 0 → end_of m root ≡ m.clock
  pub bottom : 0 < length m.stack → on m 0 ≡ root

-- what was said of the nodes that were entered stays
pub record Keeps (old new : Visited) : Type 0 where
  pub seen : (n : ℕ) → IsSeen old n → IsSeen new n
  pub start : (n : ℕ) → IsSeen old n → start_of new n ≡ start_of old n
  pub depth : (n : ℕ) → IsSeen old n → depth_of new n ≡ depth_of old n
  pub ends : (n : ℕ) → 0 < end_of old n → end_of new n ≡ end_of old n
  pub clock : old.clock ≤ new.clock
  pub next : (n : ℕ) → next_of old n ≤ next_of new n

-- ---- lists

pub seen_in : (seen : List Bool) (x : ℕ) → get_or seen x false ≡ true → x < length seen
seen_in seen x p =
    elim (cases_lt x (length seen)) [
      | inl lt ↦ lt
      | inr ge ↦ absurd (false≢true (sym (get_or_past seen x false ge) ∙ p))
    ]

pub blank_at : {X : Type 0} (n x : ℕ) (d : X) → get_or (replicate n d) x d ≡ d
blank_at n x d =
    elim (cases_lt x n) [
      | inl lt ↦ get_or-replicate n x d d lt
      | inr ge ↦ get_or_past (replicate n d) x d (omega (arith, length-replicate n d, ge))
    ]

pub other_seen : (m : Visited) (x c : ℕ) → IsSeen m x → is_seen m c ≡ false → x ≢ c
other_seen m x c p q e = false≢true (sym q ∙ (ap (λ (y : ℕ). is_seen m y) (sym e) ∙ p))

pub fewer_unseen : (seen : List Bool) (c : ℕ) → c < length seen → get_or seen c false ≡ false → unseen (slice_set seen c true) + 1 ≡ unseen seen
fewer_unseen seen c lt was =
    let f : Bool → ℕ = λ (b : Bool). if b then 0 else 1 in
    let e : sum_by f (slice_set seen c true) + f (get_or seen c false) ≡ sum_by f seen + f true = sum_by-set f seen c true false lt in
    let e2 : unseen (slice_set seen c true) + 1 ≡ unseen seen + 0 = rw was at e in
    omega arith

pub none_unseen : (seen : List Bool) (x : ℕ) → unseen seen ≡ 0 → x < length seen → get_or seen x false ≡ true
none_unseen seen x none lt =
    elim (cases_Bool (get_or seen x false)) [
      | inl t ↦ t
      | inr f ↦
          (let g : Bool → ℕ = λ (b : Bool). if b then 0 else 1 in
          let le : g (get_or seen x false) ≤ sum_by g seen = get_or-le-sum_by g seen x false lt in
          let le2 : 1 ≤ unseen seen = rw f at le in
          absurd (omega arith))
    ]

-- ---- what stays

module _ (kids : List (List ℕ)) (root : ℕ) (old new : Visited) (keeps : Keeps old new) where
  pub reaches_kept : (n k number : ℕ) → IsSeen old n → Reaches kids old n k number → Reaches kids new n k number
  reaches_kept n k number seen r = record {
    none = λ z. r.none z ∙ ap (λ (x : ℕ). x + 1) (sym (keeps.start n seen));
    last = λ j c e edge.
        let was : (0 < end_of old c) × (end_of old c ≡ number) = r.last j c e edge in
        let same : end_of new c ≡ end_of old c = keeps.ends c was.0 in
        (omega (arith, was.0, same), same ∙ was.1);
  }

  pub passed_kept : (n k c : ℕ) → IsSeen old n → Passed kids old n k c → Passed kids new n k c
  passed_kept n k c seen p = record {
    seen = keeps.seen c p.seen;
    deep = omega (arith, p.deep, keeps.depth n seen, keeps.depth c p.seen);
    reaches = subst (λ (x : ℕ). Reaches kids new n k x) (sym (keeps.start c p.seen)) (reaches_kept n k (start_of old c) seen p.reaches);
  }

  pub entry_kept : (n : ℕ) → (n ≡ root) ⊎ Entry kids old n → (n ≡ root) ⊎ Entry kids new n
  entry_kept n (inl e) = inl e
  entry_kept n (inr e) = inr (record { parent = e.parent; place = e.place; seen = keeps.seen e.parent e.seen; edge = e.edge; passed = omega (arith, e.passed, keeps.next e.parent) })

  ended_kept : (n : ℕ) → IsSeen old n → next_of new n ≡ next_of old n → end_of new n ≡ end_of old n → Ended kids old n → Ended kids new n
  ended_kept n seen next end e = record {
    whole = next ∙ e.whole;
    order = omega (arith, e.order, end, keeps.start n seen);
    reaches = subst (λ (x : ℕ). Reaches kids new n (length (kids_of kids n)) x) (sym end) (reaches_kept n (length (kids_of kids n)) (end_of old n) seen e.reaches);
  }

  pub goes_kept : (n : ℕ) → IsSeen old n → next_of new n ≡ next_of old n → end_of new n ≡ end_of old n → (Contains old.stack n → Contains new.stack n)
      → Goes kids root old n → Goes kids root new n
  goes_kept n seen next end waits g = record {
    early = omega (arith, g.early, keeps.start n seen, keeps.clock);
    within = omega (arith, g.within, next);
    passed = λ k c lt edge. passed_kept n k c seen (g.passed k c (omega (arith, lt, next)) edge);
    ended = λ h. ended_kept n seen next end (g.ended (omega (arith, h, end)));
    waits = λ h. waits (g.waits (sym end ∙ h));
    way = g.way;
    entry = entry_kept n g.entry;
  }
