-- Marks are taken away from nodes, and with them from the nodes that use these.
use Rattle.std.proofs.Common.{◌≡◌, ◌⊎◌, inl, inr, ℕ, zero, suc, ◌+◌, ◌<◌, Bool, true, false, List, [], ◌∷◌, ◌++◌, length, get_or, fold, Some, refl, sym, ◌∙◌, ap, subst, arith, length-set, get_or-set_same, get_or-set_other}
use Rattle.std.specs.Prelude.{slice_get, slice_set, if◌then◌else◌}
use Rattle.std.proofs.lemmas.Bool.{cases_lt, cases_eq}
use Rattle.std.proofs.lemmas.List.{get_or_past, length_push}
use Rattle.hir_plain.specs.Words.{KidsFit, Edge, kids_of, In, in_first, in_last, IsMarked}
use Rattle.hir_plain.proofs.Words.{marked_inside}
use Rattle.hir_plain.specs.Own.{IsUnmarked, ComesToBad, is_bad, by_child, users_at, AreUsers, Marks, unmarked}

told : (b : Bool) → (b ≡ true) ⊎ (b ≡ false)
told true = inl refl
told false = inr refl

pub marked_or_not : (marks : List Bool) (n : ℕ) → IsMarked marks n ⊎ IsUnmarked marks n
marked_or_not marks n = told (get_or marks n false)

pub in_split : {X : Type 0} (xs ys : List X) (x : X) → In (xs ++ ys) x → In xs x ⊎ In ys x
in_split [] ys x h = inr h
in_split {X} (y ∷ xs) ys x h = elim h.0 as (λ k. slice_get (y ∷ (xs ++ ys)) k ≡ Some x → In (y ∷ xs) x ⊎ In ys x) [
  | zero ↦ λ e. inl (zero, e)
  | suc k ↦ λ e. elim (in_split xs ys x (k, e)) as (λ _. In (y ∷ xs) x ⊎ In ys x) [ inl h ↦ inl (suc h.0, h.1) | inr h ↦ inr h ]
] h.1

pub in_one : {X : Type 0} (x y : X) → In (x ∷ []) y → y ≡ x
in_one x y h = elim h.0 as (λ k. slice_get (x ∷ []) k ≡ Some y → y ≡ x) [ zero ↦ λ e. cc | suc k ↦ λ e. absurd (cc) ] h.1

-- how many nodes are marked
abbrev pub marked_count : List Bool → ℕ
marked_count [] = 0
marked_count (true ∷ bs) = suc (marked_count bs)
marked_count (false ∷ bs) = marked_count bs

one_less : (bs : List Bool) (n : ℕ) → IsMarked bs n → marked_count (slice_set bs n false) + 1 ≡ marked_count bs
one_less [] n h = absurd (cc)
one_less (true ∷ bs) zero h = omega arith
one_less (false ∷ bs) zero h = absurd (cc)
one_less (true ∷ bs) (suc n) h = let rest : marked_count (slice_set bs n false) + 1 ≡ marked_count bs = one_less bs n h in omega arith
one_less (false ∷ bs) (suc n) h = one_less bs n h

-- the nodes ns lost their marks
record Unmarks (m new : Marks) (ns : List ℕ) : Type 0 where
  size : length new.good ≡ length m.good
  less : (n : ℕ) → IsMarked new.good n → IsMarked m.good n
  gone : (n : ℕ) → In ns n → IsUnmarked new.good n
  others : (n : ℕ) → IsMarked m.good n → IsUnmarked new.good n → In ns n
  kept : (n : ℕ) → In m.waiting n → In new.waiting n
  fresh : (n : ℕ) → IsMarked m.good n → IsUnmarked new.good n → In new.waiting n
  only : (n : ℕ) → In new.waiting n → In m.waiting n ⊎ In ns n
  count : marked_count new.good + length new.waiting ≡ marked_count m.good + length m.waiting

pub none_in : {X : Type 0} (x : X) → In [] x → ⊥
none_in x h = absurd (let e = h.1 in cc)

unmarks_none : (m : Marks) → Unmarks m m []
unmarks_none m = record {
  size = refl;
  less = λ n h. h;
  gone = λ n h. absurd (none_in n h);
  others = λ n h k. absurd (cc);
  kept = λ n h. h;
  fresh = λ n h k. absurd (cc);
  only = λ n h. inl h;
  count = refl;
}

unmarks_by : (m : Marks) (n : ℕ) (b : Bool) → get_or m.good n false ≡ b → Unmarks m (if b then record { good = slice_set m.good n false; waiting = m.waiting ++ n ∷ [] } else m) (n ∷ [])
unmarks_by m n false e = record {
  size = refl;
  less = λ k h. h;
  gone = λ k h. ap (λ (j : ℕ). get_or m.good j false) (in_one n k h) ∙ e;
  others = λ k h g. absurd (cc);
  kept = λ k h. h;
  fresh = λ k h g. absurd (cc);
  only = λ k h. inl h;
  count = refl;
}
unmarks_by m n true e =
    let lt : n < length m.good = marked_inside m.good n e in
    record {
      size = length-set m.good n false;
      less = λ k h. elim (cases_eq k n) as (λ _. IsMarked m.good k) [
        | inl same ↦ ap (λ (j : ℕ). get_or m.good j false) same ∙ e
        | inr other ↦ sym (get_or-set_other m.good n k false false other) ∙ h
      ];
      gone = λ k h. ap (λ (j : ℕ). get_or (slice_set m.good n false) j false) (in_one n k h) ∙ get_or-set_same m.good n false false lt;
      others = λ k h g. elim (cases_eq k n) as (λ _. In (n ∷ []) k) [
        | inl same ↦ (zero, ap Some (sym same))
        | inr other ↦ absurd (let is : get_or (slice_set m.good n false) k false ≡ get_or m.good k false = get_or-set_other m.good n k false false other in cc)
      ];
      kept = λ k h. in_first m.waiting (n ∷ []) k h;
      fresh = λ k h g. elim (cases_eq k n) as (λ _. In (m.waiting ++ n ∷ []) k) [
        | inl same ↦ in_last m.waiting (n ∷ []) k (zero, ap Some (sym same))
        | inr other ↦ absurd (let is : get_or (slice_set m.good n false) k false ≡ get_or m.good k false = get_or-set_other m.good n k false false other in cc)
      ];
      only = λ k h. in_split m.waiting (n ∷ []) k h;
      count =
          (let a : marked_count (slice_set m.good n false) + 1 ≡ marked_count m.good = one_less m.good n e in
          let l : length (m.waiting ++ n ∷ []) ≡ length m.waiting + 1 = length_push m.waiting n in omega arith);
    }

unmarks_one : (m : Marks) (n : ℕ) → Unmarks m (unmarked m n) (n ∷ [])
unmarks_one m n = unmarks_by m n (get_or m.good n false) refl

unmarks_then : (m mid new : Marks) (ns os : List ℕ) → Unmarks m mid ns → Unmarks mid new os → Unmarks m new (ns ++ os)
unmarks_then m mid new ns os a b = record {
  size = b.size ∙ a.size;
  less = λ n h. a.less n (b.less n h);
  gone = λ n h. elim (in_split ns os n h) as (λ _. IsUnmarked new.good n) [
    | inl first ↦ elim (marked_or_not new.good n) as (λ _. IsUnmarked new.good n) [
      | inl marked ↦ absurd (let x : IsMarked mid.good n = b.less n marked in let y : IsUnmarked mid.good n = a.gone n first in cc)
      | inr not ↦ not
    ]
    | inr last ↦ b.gone n last
  ];
  others = λ n h g. elim (marked_or_not mid.good n) as (λ _. In (ns ++ os) n) [
    | inl marked ↦ in_last ns os n (b.others n marked g)
    | inr not ↦ in_first ns os n (a.others n h not)
  ];
  kept = λ n h. b.kept n (a.kept n h);
  fresh = λ n h g. elim (marked_or_not mid.good n) as (λ _. In new.waiting n) [
    | inl marked ↦ b.fresh n marked g
    | inr not ↦ b.kept n (a.fresh n h not)
  ];
  only = λ n h. elim (b.only n h) as (λ _. In m.waiting n ⊎ In (ns ++ os) n) [
    | inl before ↦ elim (a.only n before) as (λ _. In m.waiting n ⊎ In (ns ++ os) n) [ inl x ↦ inl x | inr x ↦ inr (in_first ns os n x) ]
    | inr now ↦ inr (in_last ns os n now)
  ];
  count = b.count ∙ a.count;
}

unmarks_all : (ns : List ℕ) (m : Marks) → Unmarks m (fold unmarked m ns) ns
unmarks_all [] m = unmarks_none m
unmarks_all (n ∷ ns) m = unmarks_then m (unmarked m n) (fold unmarked (unmarked m n) ns) (n ∷ []) ns (unmarks_one m n) (unmarks_all ns (unmarked m n))

pub same_size : (ns : List ℕ) (m : Marks) → length (fold unmarked m ns).good ≡ length m.good
same_size ns m = (unmarks_all ns m).size

-- ---- the search

-- what the search keeps: all users of a node without a mark have lost theirs, or it waits
pub record Spreading (kids : List (List ℕ)) (fine : List Bool) (m : Marks) : Type 0 where
  pub size : length m.good ≡ length kids
  pub own : (n : ℕ) → IsMarked m.good n → IsMarked fine n
  pub others : (n : ℕ) → n < length kids → IsUnmarked m.good n → ComesToBad kids fine n
  pub waits : (n : ℕ) → In m.waiting n → (n < length kids) × IsUnmarked m.good n
  pub edges : (n k c : ℕ) → Edge kids n k c → IsMarked m.good n → IsMarked m.good c ⊎ In m.waiting c

pub spreading_begun : (kids : List (List ℕ)) (fine good : List Bool) (waiting : List ℕ) → KidsFit kids → length fine ≡ length kids → good ≡ fine
    → ((n : ℕ) → n < length fine → IsUnmarked fine n → In waiting n) → ((n : ℕ) → In waiting n → (n < length fine) × IsUnmarked fine n) → Spreading kids fine (record { good = good; waiting = waiting })
spreading_begun kids fine good waiting fit size is all only = subst (λ (g : List Bool). Spreading kids fine (record { good = g; waiting = waiting })) (sym is) (record {
  size = size;
  own = λ n h. h;
  others = λ n lt h. is_bad n lt h;
  waits = λ n h. (let w = only n h in let lt : n < length fine = w.0 in (omega arith, w.1));
  edges = λ n k c edge h. elim (marked_or_not fine c) as (λ _. IsMarked fine c ⊎ In waiting c) [
    | inl marked ↦ inl marked
    | inr not ↦ inr (all c (let lt : c < length kids = fit n k c edge in omega arith) not)
  ];
})

-- a node has no children past the last
pub edge_inside : (kids : List (List ℕ)) (n k c : ℕ) → Edge kids n k c → n < length kids
edge_inside kids n k c edge = elim (cases_lt n (length kids)) [
  | inl lt ↦ lt
  | inr ge ↦ absurd (let none : kids_of kids n ≡ [] = get_or_past kids n [] ge in none_in c (k, ap (λ (cs : List ℕ). slice_get cs k) (sym none) ∙ edge))
]

pub users_inside : (kids users : List (List ℕ)) (i node k n : ℕ) → AreUsers kids i users → slice_get (users_at users node) k ≡ Some n → n < length kids
users_inside kids users i node k n are here = let e = are.only node n (k, here) in edge_inside kids n e.0 node e.1

-- the node is taken off those that wait
pub record Taking (kids users : List (List ℕ)) (fine : List Bool) (m : Marks) (rest : List ℕ) (node : ℕ) : Type 0 where
  pub spreading : Spreading kids fine m
  pub right : AreUsers kids (length kids) users
  pub split : m.waiting ≡ rest ++ node ∷ []

module _ (kids users : List (List ℕ)) (fine : List Bool) (m : Marks) (rest : List ℕ) (node : ℕ) (t : Taking kids users fine m rest node) where
  abbrev us : List ℕ
  us = users_at users node

  -- without the node, and then without the marks of its users
  abbrev taken : Marks
  taken = record { good = m.good; waiting = rest }

  abbrev pub after : Marks
  after = fold unmarked taken us

  step : Unmarks taken after us
  step = unmarks_all us taken

  waited : In m.waiting node
  waited = subst (λ (ns : List ℕ). In ns node) (sym t.split) (in_last rest (node ∷ []) node (zero, refl))

  pub node_inside : node < length kids
  node_inside = (t.spreading.waits node waited).0

  before : (n : ℕ) → In rest n → In m.waiting n
  before n h = subst (λ (ns : List ℕ). In ns n) (sym t.split) (in_first rest (node ∷ []) n h)

  user_comes : (n : ℕ) → In us n → ComesToBad kids fine n
  user_comes n h = let e = t.right.only node n h in by_child n e.0 node e.1 (t.spreading.others node node_inside (t.spreading.waits node waited).1)

  user_inside : (n : ℕ) → In us n → n < length kids
  user_inside n h = let e = t.right.only node n h in edge_inside kids n e.0 node e.1

  still_bad : (n : ℕ) → IsUnmarked m.good n → IsUnmarked after.good n
  still_bad n h = elim (marked_or_not after.good n) as (λ _. IsUnmarked after.good n) [
    | inl marked ↦ absurd (let x : IsMarked m.good n = step.less n marked in cc)
    | inr not ↦ not
  ]

  comes : (n : ℕ) → n < length kids → IsUnmarked after.good n → ComesToBad kids fine n
  comes n lt h = elim (marked_or_not m.good n) as (λ _. ComesToBad kids fine n) [
    | inl marked ↦ user_comes n (step.others n marked h)
    | inr not ↦ t.spreading.others n lt not
  ]

  waits_after : (n : ℕ) → In after.waiting n → (n < length kids) × IsUnmarked after.good n
  waits_after n h = elim (step.only n h) as (λ _. (n < length kids) × IsUnmarked after.good n) [
    | inl old ↦ (let w = t.spreading.waits n (before n old) in (w.0, still_bad n w.1))
    | inr new ↦ (user_inside n new, step.gone n new)
  ]

  edge_after : (n k c : ℕ) → Edge kids n k c → IsMarked after.good n → IsMarked after.good c ⊎ In after.waiting c
  edge_after n k c edge marked = elim (t.spreading.edges n k c edge (step.less n marked)) as (λ _. IsMarked after.good c ⊎ In after.waiting c) [
    | inl good ↦ elim (marked_or_not after.good c) as (λ _. IsMarked after.good c ⊎ In after.waiting c) [
      | inl still ↦ inl still
      | inr lost ↦ inr (step.fresh c good lost)
    ]
    | inr waiting ↦ elim (in_split rest (node ∷ []) c (subst (λ (ns : List ℕ). In ns c) t.split waiting)) as (λ _. IsMarked after.good c ⊎ In after.waiting c) [
      | inl old ↦ inr (step.kept c old)
      | inr same ↦ absurd (
          let is : c ≡ node = in_one node c same in
          let user : In us n = t.right.all n k node (edge_inside kids n k c edge) (subst (λ (x : ℕ). Edge kids n k x) is edge) in
          let lost : IsUnmarked after.good n = step.gone n user in cc)
    ]
  ]

  pub spreading_on : Spreading kids fine after
  spreading_on = record {
    size = step.size ∙ t.spreading.size;
    own = λ n h. t.spreading.own n (step.less n h);
    others = comes;
    waits = waits_after;
    edges = edge_after;
  }

  -- each node is taken once
  pub fewer_left : marked_count after.good + length after.waiting < marked_count m.good + length m.waiting
  fewer_left =
      let same : marked_count after.good + length after.waiting ≡ marked_count m.good + length rest = step.count in
      let one : length m.waiting ≡ length rest + 1 = ap length t.split ∙ length_push rest node in
      omega arith
