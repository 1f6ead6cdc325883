-- The users of each node of a graph, one edge after another, and the nodes without a mark.
use Rattle.std.proofs.Common.{◌≡◌, ◌≢◌, ◌⊎◌, inl, inr, ℕ, zero, ◌+◌, ◌<◌, Bool, false, List, [], ◌∷◌, ◌++◌, length, get_or, take, Some, refl, sym, ◌∙◌, ap, subst, arith, length-set, get_or-set_same, get_or-set_other}
use Rattle.std.specs.Prelude.{slice_set}
use Rattle.std.proofs.lemmas.Bool.{cases_eq}
use Rattle.std.proofs.lemmas.List.{take_more}
use Rattle.std.proofs.Math.Nat.{eq-or-lt_of_le}
use Rattle.hir_plain.specs.Words.{Edge, kids_of, In, in_first, in_last, IsMarked}
use Rattle.hir_plain.specs.Own.{IsUnmarked, users_at, AreUsers, AddsUser}
use Rattle.hir_plain.proofs.Spreading.{in_split, in_one}

-- ---- one more user of one node

module _ (mid new : List (List ℕ)) (c n : ℕ) (lt : c < length mid) (is : new ≡ slice_set mid c (users_at mid c ++ n ∷ [])) where
  size_same : length new ≡ length mid
  size_same = ap length is ∙ length-set mid c (users_at mid c ++ n ∷ [])

  at_node : users_at new c ≡ users_at mid c ++ n ∷ []
  at_node = ap (λ (us : List (List ℕ)). users_at us c) is ∙ get_or-set_same mid c (users_at mid c ++ n ∷ []) [] lt

  at_other : (d : ℕ) → d ≢ c → users_at new d ≡ users_at mid d
  at_other d other = ap (λ (us : List (List ℕ)). users_at us d) is ∙ get_or-set_other mid c d (users_at mid c ++ n ∷ []) [] other

  user_kept : (d m : ℕ) → In (users_at mid d) m → In (users_at new d) m
  user_kept d m h = elim (cases_eq d c) as (λ _. In (users_at new d) m) [
    | inl same ↦ subst (λ (x : ℕ). In (users_at new x) m) (sym same) (subst (λ (us : List ℕ). In us m) (sym at_node) (in_first (users_at mid c) (n ∷ []) m (subst (λ (x : ℕ). In (users_at mid x) m) same h)))
    | inr other ↦ subst (λ (us : List ℕ). In us m) (sym (at_other d other)) h
  ]

  user_added : In (users_at new c) n
  user_added = subst (λ (us : List ℕ). In us n) (sym at_node) (in_last (users_at mid c) (n ∷ []) n (zero, refl))

  user_only : (d m : ℕ) → In (users_at new d) m → In (users_at mid d) m ⊎ ((m ≡ n) × (d ≡ c))
  user_only d m h = elim (cases_eq d c) as (λ _. In (users_at mid d) m ⊎ ((m ≡ n) × (d ≡ c))) [
    | inl same ↦ elim (in_split (users_at mid c) (n ∷ []) m (subst (λ (us : List ℕ). In us m) at_node (subst (λ (x : ℕ). In (users_at new x) m) same h))) as (λ _. In (users_at mid d) m ⊎ ((m ≡ n) × (d ≡ c))) [
      | inl old ↦ inl (subst (λ (x : ℕ). In (users_at mid x) m) (sym same) old)
      | inr last ↦ inr (in_one n m last, same)
    ]
    | inr other ↦ inl (subst (λ (us : List ℕ). In us m) (at_other d other) h)
  ]

adds_one : (old mid new : List (List ℕ)) (n : ℕ) (cs : List ℕ) (c : ℕ) → AddsUser old mid n cs → c < length mid → new ≡ slice_set mid c (users_at mid c ++ n ∷ []) → AddsUser old new n (cs ++ c ∷ [])
adds_one old mid new n cs c a lt is = record {
  size = size_same mid new c n lt is ∙ a.size;
  kept = λ d m h. user_kept mid new c n lt is d m (a.kept d m h);
  added = λ d h. elim (in_split cs (c ∷ []) d h) as (λ _. In (users_at new d) n) [
    | inl before ↦ user_kept mid new c n lt is d n (a.added d before)
    | inr last ↦ subst (λ (x : ℕ). In (users_at new x) n) (sym (in_one c d last)) (user_added mid new c n lt is)
  ];
  only = λ d m h. elim (user_only mid new c n lt is d m h) as (λ _. In (users_at old d) m ⊎ ((m ≡ n) × In (cs ++ c ∷ []) d)) [
    | inl before ↦ elim (a.only d m before) as (λ _. In (users_at old d) m ⊎ ((m ≡ n) × In (cs ++ c ∷ []) d)) [
      | inl kept ↦ inl kept
      | inr added ↦ inr (added.0, in_first cs (c ∷ []) d added.1)
    ]
    | inr now ↦ inr (now.0, in_last cs (c ∷ []) d (zero, ap Some (sym now.1)))
  ];
}

-- the next of these nodes has it too
pub adds_more : (old mid new : List (List ℕ)) (n : ℕ) (cs : List ℕ) (i : ℕ) → i < length cs → AddsUser old mid n (take i cs) → get_or cs i 0 < length mid
    → new ≡ slice_set mid (get_or cs i 0) (users_at mid (get_or cs i 0) ++ n ∷ []) → AddsUser old new n (take (i + 1) cs)
adds_more old mid new n cs i lt a inside is = subst (λ (xs : List ℕ). AddsUser old new n xs) (sym (take_more cs i 0 lt)) (adds_one old mid new n (take i cs) (get_or cs i 0) a inside is)

-- ---- node after node

pub users_more : (kids old new : List (List ℕ)) (i : ℕ) → AreUsers kids i old → AddsUser old new i (kids_of kids i) → AreUsers kids (i + 1) new
users_more kids old new i are adds = record {
  size = adds.size ∙ are.size;
  all = λ n k c lt edge. elim (eq-or-lt_of_le {n = n} {m = i} (omega arith)) as (λ _. In (users_at new c) n) [
    | inl same ↦ subst (λ (x : ℕ). In (users_at new c) x) (sym same) (adds.added c (k, subst (λ (x : ℕ). Edge kids x k c) same edge))
    | inr before ↦ adds.kept c n (are.all n k c before edge)
  ];
  only = λ c n h. elim (adds.only c n h) as (λ _. (k : ℕ) × Edge kids n k c) [
    | inl before ↦ are.only c n before
    | inr now ↦ (now.1.0, subst (λ (x : ℕ). Edge kids x now.1.0 c) (sym now.0) now.1.1)
  ];
}

-- ---- nodes without a mark

-- those of the first i nodes
pub record AreUnmarked (marks : List Bool) (i : ℕ) (ns : List ℕ) : Type 0 where
  pub all : (n : ℕ) → n < i → IsUnmarked marks n → In ns n
  pub only : (n : ℕ) → In ns n → (n < i) × IsUnmarked marks n

-- the next node has a mark
pub unmarked_kept : (marks : List Bool) (i : ℕ) (ns : List ℕ) → IsMarked marks i → AreUnmarked marks i ns → AreUnmarked marks (i + 1) ns
unmarked_kept marks i ns marked are = record {
  all = λ n lt h. elim (eq-or-lt_of_le {n = n} {m = i} (omega arith)) as (λ _. In ns n) [
    | inl same ↦ absurd (let e : get_or marks n false ≡ get_or marks i false = ap (λ (x : ℕ). get_or marks x false) same in cc)
    | inr before ↦ are.all n before h
  ];
  only = λ n h. (let o = are.only n h in (omega arith, o.1));
}

-- the next node has none
pub unmarked_more : (marks : List Bool) (i : ℕ) (ns new : List ℕ) → IsUnmarked marks i → new ≡ ns ++ i ∷ [] → AreUnmarked marks i ns → AreUnmarked marks (i + 1) new
unmarked_more marks i ns new not is are = subst (λ (xs : List ℕ). AreUnmarked marks (i + 1) xs) (sym is) (record {
  all = λ n lt h. elim (eq-or-lt_of_le {n = n} {m = i} (omega arith)) as (λ _. In (ns ++ i ∷ []) n) [
    | inl same ↦ in_last ns (i ∷ []) n (zero, ap Some (sym same))
    | inr before ↦ in_first ns (i ∷ []) n (are.all n before h)
  ];
  only = λ n h. elim (in_split ns (i ∷ []) n h) as (λ _. (n < i + 1) × IsUnmarked marks n) [
    | inl before ↦ (let o = are.only n before in (omega arith, o.1))
    | inr last ↦ (let same : n ≡ i = in_one i n last in (omega arith, ap (λ (x : ℕ). get_or marks x false) same ∙ not))
  ];
})
