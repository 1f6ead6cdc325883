-- What stays of a tree where goals are asked, and where one is selected.
use Rattle.std.proofs.Common.{◌≡◌, ◌⊎◌, inl, inr, ℕ, ◌+◌, ◌≤◌, List, [], ◌∷◌, length, sym, ap, subst, arith, length-append}
use Rattle.std.proofs.lemmas.List.{length-map}
use Rattle.std.specs.Prelude.{Some, None, slice_get}
use Rattle.std.proofs.lemmas.Option.{slice_get_within}
use Rattle.goal_tree.specs.Words.{IsFront, ProofSource}
use Rattle.goal_tree.specs.Own.{Obligation, Standing, GoalTree, IsOpenAt, IsSelectedAt, HasSource, AreAskedBy, IsAskedBy, AreChildren, IsProofAt, SomeUnproved, IsTreeBut, IsTree, opens, IsAsked}
use Rattle.goal_tree.specs.declared.obligation.Standing.TheVariants as standing
use Rattle.goal_tree.proofs.Words.{get_left as front_get, get_more as push_get}
use Rattle.goal_tree.proofs.Standings.{back_get, more_get, open_selected, open_proved, same_standing}

-- those at `at` were open, and have no proof now; the others stay, and what comes is open
pub record Grows (at : ℕ → Type 0) (t u : GoalTree) : Type 0 where
  pub obligations : IsFront t.obligations.items u.obligations.items
  pub proofs : u.proofs.items ≡ t.proofs.items
  pub was_open : (i : ℕ) → at i → IsOpenAt t.standings.items i
  pub no_proof : (i k m n : ℕ) → at i → slice_get u.standings.items i ≡ Some (standing.Proved k m n) → ⊥
  pub stays : (i : ℕ) (s : Standing) → (at i → ⊥) → slice_get t.standings.items i ≡ Some s → slice_get u.standings.items i ≡ Some s
  pub stood : (i : ℕ) (s : Standing) → (at i → ⊥) → slice_get u.standings.items i ≡ Some s → (slice_get t.standings.items i ≡ Some s) ⊎ (standing.Open ≡ s)

module _ (at : ℕ → Type 0) (t u : GoalTree) (g : Grows at t u) where
  closed : (i : ℕ) (s : Standing) → slice_get t.standings.items i ≡ Some s → (standing.Open ≡ s → ⊥) → at i → ⊥
  closed i s e other here = other (same_standing t.standings.items i standing.Open s (g.was_open i here) e)

  pub proved_on : (i k m n : ℕ) → slice_get t.standings.items i ≡ Some (standing.Proved k m n) → slice_get u.standings.items i ≡ Some (standing.Proved k m n)
  proved_on i k m n e = g.stays i (standing.Proved k m n) (closed i (standing.Proved k m n) e (open_proved k m n)) e

  pub selected_on : (i m n : ℕ) (src : ProofSource) → IsSelectedAt t.standings.items i src m n → IsSelectedAt u.standings.items i src m n
  selected_on i m n src e = g.stays i (standing.Selected src m n) (closed i (standing.Selected src m n) e (open_selected src m n)) e

  pub proved_back : (i k m n : ℕ) → slice_get u.standings.items i ≡ Some (standing.Proved k m n) → slice_get t.standings.items i ≡ Some (standing.Proved k m n)
  proved_back i k m n e = elim (g.stood i (standing.Proved k m n) (λ here. g.no_proof i k m n here e) e) [
    | inl q ↦ q
    | inr q ↦ absurd (open_proved k m n q)
  ]

  selected_back : (i m n : ℕ) (src : ProofSource) → (at i → ⊥) → IsSelectedAt u.standings.items i src m n → IsSelectedAt t.standings.items i src m n
  selected_back i m n src other e = elim (g.stood i (standing.Selected src m n) other e) [
    | inl q ↦ q
    | inr q ↦ absurd (open_selected src m n q)
  ]

  pub source_on : (i m n : ℕ) (src : ProofSource) → HasSource t i src m n → HasSource u i src m n
  source_on i m n src (inl h) = inl (selected_on i m n src h)
  source_on i m n src (inr h) = inr (record {
    number = h.number;
    proof = h.proof;
    proved = proved_on i h.number m n h.proved;
    at = subst (λ ps. slice_get ps h.number ≡ Some h.proof) (sym g.proofs) h.at;
    source = h.source;
  })

  pub source_back : (i m n : ℕ) (src : ProofSource) → (at i → ⊥) → HasSource u i src m n → HasSource t i src m n
  source_back i m n src other (inl h) = inl (selected_back i m n src other h)
  source_back i m n src other (inr h) = inr (record {
    number = h.number;
    proof = h.proof;
    proved = proved_back i h.number m n h.proved;
    at = subst (λ ps. slice_get ps h.number ≡ Some h.proof) g.proofs h.at;
    source = h.source;
  })

  obligation_on : (i : ℕ) (o : Obligation) → slice_get t.obligations.items i ≡ Some o → slice_get u.obligations.items i ≡ Some o
  obligation_on i o e = subst (λ os. slice_get os i ≡ Some o) (sym g.obligations.1) (front_get t.obligations.items g.obligations.0 i o e)

  obligation_back : (i : ℕ) (o : Obligation) → slice_get u.obligations.items i ≡ Some o → (slice_get t.obligations.items i ≡ Some o) ⊎ (length t.obligations.items ≤ i)
  obligation_back i o e = back_get t.obligations.items g.obligations.0 i o (subst (λ os. slice_get os i ≡ Some o) g.obligations.1 e)

  more_obligations : length t.obligations.items ≤ length u.obligations.items
  more_obligations = let e = ap length g.obligations.1 in omega (arith, length-append t.obligations.items g.obligations.0)

  children_on : (k m n : ℕ) (cs : List ℕ) → AreChildren t.standings.items k cs m n → AreChildren u.standings.items k cs m n
  children_on k m n cs h = (h.0, λ j c e. (let x = h.1 j c e in (x.0, (x.1.0, x.1.1, proved_on (m + j) c x.1.0 x.1.1 x.1.2))))

  proof_on : (i k m n : ℕ) → IsProofAt t.obligations.items t.standings.items t.proofs.items i k m n → IsProofAt u.obligations.items u.standings.items u.proofs.items i k m n
  proof_on i k m n h = record {
    obligation = h.obligation;
    proof = h.proof;
    asked = obligation_on i h.obligation h.asked;
    at = subst (λ ps. slice_get ps k ≡ Some h.proof) (sym g.proofs) h.at;
    goal = h.goal;
    children = children_on k m n h.proof.children h.children;
  }

  asked_on : (i m n : ℕ) → AreAskedBy t.obligations.items i m n → AreAskedBy u.obligations.items i m n
  asked_on i m n h = record {
    behind = h.behind;
    within = (let a = h.within in let b = more_obligations in omega arith);
    name_it = λ j o from to e. elim (obligation_back j o e) [
      | inl q ↦ h.name_it j o from to q
      | inr q ↦ (let a = h.within in absurd (omega (arith, a, q, to)))
    ];
  }

  unproved_on : (m n : ℕ) → SomeUnproved t.standings.items m n → SomeUnproved u.standings.items m n
  unproved_on m n h = (h.0, h.1, h.2, λ p. h.3 (p.0, p.1, p.2, proved_back h.0 p.0 p.1 p.2 p.3))

  by_on : (i p : ℕ) → IsAskedBy t.standings.items i p → IsAskedBy u.standings.items i p
  by_on i p h = record {
    before = h.before;
    by = elim h.by [
      | inl q ↦ inl (q.0, q.1, q.2, selected_on p q.1 q.2 q.0 q.3, q.4, q.5)
      | inr q ↦ inr ((q.0.0, q.0.1, q.0.2, proved_on p q.0.0 q.0.1 q.0.2 q.0.3), (q.1.0, q.1.1, q.1.2, proved_on i q.1.0 q.1.1 q.1.2 q.1.3))
    ];
  }

  pub grown_tree :
      IsTree t →
      length u.standings.items ≡ length u.obligations.items →
      ((i p : ℕ) (o : Obligation) → length t.obligations.items ≤ i → slice_get u.obligations.items i ≡ Some o → o.parent ≡ Some p → IsAskedBy u.standings.items i p) →
      ((i m n : ℕ) (src : ProofSource) → HasSource u i src m n → (at i → ⊥) ⊎ AreAskedBy u.obligations.items i m n) →
      IsTreeBut at u
  grown_tree tree as_many new here = record {
    as_many = as_many;
    parents = λ i p o e parent. elim (obligation_back i o e) [
      | inl q ↦ by_on i p (tree.parents i p o q parent)
      | inr q ↦ new i p o q e parent
    ];
    selected = λ i m n src h. elim (here i m n src h) [
      | inl q ↦ asked_on i m n (tree.selected i m n src (source_back i m n src q h))
      | inr q ↦ q
    ];
    proved = λ i k m n e. proof_on i k m n (tree.proved i k m n (proved_back i k m n e));
    owned = λ k x e. (let h = tree.owned k x (subst (λ ps. slice_get ps k ≡ Some x) g.proofs e) in (h.0, h.1, h.2, proved_on h.0 k h.1 h.2 h.3));
    waits = λ i m n src h other. unproved_on m n (tree.waits i m n src (selected_back i m n src other h) (λ q. q));
  }

-- ---- goals are asked

pub asked_grows : (t u : GoalTree) (os : List Obligation) → IsAsked t u os → Grows (λ i. ⊥) t u
asked_grows t u os a = record {
  obligations = (os, a.obligations);
  proofs = a.proofs;
  was_open = λ i h. absurd h;
  no_proof = λ i k m n h e. h;
  stays = λ i s other e. subst (λ ss. slice_get ss i ≡ Some s) (sym a.standings) (front_get t.standings.items _ i s e);
  stood = λ i s other e. elim (more_get (λ (o : Obligation). standing.Open) t.standings.items os i s (subst (λ ss. slice_get ss i ≡ Some s) a.standings e)) [
    | inl q ↦ inl q
    | inr q ↦ inr q.1.1
  ];
}

pub asked_as_many : (t u : GoalTree) (os : List Obligation) → IsTree t → IsAsked t u os → length u.standings.items ≡ length u.obligations.items
asked_as_many t u os tree a =
    let many = tree.as_many in
    let new = ap length a.standings in
    let asked = ap length a.obligations in
    let mapped : length (opens os) ≡ length os = length-map os (λ o. standing.Open) in
    omega (arith, length-append t.standings.items (opens os), length-append t.obligations.items os)

pub registered_tree : (t u : GoalTree) (o : Obligation) → IsTree t → o.parent ≡ None → IsAsked t u (o ∷ []) → IsTree u
registered_tree t u o tree root a = grown_tree (λ i. ⊥) t u (asked_grows t u (o ∷ []) a) tree (asked_as_many t u (o ∷ []) tree a) new (λ i m n src h. inl (λ q. q))
  where
    new : (i p : ℕ) (x : Obligation) → length t.obligations.items ≤ i → slice_get u.obligations.items i ≡ Some x → x.parent ≡ Some p → IsAskedBy u.standings.items i p
    new i p x from e parent = elim (push_get t.obligations.items o i x (subst (λ os. slice_get os i ≡ Some x) a.obligations e)) [
      | inl q ↦ (let w = slice_get_within t.obligations.items i x q in absurd (omega arith))
      | inr q ↦ (let s = q.1 in cc)
    ]
