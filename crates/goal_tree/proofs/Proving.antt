-- What stays of a tree where one of its obligations is proved, and which may be proved next.
use Rattle.std.proofs.Common.{◌≡◌, inl, inr, ℕ, ◌+◌, ◌-◌, ◌<◌, ◌≤◌, List, [], ◌∷◌, ◌++◌, length, get_or, refl, sym, ap, ◌∙◌, subst, arith, append-nil, append_assoc, length-set}
use Rattle.std.specs.Prelude.{Option, Some, None, slice_get}
use Rattle.std.proofs.lemmas.Option.{same_Some, slice_get_within, slice_get-get_or}
use Rattle.goal_tree.specs.Words.{IsFront, Proof, ProofSource}
use Rattle.goal_tree.specs.Own.{Obligation, Standing, GoalTree, IsOpenAt, IsProvedAt, IsSelectedAt, IsWaitingAt, IsProvedBy, HasSource, AreAskedBy, IsAskedBy, AreChildren, IsProofAt, SomeUnproved, IsTreeBut, IsTree, AreProved, IsProvedNext, IsMoreProved, IsProvedUpTo, IsLater}
use Rattle.goal_tree.specs.declared.obligation.Standing.TheVariants as standing
use Rattle.goal_tree.proofs.Standings.{same_or_not, set_other, open_selected, selected_proved, same_standing}
use Rattle.goal_tree.proofs.Words.{get_set_same as set_same, get_left as front_get, get_last as last_get, get_more as push_get}

-- ---- nothing, or some and then others

front_none : {X : Type 0} (xs : List X) → IsFront xs xs
front_none xs = ([], sym (append-nil xs))

front_then : {X : Type 0} (xs ys zs : List X) → IsFront xs ys → IsFront ys zs → IsFront xs zs
front_then xs ys zs a b = (a.0 ++ b.0, b.1 ∙ ap (λ l. l ++ b.0) a.1 ∙ append_assoc xs a.0 b.0)

pub later_then : (t u v : GoalTree) → IsLater t u → IsLater u v → IsLater t v
later_then t u v a b = record {
  obligations = front_then t.obligations.items u.obligations.items v.obligations.items a.obligations b.obligations;
  sources = λ i m n src h. b.sources i m n src (a.sources i m n src h);
  proved = λ i k m n e. b.proved i k m n (a.proved i k m n e);
  proofs = front_then t.proofs.items u.proofs.items v.proofs.items a.proofs b.proofs;
}

pub proved_none : (t : GoalTree) → IsMoreProved t t
proved_none t = record {
  obligations = refl;
  later = record {
    obligations = front_none t.obligations.items;
    sources = λ i m n src h. h;
    proved = λ i k m n e. e;
    proofs = front_none t.proofs.items;
  };
  sources = λ i m n src h. h;
  still_open = λ i e. e;
}

pub proved_then : (t u v : GoalTree) → IsMoreProved t u → IsMoreProved u v → IsMoreProved t v
proved_then t u v a b = record {
  obligations = b.obligations ∙ a.obligations;
  later = later_then t u v a.later b.later;
  sources = λ i m n src h. a.sources i m n src (b.sources i m n src h);
  still_open = λ i e. b.still_open i (a.still_open i e);
}

-- ---- which may be proved

pub tree_weaker : (P Q : ℕ → Type 0) (t : GoalTree) → ((i : ℕ) → P i → Q i) → IsTreeBut P t → IsTreeBut Q t
tree_weaker P Q t f tree = record {
  as_many = tree.as_many;
  parents = tree.parents;
  selected = tree.selected;
  proved = tree.proved;
  owned = tree.owned;
  waits = λ i m n src h other. tree.waits i m n src h (λ p. other (f i p));
}

pub tree_waits : (t : GoalTree) (at m n : ℕ) (src : ProofSource) → IsTreeBut (λ i. i ≡ at) t → IsSelectedAt t.standings.items at src m n → SomeUnproved t.standings.items m n → IsTree t
tree_waits t at m n src tree here unproved = record {
  as_many = tree.as_many;
  parents = tree.parents;
  selected = tree.selected;
  proved = tree.proved;
  owned = tree.owned;
  waits = λ i a b s h other. elim (same_or_not i at) [
    | inl q ↦ same a b s (subst (λ j. IsSelectedAt t.standings.items j s a b) q h)
    | inr q ↦ tree.waits i a b s h q
  ];
}
  where
    same : (a b : ℕ) (s : ProofSource) → IsSelectedAt t.standings.items at s a b → SomeUnproved t.standings.items a b
    same a b s h =
        let e : standing.Selected src m n ≡ standing.Selected s a b = same_standing t.standings.items at (standing.Selected src m n) (standing.Selected s a b) here h in
        let first : m ≡ a = cc in
        let count : n ≡ b = cc in
        subst (λ x. SomeUnproved t.standings.items x b) first (subst (λ y. SomeUnproved t.standings.items m y) count unproved)

-- ---- one is proved

-- it waited for what is proved by now
pub record Proves (t u : GoalTree) (at : ℕ) : Type 0 where
  pub proof : Proof
  pub first : ℕ
  pub count : ℕ
  pub obligation : Obligation
  pub tree : IsTreeBut (λ i. i ≡ at) t
  pub asked : slice_get t.obligations.items at ≡ Some obligation
  pub waited : IsSelectedAt t.standings.items at proof.source first count
  pub goal : proof.goal ≡ obligation.goal
  pub children : AreProved t.standings.items first count proof.children
  pub next : IsProvedNext t u at proof first count

-- which asks for it
abbrev IsParentOf : List Obligation → ℕ → ℕ → Type 0
IsParentOf os at i = (o : Obligation) × (slice_get os at ≡ Some o) × (o.parent ≡ Some i)

module _ (t u : GoalTree) (at : ℕ) (g : Proves t u at) where
  here : slice_get u.standings.items at ≡ Some (standing.Proved (length t.proofs.items) g.first g.count)
  here = ap (λ ss. slice_get ss at) g.next.standings ∙ set_same t.standings.items at (standing.Proved (length t.proofs.items) g.first g.count) (slice_get_within t.standings.items at (standing.Selected g.proof.source g.first g.count) g.waited)

  elsewhere : (i : ℕ) → (i ≡ at → ⊥) → slice_get u.standings.items i ≡ slice_get t.standings.items i
  elsewhere i other = ap (λ ss. slice_get ss i) g.next.standings ∙ set_other t.standings.items at i (standing.Proved (length t.proofs.items) g.first g.count) other

  newest : slice_get u.proofs.items (length t.proofs.items) ≡ Some g.proof
  newest = ap (λ ps. slice_get ps (length t.proofs.items)) g.next.proofs ∙ last_get t.proofs.items g.proof

  proof_on : (k : ℕ) (x : Proof) → slice_get t.proofs.items k ≡ Some x → slice_get u.proofs.items k ≡ Some x
  proof_on k x e = subst (λ ps. slice_get ps k ≡ Some x) (sym g.next.proofs) (front_get t.proofs.items (g.proof ∷ []) k x e)

  -- the standing of `at` before
  was_waiting : (s : Standing) → slice_get t.standings.items at ≡ Some s → standing.Selected g.proof.source g.first g.count ≡ s
  was_waiting s e = same_standing t.standings.items at (standing.Selected g.proof.source g.first g.count) s g.waited e

  proved_elsewhere : (i k m n : ℕ) → slice_get t.standings.items i ≡ Some (standing.Proved k m n) → i ≡ at → ⊥
  proved_elsewhere i k m n e q = selected_proved g.proof.source g.first g.count k m n (was_waiting (standing.Proved k m n) (subst (λ j. slice_get t.standings.items j ≡ Some (standing.Proved k m n)) q e))

  proved_on : (i k m n : ℕ) → slice_get t.standings.items i ≡ Some (standing.Proved k m n) → slice_get u.standings.items i ≡ Some (standing.Proved k m n)
  proved_on i k m n e = elsewhere i (proved_elsewhere i k m n e) ∙ e

  open_on : (i : ℕ) → IsOpenAt t.standings.items i → IsOpenAt u.standings.items i
  open_on i e = elsewhere i (λ q. open_selected g.proof.source g.first g.count (sym (was_waiting standing.Open (subst (λ j. IsOpenAt t.standings.items j) q e)))) ∙ e

  selected_here : (m n : ℕ) (src : ProofSource) → IsSelectedAt u.standings.items at src m n → ⊥
  selected_here m n src e = selected_proved src m n (length t.proofs.items) g.first g.count (same_standing u.standings.items at (standing.Selected src m n) (standing.Proved (length t.proofs.items) g.first g.count) e here)

  selected_back : (i m n : ℕ) (src : ProofSource) → IsSelectedAt u.standings.items i src m n → (i ≡ at → ⊥) × IsSelectedAt t.standings.items i src m n
  selected_back i m n src e =
      let other = λ (q : i ≡ at). selected_here m n src (subst (λ j. IsSelectedAt u.standings.items j src m n) q e) in
      (other, sym (elsewhere i other) ∙ e)

  -- ---- sources stay

  waiting_on : (m n : ℕ) (src : ProofSource) → IsSelectedAt t.standings.items at src m n → HasSource u at src m n
  waiting_on m n src h =
      let e : standing.Selected g.proof.source g.first g.count ≡ standing.Selected src m n = was_waiting (standing.Selected src m n) h in
      let source : g.proof.source ≡ src = cc in
      let first : g.first ≡ m = cc in
      let count : g.count ≡ n = cc in
      inr (record {
        number = length t.proofs.items;
        proof = g.proof;
        proved = here ∙ ap (λ x. Some (standing.Proved (length t.proofs.items) x g.count)) first ∙ ap (λ y. Some (standing.Proved (length t.proofs.items) m y)) count;
        at = newest;
        source = source;
      })

  source_on : (i m n : ℕ) (src : ProofSource) → HasSource t i src m n → HasSource u i src m n
  source_on i m n src (inl h) = elim (same_or_not i at) [
    | inl q ↦ subst (λ j. HasSource u j src m n) (sym q) (waiting_on m n src (subst (λ j. IsSelectedAt t.standings.items j src m n) q h))
    | inr q ↦ inl (elsewhere i q ∙ h)
  ]
  source_on i m n src (inr h) = inr (record {
    number = h.number;
    proof = h.proof;
    proved = proved_on i h.number m n h.proved;
    at = proof_on h.number h.proof h.at;
    source = h.source;
  })

  waiting_back : (m n : ℕ) (src : ProofSource) → IsProvedBy u.standings.items u.proofs.items at src m n → IsSelectedAt t.standings.items at src m n
  waiting_back m n src h =
      let e : standing.Proved (length t.proofs.items) g.first g.count ≡ standing.Proved h.number m n = same_standing u.standings.items at (standing.Proved (length t.proofs.items) g.first g.count) (standing.Proved h.number m n) here h.proved in
      let number : length t.proofs.items ≡ h.number = cc in
      let first : g.first ≡ m = cc in
      let count : g.count ≡ n = cc in
      let same : g.proof ≡ h.proof = same_Some g.proof h.proof (sym newest ∙ ap (λ k. slice_get u.proofs.items k) number ∙ h.at) in
      let source : g.proof.source ≡ src = ap (λ (x : Proof). x.source) same ∙ h.source in
      g.waited ∙ ap (λ s. Some (standing.Selected s g.first g.count)) source ∙ ap (λ x. Some (standing.Selected src x g.count)) first ∙ ap (λ y. Some (standing.Selected src m y)) count

  proved_back : (i m n : ℕ) (src : ProofSource) → (i ≡ at → ⊥) → IsProvedBy u.standings.items u.proofs.items i src m n → IsProvedBy t.standings.items t.proofs.items i src m n
  proved_back i m n src other h =
      let before : slice_get t.standings.items i ≡ Some (standing.Proved h.number m n) = sym (elsewhere i other) ∙ h.proved in
      let was = g.tree.proved i h.number m n before in
      let same : was.proof ≡ h.proof = same_Some was.proof h.proof (sym (proof_on h.number was.proof was.at) ∙ h.at) in
      record {
        number = h.number;
        proof = h.proof;
        proved = before;
        at = was.at ∙ ap (λ (x : Proof). Some x) same;
        source = h.source;
      }

  source_back : (i m n : ℕ) (src : ProofSource) → HasSource u i src m n → HasSource t i src m n
  source_back i m n src (inl h) = inl (selected_back i m n src h).1
  source_back i m n src (inr h) = elim (same_or_not i at) [
    | inl q ↦ inl (subst (λ j. IsSelectedAt t.standings.items j src m n) (sym q) (waiting_back m n src (subst (λ j. IsProvedBy u.standings.items u.proofs.items j src m n) q h)))
    | inr q ↦ inr (proved_back i m n src q h)
  ]

  one_proved : IsMoreProved t u
  one_proved = record {
    obligations = g.next.obligations;
    later = record {
      obligations = ([], g.next.obligations ∙ sym (append-nil t.obligations.items));
      sources = source_on;
      proved = proved_on;
      proofs = (g.proof ∷ [], g.next.proofs);
    };
    sources = source_back;
    still_open = open_on;
  }

  -- ---- it stays a tree

  child_proved : (i : ℕ) → g.first ≤ i → i < g.first + g.count → IsProvedAt u.standings.items i
  child_proved i from to =
      let many = g.children.as_many in
      let place : g.first + (i - g.first) ≡ i = omega arith in
      let number = get_or g.proof.children (i - g.first) 0 in
      let at_child : slice_get g.proof.children (i - g.first) ≡ Some number = slice_get-get_or g.proof.children (i - g.first) 0 (omega arith) in
      let x = g.children.each (i - g.first) number at_child in
      (number, x.0, x.1, proved_on i number x.0 x.1 (subst (λ j. slice_get t.standings.items j ≡ Some (standing.Proved number x.0 x.1)) place x.2))

  parent_here : (i p m n : ℕ) (src : ProofSource) → p ≡ at → IsSelectedAt t.standings.items p src m n → m ≤ i → i < m + n → IsProvedAt u.standings.items p × IsProvedAt u.standings.items i
  parent_here i p m n src q h from to =
      let e : standing.Selected g.proof.source g.first g.count ≡ standing.Selected src m n = was_waiting (standing.Selected src m n) (subst (λ j. IsSelectedAt t.standings.items j src m n) q h) in
      let first : g.first ≡ m = cc in
      let count : g.count ≡ n = cc in
      (subst (λ j. IsProvedAt u.standings.items j) (sym q) (length t.proofs.items, g.first, g.count, here), child_proved i (omega arith) (omega arith))

  by_on : (i p : ℕ) → IsAskedBy t.standings.items i p → IsAskedBy u.standings.items i p
  by_on i p h = record {
    before = h.before;
    by = elim h.by [
      | inl q ↦ elim (same_or_not p at) [
        | inl s ↦ inr (parent_here i p q.1 q.2 q.0 s q.3 q.4 q.5)
        | inr s ↦ inl (q.0, q.1, q.2, elsewhere p s ∙ q.3, q.4, q.5)
      ]
      | inr q ↦ inr ((q.0.0, q.0.1, q.0.2, proved_on p q.0.0 q.0.1 q.0.2 q.0.3), (q.1.0, q.1.1, q.1.2, proved_on i q.1.0 q.1.1 q.1.2 q.1.3))
    ];
  }

  children_on : (k m n : ℕ) (cs : List ℕ) → AreChildren t.standings.items k cs m n → AreChildren u.standings.items k cs m n
  children_on k m n cs h = (h.0, λ j c e. (let x = h.1 j c e in (x.0, (x.1.0, x.1.1, proved_on (m + j) c x.1.0 x.1.1 x.1.2))))

  new_child : (j c : ℕ) → slice_get g.proof.children j ≡ Some c → (c < length t.proofs.items) × ((a : ℕ) × (b : ℕ) × (slice_get u.standings.items (g.first + j) ≡ Some (standing.Proved c a b)))
  new_child j c e =
      let x = g.children.each j c e in
      let y = g.tree.proved (g.first + j) c x.0 x.1 x.2 in
      (slice_get_within t.proofs.items c y.proof y.at, (x.0, x.1, proved_on (g.first + j) c x.0 x.1 x.2))

  obligation_on : (i : ℕ) (o : Obligation) → slice_get t.obligations.items i ≡ Some o → slice_get u.obligations.items i ≡ Some o
  obligation_on i o e = ap (λ os. slice_get os i) g.next.obligations ∙ e

  new_proof : IsProofAt u.obligations.items u.standings.items u.proofs.items at (length t.proofs.items) g.first g.count
  new_proof = record {
    obligation = g.obligation;
    proof = g.proof;
    asked = obligation_on at g.obligation g.asked;
    at = newest;
    goal = g.goal;
    children = (g.children.as_many, new_child);
  }

  old_proof : (i k m n : ℕ) → slice_get t.standings.items i ≡ Some (standing.Proved k m n) → IsProofAt u.obligations.items u.standings.items u.proofs.items i k m n
  old_proof i k m n e =
      let was = g.tree.proved i k m n e in
      record {
        obligation = was.obligation;
        proof = was.proof;
        asked = obligation_on i was.obligation was.asked;
        at = proof_on k was.proof was.at;
        goal = was.goal;
        children = children_on k m n was.proof.children was.children;
      }

  proof_at : (i k m n : ℕ) → slice_get u.standings.items i ≡ Some (standing.Proved k m n) → IsProofAt u.obligations.items u.standings.items u.proofs.items i k m n
  proof_at i k m n e = elim (same_or_not i at) [
    | inl q ↦ subst (λ j. IsProofAt u.obligations.items u.standings.items u.proofs.items j k m n) (sym q) (at_here k m n (subst (λ j. slice_get u.standings.items j ≡ Some (standing.Proved k m n)) q e))
    | inr q ↦ old_proof i k m n (sym (elsewhere i q) ∙ e)
  ]
    where
      at_here : (a b c : ℕ) → slice_get u.standings.items at ≡ Some (standing.Proved a b c) → IsProofAt u.obligations.items u.standings.items u.proofs.items at a b c
      at_here a b c e' =
          let s : standing.Proved (length t.proofs.items) g.first g.count ≡ standing.Proved a b c = same_standing u.standings.items at (standing.Proved (length t.proofs.items) g.first g.count) (standing.Proved a b c) here e' in
          let number : length t.proofs.items ≡ a = cc in
          let first : g.first ≡ b = cc in
          let count : g.count ≡ c = cc in
          subst (λ z. IsProofAt u.obligations.items u.standings.items u.proofs.items at a b z) count
          (subst (λ y. IsProofAt u.obligations.items u.standings.items u.proofs.items at a y g.count) first
          (subst (λ x. IsProofAt u.obligations.items u.standings.items u.proofs.items at x g.first g.count) number new_proof))

  owned_by : (k : ℕ) (x : Proof) → slice_get u.proofs.items k ≡ Some x → (i : ℕ) × (m : ℕ) × (n : ℕ) × (slice_get u.standings.items i ≡ Some (standing.Proved k m n))
  owned_by k x e = elim (push_get t.proofs.items g.proof k x (subst (λ ps. slice_get ps k ≡ Some x) g.next.proofs e)) [
    | inl q ↦ (let h = g.tree.owned k x q in (h.0, h.1, h.2, proved_on h.0 k h.1 h.2 h.3))
    | inr q ↦ (at, g.first, g.count, here ∙ ap (λ z. Some (standing.Proved z g.first g.count)) (sym q.0))
  ]

  unproved_on : (i m n : ℕ) (src : ProofSource) → IsSelectedAt t.standings.items i src m n → (i ≡ at → ⊥) → (IsParentOf u.obligations.items at i → ⊥) → SomeUnproved u.standings.items m n
  unproved_on i m n src h other none =
      let s = g.tree.waits i m n src h other in
      let apart = λ (q : s.0 ≡ at). none (g.obligation, obligation_on at g.obligation g.asked, (g.tree.selected i m n src (inl h)).name_it at g.obligation (subst (λ j. m ≤ j) q s.1) (subst (λ j. j < m + n) q s.2) g.asked) in
      (s.0, s.1, s.2, λ p. s.3 (p.0, p.1, p.2, sym (elsewhere s.0 apart) ∙ p.3))

  still_tree : IsTreeBut (IsParentOf u.obligations.items at) u
  still_tree = record {
    as_many = ap length g.next.standings ∙ length-set t.standings.items at (standing.Proved (length t.proofs.items) g.first g.count) ∙ g.tree.as_many ∙ ap length (sym g.next.obligations);
    parents = λ i p o e parent. by_on i p (g.tree.parents i p o (ap (λ os. slice_get os i) (sym g.next.obligations) ∙ e) parent);
    selected = λ i m n src h. subst (λ os. AreAskedBy os i m n) (sym g.next.obligations) (g.tree.selected i m n src (source_back i m n src h));
    proved = proof_at;
    owned = owned_by;
    waits = λ i m n src h other. (let b = selected_back i m n src h in unproved_on i m n src b.1 b.0 other);
  }

  -- ---- which may be proved next

  parent_of : (o : Obligation) → slice_get u.obligations.items at ≡ Some o → g.obligation ≡ o
  parent_of o e = same_Some g.obligation o (sym (obligation_on at g.obligation g.asked) ∙ e)

  no_parent : g.obligation.parent ≡ None → IsTree u
  no_parent root = tree_weaker (IsParentOf u.obligations.items at) (λ i. ⊥) u
      (λ i h. (let a = ap (λ (o : Obligation). o.parent) (parent_of h.0 h.1) in let b = h.2 in cc)) still_tree

  a_parent : (p : ℕ) → g.obligation.parent ≡ Some p → IsTreeBut (λ i. i ≡ p) u
  a_parent p is = tree_weaker (IsParentOf u.obligations.items at) (λ i. i ≡ p) u
      (λ i h. same_Some i p (sym h.2 ∙ ap (λ (o : Obligation). o.parent) (sym (parent_of h.0 h.1)) ∙ is)) still_tree

  parent_waits : (p : ℕ) → g.obligation.parent ≡ Some p → IsWaitingAt u.standings.items p × (p < at)
  parent_waits p is =
      let h = g.tree.parents at p g.obligation g.asked is in
      let before = h.before in
      let apart = λ (q : p ≡ at). (let no : ⊥ = absurd (omega (arith, before, q)) in no) in (
        elim h.by [
          | inl q ↦ (q.0, q.1, q.2, elsewhere p apart ∙ q.3)
          | inr q ↦ absurd (proved_elsewhere at q.1.0 q.1.1 q.1.2 q.1.3 refl)
        ],
        before,
      )

  pub proved_next : (r : Option ℕ) → g.obligation.parent ≡ r → IsProvedUpTo t u at r
  proved_next None e = (one_proved, no_parent e)
  proved_next (Some p) e = (let w = parent_waits p e in (one_proved, a_parent p e, w.0, w.1))
