-- Where each obligation that has a source has it rightly, the proofs of the tree are proofs.
use Rattle.std.proofs.Common.{◌≡◌, inr, ℕ, zero, suc, ◌+◌, ◌<◌, ◌≤◌, List, [], ◌∷◌, length, take, drop, refl, sym, ap, ◌∙◌, subst, arith, length-take, length-drop}
use Rattle.std.specs.Prelude.{Some, slice_get}
use Rattle.std.proofs.lemmas.Option.{same_Some}
use Rattle.std.proofs.lemmas.List.{length-map}
use Rattle.goal_tree.specs.Words.{RawFacts, Fill, Aliases, Asked, System, Proof, filled_goal, IsSame, IsSource, MayHaveSource, IsProofOf, AreProofsOf, Holds, AreProofs}
use Rattle.goal_tree.proofs.Words.{get_from_take}
use Rattle.goal_tree.specs.Own.{Obligation, GoalTree, HasSource, IsTreeBut, IsProofAt, AreChildren, filled_goals, IsRight}
use Rattle.goal_tree.specs.declared.obligation.Standing.TheVariants as standing
use Rattle.goal_tree.proofs.Standings.{mapped_get}

dropped_get : {X : Type 0} (xs : List X) (m j : ℕ) (x : X) → slice_get (drop m xs) j ≡ Some x → slice_get xs (m + j) ≡ Some x
dropped_get xs zero j x e = let same : zero + j ≡ j = omega arith in ap (λ k. slice_get xs k) same ∙ e
dropped_get [] (suc m) j x e = cc
dropped_get (y ∷ xs) (suc m) j x e = let same : suc m + j ≡ suc (m + j) = omega arith in ap (λ k. slice_get (y ∷ xs) k) same ∙ dropped_get xs m j x e

-- which obligation a goal is of
goal_of : (s : Fill) (os : List Obligation) (m n j : ℕ) (q : Asked) → slice_get (filled_goals s os m n) j ≡ Some q → (o : Obligation) × (slice_get os (m + j) ≡ Some o) × (filled_goal s o.goal ≡ q)
goal_of s os m n j q e =
    let a = mapped_get (λ (o : Obligation). filled_goal s o.goal) (take n (drop m os)) j q e in
    (a.0, dropped_get os m j a.0 (get_from_take (drop m os) n j a.0 a.1).1, a.2)

goals_long : (s : Fill) (os : List Obligation) (m n : ℕ) → m + n ≤ length os → length (filled_goals s os m n) ≡ n
goals_long s os m n within =
    let mapped = length-map (take n (drop m os)) (λ o. filled_goal s o.goal) in
    let first = length-take n (drop m os) in
    let rest = length-drop m os in
    omega (arith, mapped, first, rest)

are_proofs : (P : Aliases) (s : Fill) (ps : List Proof) (k : ℕ) (qs : List Asked) (cs : List ℕ) → length qs ≡ length cs
    → ((j c : ℕ) (q : Asked) → slice_get cs j ≡ Some c → slice_get qs j ≡ Some q → IsProofOf P s ps k q c) → AreProofsOf P s ps k qs cs
are_proofs P s ps k [] [] long each = tt
are_proofs P s ps k [] (c ∷ cs) long each = absurd (omega (arith, long))
are_proofs P s ps k (q ∷ qs) [] long each = absurd (omega (arith, long))
are_proofs P s ps k (q ∷ qs) (c ∷ cs) long each = (each 0 c q refl refl, are_proofs P s ps k qs cs (omega (arith, long)) (λ j d r a b. each (suc j) d r a b))

module _ (raw : RawFacts) (f : System) (P : Aliases) (s : Fill) (at : ℕ → Type 0) (t : GoalTree) (tree : IsTreeBut at t) (right : IsRight raw f P s t) where
  -- the obligation of a proof
  has : (i k m n : ℕ) (e : slice_get t.standings.items i ≡ Some (standing.Proved k m n)) (h : IsProofAt t.obligations.items t.standings.items t.proofs.items i k m n) → HasSource t i h.proof.source m n
  has i k m n e h = inr (record { number = k; proof = h.proof; proved = e; at = h.at; source = refl })

  proof_of : (i k m n : ℕ) (o : Obligation) (q : Asked) (bound : ℕ) → slice_get t.standings.items i ≡ Some (standing.Proved k m n) → slice_get t.obligations.items i ≡ Some o → filled_goal s o.goal ≡ q → k < bound → IsProofOf P s t.proofs.items bound q k
  proof_of i k m n o q bound e asked is before =
      let h = tree.proved i k m n e in
      let r = right i m n h.proof.source h.obligation (has i k m n e h) h.asked in
      let same : h.obligation ≡ o = same_Some h.obligation o (sym h.asked ∙ asked) in
      let goal : filled_goal s h.proof.goal ≡ filled_goal s h.obligation.goal = ap (λ g. filled_goal s g) h.goal in
      let to : filled_goal s h.obligation.goal ≡ q = ap (λ (x : Obligation). filled_goal s x.goal) same ∙ is in
      record {
        proof = h.proof;
        before = before;
        at = h.at;
        same = subst (λ z. IsSame P (filled_goal s h.proof.goal) z) to (subst (λ z. IsSame P z (filled_goal s h.obligation.goal)) (sym goal) (refl, r.reads.0, r.reads.1, r.reads.1));
      }

  child_of : (k m n j c : ℕ) (cs : List ℕ) (q : Asked) → AreChildren t.standings.items k cs m n → slice_get cs j ≡ Some c → slice_get (filled_goals s t.obligations.items m n) j ≡ Some q → IsProofOf P s t.proofs.items k q c
  child_of k m n j c cs q children e at_goal =
      let x = children.1 j c e in
      let g = goal_of s t.obligations.items m n j q at_goal in
      proof_of (m + j) c x.1.0 x.1.1 g.0 q k x.1.2 g.1 g.2 x.0

  holds_at : (i k m n : ℕ) (e : slice_get t.standings.items i ≡ Some (standing.Proved k m n)) (h : IsProofAt t.obligations.items t.standings.items t.proofs.items i k m n) → Holds raw f P s t.proofs.items k h.proof
  holds_at i k m n e h =
      let source = has i k m n e h in
      let r = right i m n h.proof.source h.obligation source h.asked in
      let goal : filled_goal s h.obligation.goal ≡ filled_goal s h.proof.goal = ap (λ g. filled_goal s g) (sym h.goal) in
      let asked = tree.selected i m n h.proof.source source in
      record {
        asks = filled_goals s t.obligations.items m n;
        source = subst (λ z. IsSource raw f P s z h.proof.source (filled_goals s t.obligations.items m n)) goal r.source;
        sized = subst (λ z. MayHaveSource raw f z) goal r.sized;
        children = are_proofs P s t.proofs.items k (filled_goals s t.obligations.items m n) h.proof.children (goals_long s t.obligations.items m n asked.within ∙ sym h.children.0) (λ j c q a b. child_of k m n j c h.proof.children q h.children a b);
      }

  pub proofs_of_tree : AreProofs raw f P s t.proofs.items
  proofs_of_tree k x e =
      let own = tree.owned k x e in
      let h = tree.proved own.0 k own.1 own.2 own.3 in
      subst (λ (y : Proof). Holds raw f P s t.proofs.items k y) (same_Some h.proof x (sym h.at ∙ e)) (holds_at own.0 k own.1 own.2 own.3 h)
