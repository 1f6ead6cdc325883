-- What stays of a tree where one of its obligations is selected.
use Rattle.std.proofs.Common.{◌≡◌, ◌⊎◌, inl, inr, ℕ, ◌+◌, ◌-◌, ◌<◌, ◌≤◌, List, [], ◌++◌, length, map, refl, sym, ap, ◌∙◌, subst, arith, length-append, length-set, append-nil}
use Rattle.std.specs.Prelude.{Some, slice_get, slice_set}
use Rattle.std.proofs.lemmas.Option.{same_Some, slice_get_within}
use Rattle.std.proofs.lemmas.List.{length-map}
use Rattle.goal_tree.specs.Words.{ExprOrPatId, Goal, ProofSource}
use Rattle.goal_tree.specs.Own.{Obligation, Standing, GoalTree, IsOpenAt, IsSelectedAt, IsWaitingAt, HasSource, AreAskedBy, IsAskedBy, IsTreeBut, IsTree, asked_by, IsAsked, IsMoreProved, IsLater, IsSelectedBy}
use Rattle.goal_tree.specs.declared.obligation.Standing.TheVariants as standing
use Rattle.goal_tree.proofs.Standings.{same_or_not, set_other, more_get, new_get, selected_proved, same_standing}
use Rattle.goal_tree.proofs.Words.{get_set_same as set_same, get_left as front_get}
use Rattle.goal_tree.proofs.Growing.{Grows, asked_as_many, source_on, source_back, proved_on, grown_tree}
use Rattle.goal_tree.proofs.Proving.{later_then}

-- it was open, and its source asks for the goals that were asked last
pub record Selects (t u : GoalTree) (at : ℕ) : Type 0 where
  pub source : ProofSource
  pub goals : List Goal
  pub node : ExprOrPatId
  pub depth : ℕ
  pub tree : IsTree t
  pub was_open : IsOpenAt t.standings.items at
  pub asked : GoalTree
  pub asks : IsAsked t asked (map (asked_by node depth at) goals)
  pub obligations : u.obligations.items ≡ asked.obligations.items
  pub standings : u.standings.items ≡ slice_set asked.standings.items at (standing.Selected source (length t.obligations.items) (length goals))
  pub proofs : u.proofs.items ≡ asked.proofs.items

module _ (t u : GoalTree) (at : ℕ) (g : Selects t u at) where
  obligations_are : u.obligations.items ≡ t.obligations.items ++ map (asked_by g.node g.depth at) g.goals
  obligations_are = g.obligations ∙ g.asks.obligations

  within : at < length t.obligations.items
  within = subst (λ n. at < n) g.tree.as_many (slice_get_within t.standings.items at standing.Open g.was_open)

  asked_get : (i : ℕ) (s : Standing) → slice_get t.standings.items i ≡ Some s → slice_get g.asked.standings.items i ≡ Some s
  asked_get i s e = subst (λ ss. slice_get ss i ≡ Some s) (sym g.asks.standings) (front_get t.standings.items _ i s e)

  here : IsSelectedAt u.standings.items at g.source (length t.obligations.items) (length g.goals)
  here = ap (λ ss. slice_get ss at) g.standings ∙ set_same g.asked.standings.items at (standing.Selected g.source (length t.obligations.items) (length g.goals)) (slice_get_within g.asked.standings.items at standing.Open (asked_get at standing.Open g.was_open))

  elsewhere : (i : ℕ) → (i ≡ at → ⊥) → slice_get u.standings.items i ≡ slice_get g.asked.standings.items i
  elsewhere i other = ap (λ ss. slice_get ss i) g.standings ∙ set_other g.asked.standings.items at i (standing.Selected g.source (length t.obligations.items) (length g.goals)) other

  not_proved : (i k m n : ℕ) → i ≡ at → slice_get u.standings.items i ≡ Some (standing.Proved k m n) → ⊥
  not_proved i k m n q e = selected_proved g.source (length t.obligations.items) (length g.goals) k m n
      (same_standing u.standings.items at (standing.Selected g.source (length t.obligations.items) (length g.goals)) (standing.Proved k m n) here (subst (λ j. slice_get u.standings.items j ≡ Some (standing.Proved k m n)) q e))

  stood : (i : ℕ) (s : Standing) → (i ≡ at → ⊥) → slice_get u.standings.items i ≡ Some s → (slice_get t.standings.items i ≡ Some s) ⊎ (standing.Open ≡ s)
  stood i s other e = elim (more_get (λ (o : Obligation). standing.Open) t.standings.items (map (asked_by g.node g.depth at) g.goals) i s (ap (λ ss. slice_get ss i) (sym g.asks.standings) ∙ (sym (elsewhere i other) ∙ e))) [
    | inl q ↦ inl q
    | inr q ↦ inr q.1.1
  ]

  grows : Grows (λ i. i ≡ at) t u
  grows = record {
    obligations = (map (asked_by g.node g.depth at) g.goals, obligations_are);
    proofs = g.proofs ∙ g.asks.proofs;
    was_open = λ i q. subst (λ j. IsOpenAt t.standings.items j) (sym q) g.was_open;
    no_proof = not_proved;
    stays = λ i s other e. elsewhere i other ∙ asked_get i s e;
    stood = stood;
  }

  many : length u.obligations.items ≡ length t.obligations.items + length g.goals
  many =
      let e = ap length obligations_are in
      let mapped : length (map (asked_by g.node g.depth at) g.goals) ≡ length g.goals = length-map g.goals (asked_by g.node g.depth at) in
      omega (arith, length-append t.obligations.items (map (asked_by g.node g.depth at) g.goals))

  as_many : length u.standings.items ≡ length u.obligations.items
  as_many = ap length g.standings ∙ length-set g.asked.standings.items at (standing.Selected g.source (length t.obligations.items) (length g.goals)) ∙ asked_as_many t g.asked (map (asked_by g.node g.depth at) g.goals) g.tree g.asks ∙ ap length (sym g.obligations)

  new_one : (i : ℕ) (o : Obligation) → length t.obligations.items ≤ i → slice_get u.obligations.items i ≡ Some o → o.parent ≡ Some at
  new_one i o from e = elim (more_get (asked_by g.node g.depth at) t.obligations.items g.goals i o (subst (λ os. slice_get os i ≡ Some o) obligations_are e)) [
    | inl q ↦ (let w = slice_get_within t.obligations.items i o q in absurd (omega arith))
    | inr q ↦ ap (λ (o : Obligation). o.parent) (sym q.1.1)
  ]

  asked_here : (i : ℕ) (o : Obligation) → length t.obligations.items ≤ i → slice_get u.obligations.items i ≡ Some o → IsAskedBy u.standings.items i at
  asked_here i o from e =
      let w = slice_get_within u.obligations.items i o e in
      let n = many in
      let low = within in
      record {
        before = omega arith;
        by = inl (g.source, length t.obligations.items, length g.goals, here, from, omega arith);
      }

  new_parents : (i p : ℕ) (o : Obligation) → length t.obligations.items ≤ i → slice_get u.obligations.items i ≡ Some o → o.parent ≡ Some p → IsAskedBy u.standings.items i p
  new_parents i p o from e parent =
      let same : at ≡ p = same_Some at p (sym (new_one i o from e) ∙ parent) in
      subst (λ x. IsAskedBy u.standings.items i x) same (asked_here i o from e)

  are_asked : AreAskedBy u.obligations.items at (length t.obligations.items) (length g.goals)
  are_asked = record {
    behind = within;
    within = (let n = many in omega arith);
    name_it = λ j o from to e. new_one j o from e;
  }

  asked_as : (m n : ℕ) (src : ProofSource) → HasSource u at src m n → AreAskedBy u.obligations.items at m n
  asked_as m n src (inl h) =
      let e : standing.Selected g.source (length t.obligations.items) (length g.goals) ≡ standing.Selected src m n = same_standing u.standings.items at (standing.Selected g.source (length t.obligations.items) (length g.goals)) (standing.Selected src m n) here h in
      let first : length t.obligations.items ≡ m = cc in
      let count : length g.goals ≡ n = cc in
      subst (λ y. AreAskedBy u.obligations.items at m y) count (subst (λ x. AreAskedBy u.obligations.items at x (length g.goals)) first are_asked)
  asked_as m n src (inr h) = absurd (not_proved at h.number m n refl h.proved)

  pub selected_tree : IsTreeBut (λ i. i ≡ at) u
  selected_tree = grown_tree (λ i. i ≡ at) t u grows g.tree as_many new_parents (λ i m n src h. elim (same_or_not i at) [
    | inl q ↦ inr (subst (λ j. AreAskedBy u.obligations.items j m n) (sym q) (asked_as m n src (subst (λ j. HasSource u j src m n) q h)))
    | inr q ↦ inl q
  ])

  pub selected_waits : IsWaitingAt u.standings.items at
  selected_waits = (g.source, length t.obligations.items, length g.goals, here)

  others : (i m n : ℕ) (src : ProofSource) → HasSource u i src m n → (i ≡ at) ⊎ HasSource t i src m n
  others i m n src h = elim (same_or_not i at) [
    | inl q ↦ inl q
    | inr q ↦ inr (source_back (λ i. i ≡ at) t u grows i m n src q h)
  ]

  later : IsLater t u
  later = record {
    obligations = (map (asked_by g.node g.depth at) g.goals, obligations_are);
    sources = source_on (λ i. i ≡ at) t u grows;
    proved = proved_on (λ i. i ≡ at) t u grows;
    proofs = ([], g.proofs ∙ (g.asks.proofs ∙ sym (append-nil t.proofs.items)));
  }

  new_open : (i : ℕ) → length t.obligations.items ≤ i → i < length u.obligations.items → IsOpenAt u.standings.items i
  new_open i from to =
      let low = within in
      let n = many in
      let same = g.tree.as_many in
      let mapped : length (map (asked_by g.node g.depth at) g.goals) ≡ length g.goals = length-map g.goals (asked_by g.node g.depth at) in
      let other = λ (q : i ≡ at). (let no : ⊥ = absurd (omega (arith, q, low, from)) in no) in
      elsewhere i other ∙ (ap (λ ss. slice_get ss i) g.asks.standings ∙ new_get standing.Open t.standings.items (map (asked_by g.node g.depth at) g.goals) i (omega arith) (omega arith))

  pub selected_by : (v : GoalTree) (asking : Obligation) → slice_get t.obligations.items at ≡ Some asking → asking.node ≡ g.node → asking.depth - 1 ≡ g.depth → IsMoreProved u v → IsSelectedBy t v at g.source g.goals
  selected_by v asking at_asking node depth more = record {
    later = later_then t u v later more.later;
    source = more.later.sources at (length t.obligations.items) (length g.goals) g.source (inl here);
    asked = λ o e. (let same : asking ≡ o = same_Some asking o (sym at_asking ∙ e) in
        more.obligations ∙ (obligations_are ∙ (ap (λ n. t.obligations.items ++ map (asked_by n g.depth at) g.goals) (sym node ∙ ap (λ (o : Obligation). o.node) same)
        ∙ ap (λ d. t.obligations.items ++ map (asked_by o.node d at) g.goals) (sym depth ∙ ap (λ (o : Obligation). o.depth - 1) same))));
    others = λ i m n src h. others i m n src (more.sources i m n src h);
    still_open = λ i other e. more.still_open i (elsewhere i other ∙ asked_get i standing.Open e);
    new_open = λ i from to. more.still_open i (new_open i from (subst (λ n. i < n) (ap length more.obligations) to));
  }
