-- What is kept of obligations is kept of their copy.
use Rattle.std.proofs.Common.{◌≡◌, inl, inr, ℕ, ◌<◌, ◌≤◌, length, sym, ◌∙◌, subst}
use Rattle.std.specs.Prelude.{Some, slice_get}
use Rattle.infer_goals.specs.Words.{RawFacts, State, answers, System, asked_goal, known_goal, IsOpenAt, HasRightly}
use Rattle.infer_goals.proofs.Words.{copied_source, copied_tree}
use Rattle.infer_goals.specs.Own.{Obligations, IsAmong, Sleeps, ListsHoles, AreKept, IsAsleep, HasAllOf, HasAllOpen, IsCopied}

module _ (f : System) (o u : Obligations) (same : IsCopied o u) where
  pub copied_kept : (raw : RawFacts) (s : State) → u.selected ≤ raw.limits.goal_steps → AreKept raw f s o → AreKept raw f s u
  copied_kept raw s few kept = record {
    tree = copied_tree o.tree u.tree same.tree kept.tree;
    goals = λ i x e. kept.goals i x (subst (λ os. slice_get os i ≡ Some x) same.tree.obligations e);
    depths = λ i x e. kept.depths i x (subst (λ os. slice_get os i ≡ Some x) same.tree.obligations e);
    right = λ z filling meets i m n src x h e.
        subst (λ os. HasRightly raw f (answers f raw.limits.goal_depth).Alias z os x src m n) (sym same.tree.obligations)
        (kept.right z filling meets i m n src x (copied_source o.tree u.tree same.tree i m n src h) (subst (λ os. slice_get os i ≡ Some x) same.tree.obligations e));
    selected = few;
  }

  copied_asleep : (s : State) (i : ℕ) → IsAsleep f s o.tree o.asleep i → IsAsleep f s u.tree u.asleep i
  copied_asleep s i h = record {
    sleeps = subst (λ xs. Sleeps xs i) (sym same.asleep.asleep) h.sleeps;
    settled = λ x e. h.settled x (subst (λ os. slice_get os i ≡ Some x) same.tree.obligations e);
    listed = λ x e. subst (λ lists. ListsHoles lists (asked_goal (known_goal s x.goal)).parts i) (sym same.asleep.lists) (h.listed x (subst (λ os. slice_get os i ≡ Some x) same.tree.obligations e));
  }

  copied_since : (s : State) → HasAllOf f s o.tree o.asleep o.todo.items → HasAllOf f s u.tree u.asleep u.todo.items
  copied_since s since = record {
    seen = same.asleep.seen ∙ since.seen;
    all = λ i e. elim (since.all i (subst (λ ss. IsOpenAt ss i) same.tree.standings e)) [
      | inl q ↦ inl (subst (λ xs. IsAmong xs i) (sym same.todo) q)
      | inr q ↦ inr (copied_asleep s i q)
    ];
    within = λ k i e. subst (λ os. i < length os) (sym same.tree.obligations) (since.within k i (subst (λ xs. slice_get xs k ≡ Some i) same.todo e));
    few = subst (λ os. length u.asleep.asleep.items ≤ length os) (sym same.tree.obligations) (subst (λ xs. length xs ≤ length o.tree.obligations.items) (sym same.asleep.asleep) since.few);
  }

  pub copied_all : (s : State) → HasAllOpen f s o → HasAllOpen f s u
  copied_all s all = record { earlier = all.earlier; grew = all.grew; since = copied_since all.earlier all.since }
