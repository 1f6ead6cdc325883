-- Rounds of selection: what is to be looked at is settled, and those are woken of which that told more.
use Rattle.std.proofs.Common.{◌≡◌, inl, inr, ℕ, ◌-◌, ◌<◌, ◌≤◌, Bool, true, false, List, [], ◌∷◌, length, refl, sym, ap, ◌∙◌, subst, arith}
use Rattle.std.specs.Prelude.{Some, slice_get}
use Rattle.std.specs.List.{range_with_len}
use Rattle.infer_goals.specs.Words.{RawFacts, State, Meets, answers, Fill, IsFilling, System, GoalIsOf, Obligation, GoalTree, IsRight, IsTree}
use Rattle.infer_goals.proofs.Words.{grew_twice, grew_by_nothing}
use Rattle.infer_goals.specs.Own.{Obligations, Sleepers, AreSteps, Went, Stays, AreKept, KeepsOpen, AreUsedUp, AreSettled, NoneLeft, HasAllOf, HasAllSince, HasAllOpen, WakesAll, SleepsAll, AreThere, EndsRound}
use Rattle.infer_goals.proofs.Later.{later_long}
use Rattle.infer_goals.proofs.Sleeping.{all_settled, none_awake, open_of_all}
use Rattle.infer_goals.proofs.Steps.{went_none, went_then, went_grew, went_later}

-- ---- where the tree stays

pub kept_same : (raw : RawFacts) (f : System) (s : State) (o o' : Obligations) → o'.tree ≡ o.tree → o'.selected ≡ o.selected → AreKept raw f s o → AreKept raw f s o'
kept_same raw f s o o' tree selected kept =
    let Goals : GoalTree → Type 0 = λ t. (i : ℕ) (x : Obligation) → slice_get t.obligations.items i ≡ Some x → GoalIsOf s x.goal in
    let Depths : GoalTree → Type 0 = λ t. (i : ℕ) (x : Obligation) → slice_get t.obligations.items i ≡ Some x → x.depth ≤ raw.limits.goal_depth in
    let Right : GoalTree → Type 0 = λ t. (z : Fill) → IsFilling z → Meets z s → IsRight raw f (answers f raw.limits.goal_depth).Alias z t in
    record {
      tree = subst (λ (t : GoalTree). IsTree t) (sym tree) kept.tree;
      goals = subst Goals (sym tree) kept.goals;
      depths = subst Depths (sym tree) kept.depths;
      right = subst Right (sym tree) kept.right;
      selected = subst (λ n. n ≤ raw.limits.goal_steps) (sym selected) kept.selected;
    }

pub went_same : (raw : RawFacts) (f : System) (bounded : Bool) (s : State) (o : Obligations) (s' : State) (o' o'' : Obligations) → o''.tree ≡ o'.tree → o''.selected ≡ o'.selected → Went raw f bounded s o s' o' → Went raw f bounded s o s' o''
went_same raw f bounded s o s' o' o'' tree selected went = went_then raw f bounded s o s' o' s' o'' went (went_none raw f bounded s' o' s' o'' (record { table = refl; tree = tree; selected = selected }))

-- ---- where nothing was selected

no_steps : (raw : RawFacts) (f : System) (us : List (State × GoalTree)) (s : State) (t : GoalTree) (s' : State) (t' : GoalTree) → length us ≡ 0 → AreSteps raw f us s t s' t' → (s' ≡ s) × (t' ≡ t)
no_steps raw f [] s t s' t' none steps = steps
no_steps raw f (u ∷ us) s t s' t' none steps = absurd (omega (arith, none))

pub went_nowhere : (raw : RawFacts) (f : System) (s : State) (o : Obligations) (s' : State) (o' : Obligations) → Went raw f true s o s' o' → o'.selected ≡ o.selected → Stays s o s' o'
went_nowhere raw f s o s' o' went same =
    let count = went.selected in
    let none : length went.states ≡ 0 = omega (arith, count, same) in
    let stays = no_steps raw f went.states s o.tree s' o'.tree none went.steps in
    record { table = stays.0; tree = stays.1; selected = same }

went_more : (raw : RawFacts) (f : System) (s : State) (o : Obligations) (s' : State) (o' : Obligations) → Went raw f true s o s' o' → (o'.selected ≡ o.selected → ⊥) → o.selected < o'.selected
went_more raw f s o s' o' went other = (let count = went.selected in omega (arith, count, other))

-- ---- a round

module _ (raw : RawFacts) (f : System) (s : State) (o : Obligations) (s' : State) (o' : Obligations) (tree : IsTree o.tree) (since : HasAllSince f s o) (went : Went raw f true s o s' o')
    (there : AreThere o'.tree o'.todo.items) (keeps : KeepsOpen o.tree o.todo.items o'.tree o'.todo.items) (asleep : o'.asleep ≡ o.asleep) where
  since_then : HasAllSince f s o'
  since_then = subst (λ (z : Sleepers). HasAllOf f s o'.tree z o'.todo.items) (sym asleep)
      (all_settled f s o.tree o'.tree o.asleep o.todo.items o'.todo.items tree (went_later raw f true s o s' o' went) since keeps there)

  open_then : HasAllOpen f s' o'
  open_then = record { earlier = s; grew = went_grew raw f true s o s' o' went; since = since_then }

  -- more is to be looked at
  pub round_more : (o'' : Obligations) → (o'.selected ≡ o.selected → ⊥) → o''.selected ≡ o'.selected → WakesAll s' o' o'' → EndsRound raw f o s' o'' true
  round_more o'' other same wakes = (subst (λ n. o.selected < n) (sym same) (went_more raw f s o s' o' went other), wakes f open_then)

  module _ (same : o'.selected ≡ o.selected) where
    since_now : HasAllSince f s' o'
    since_now = subst (λ (z : State). HasAllSince f z o') (sym (went_nowhere raw f s o s' o' went same).table) since_then

    pub round_used : AreUsedUp raw true o' → EndsRound raw f o s' o' false
    round_used used = (record { earlier = s'; grew = grew_by_nothing s' s' refl; since = since_now }, inl used)

    -- nothing selects any more
    pub round_last : (o'' : Obligations) → (AreUsedUp raw true o' → ⊥) → AreSettled raw f true s' o' o'.todo.items → SleepsAll f s' o' o'' → o''.todo.items ≡ [] → EndsRound raw f o s' o'' false
    round_last o'' unused (inl used) sleeps none = absurd (unused used)
    round_last o'' unused (inr settled) sleeps none =
        let after = sleeps since_now settled in (
          record { earlier = s'; grew = grew_by_nothing s' s' refl; since = after },
          inr (none_awake f s' o''.tree o''.asleep o''.todo.items after none),
        )

-- ---- where all are looked at

module _ (raw : RawFacts) (f : System) (s : State) (o : Obligations) (s' : State) (o' : Obligations) (all : HasAllOpen f s o) (went : Went raw f false s o s' o')
    (keeps : KeepsOpen o.tree (range_with_len 0 (length o.tree.obligations.items - 0)) o'.tree o'.todo.items) where
  pub all_looked : AreThere o'.tree o'.todo.items → o'.asleep ≡ o.asleep → HasAllOpen f s' o'
  all_looked there asleep = record {
    earlier = all.earlier;
    grew = grew_twice all.earlier s s' all.grew (went_grew raw f false s o s' o' went);
    since = record {
      seen = ap (λ (z : Sleepers). z.seen) asleep ∙ all.since.seen;
      all = λ i now. inl (open_of_all o.tree o'.tree o'.todo.items keeps i now);
      within = there;
      few = (let e = ap (λ (z : Sleepers). length z.asleep.items) asleep in let few = all.since.few in let long = later_long o.tree o'.tree (went_later raw f false s o s' o' went) in omega (arith, e, few, long));
    };
  }

  pub none_looked : AreSettled raw f false s' o' o'.todo.items → NoneLeft raw f false s' o'
  none_looked (inl used) = inl used
  none_looked (inr settled) = inr (λ i now. settled i (open_of_all o.tree o'.tree o'.todo.items keeps i now))
