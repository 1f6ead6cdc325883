-- Obligations that are looked at, one after another.
use Rattle.std.proofs.Common.{◌≡◌, ◌⊎◌, inl, inr, ℕ, ◌-◌, ◌<◌, ◌≤◌, Bool, true, false, List, [], ◌∷◌, ◌++◌, length, sym, ap, ◌∙◌, subst, arith, length-append, append-nil}
use Rattle.std.specs.Prelude.{Some, slice_get, if◌then◌else◌}
use Rattle.std.specs.List.{range_with_len}
use Rattle.std.proofs.lemmas.Option.{slice_get_within}
use Rattle.infer_goals.specs.Words.{RawFacts, State, System, Obligation, GoalTree, IsOpenAt, IsTree, IsLater}
use Rattle.infer_goals.specs.Own.{Obligations, Stays, IsAmong, AreBelow, AreAt, ScansOpen, IsSettled, AreUsedUp, AreSettled, AreLower, new_numbers, StaysSettled, IsTried, IsVisited, AreScanned}
use Rattle.infer_goals.proofs.Lists.{get_within, All, all_map, all_left, all_append, all_one, all_last, at_among, among_either, among_left, among_right, among_last, among_one, among_range, in_range}
use Rattle.infer_goals.proofs.Later.{later_get, later_long, open_within, open_before}
use Rattle.infer_goals.proofs.Steps.{went_then, went_later, stays_then}

pub below_or_not : (i n : ℕ) → (i < n) ⊎ (n ≤ i)
below_or_not i n = grind arith

-- ---- depths

-- the obligation is there, and its depth is so
abbrev pub Is : (ℕ → Type 0) → GoalTree → ℕ → Type 0
Is P t i = (x : Obligation) × (slice_get t.obligations.items i ≡ Some x) × P x.depth

pub is_later : (P : ℕ → Type 0) (t u : GoalTree) → IsLater t u → (i : ℕ) → Is P t i → Is P u i
is_later P t u later i h = (h.0, later_get t u later i h.0 h.1, h.2)

pub is_within : (P : ℕ → Type 0) (t : GoalTree) (i : ℕ) → Is P t i → i < length t.obligations.items
is_within P t i h = slice_get_within t.obligations.items i h.0 h.1

all_later : (P : ℕ → Type 0) (t u : GoalTree) → IsLater t u → (xs : List ℕ) → All (Is P t) xs → All (Is P u) xs
all_later P t u later xs h = all_map (Is P t) (Is P u) (is_later P t u later) xs h

pub at_later : (t u : GoalTree) → IsLater t u → (d : ℕ) (xs : List ℕ) → AreAt t d xs → AreAt u d xs
at_later t u later d xs h = all_later (λ n. n ≡ d) t u later xs h

pub below_later : (t u : GoalTree) → IsLater t u → (d : ℕ) (xs : List ℕ) → AreBelow t d xs → AreBelow u d xs
below_later t u later d xs h = all_later (λ n. n < d) t u later xs h

-- what came behind is below
new_below : (t u : GoalTree) (at d : ℕ) → IsLater t u → AreLower t at u → Is (λ n. n ≡ d) t at → AreBelow u d (new_numbers t u)
new_below t u at d later lower h k i e =
    let r = in_range (length u.obligations.items - length t.obligations.items) (length t.obligations.items) k i e in
    let long = later_long t u later in
    let from = r.0 in
    let to = r.1 in
    let there = get_within u.obligations.items i (omega arith) in
    let less = lower h.0 h.1 i there.0 from there.1 in
    let depth = h.2 in
    (there.0, there.1, omega (arith, less, depth))

pub new_among : (t u : GoalTree) (i : ℕ) → IsTree u → IsLater t u → length t.obligations.items ≤ i → IsOpenAt u.standings.items i → IsAmong (new_numbers t u) i
new_among t u i tree later from now =
    let within = open_within u i tree now in
    let long = later_long t u later in
    among_range (length u.obligations.items - length t.obligations.items) (length t.obligations.items) i from (omega arith)

-- nothing came
pub none_new : (t u : GoalTree) → u ≡ t → new_numbers t u ≡ []
none_new t u e =
    let many = ap (λ (z : GoalTree). length z.obligations.items) e in
    let none : length u.obligations.items - length t.obligations.items ≡ 0 = omega arith in
    ap (range_with_len (length t.obligations.items)) none

-- ---- what is settled where nothing is done

pub settled_still : (f : System) (s : State) (o : Obligations) (s' : State) (o' : Obligations) (i : ℕ) → Stays s o s' o' → IsSettled f s o.tree i → IsSettled f s' o'.tree i
settled_still f s o s' o' i h settled =
    let a = subst (λ (z : State). IsSettled f z o.tree i) (sym h.table) settled in
    subst (λ (z : GoalTree). IsSettled f s' z i) (sym h.tree) a

pub are_settled_still : (raw : RawFacts) (f : System) (bounded : Bool) (s : State) (o : Obligations) (s' : State) (o' : Obligations) (xs : List ℕ) → Stays s o s' o' → AreSettled raw f bounded s o xs → AreSettled raw f bounded s' o' xs
are_settled_still raw f bounded s o s' o' xs h (inl used) = inl (used.0, h.selected ∙ used.1)
are_settled_still raw f bounded s o s' o' xs h (inr each) = inr (λ i a. settled_still f s o s' o' i h (each i a))

pub are_settled_both : (raw : RawFacts) (f : System) (bounded : Bool) (s : State) (o : Obligations) (xs ys : List ℕ) → AreSettled raw f bounded s o xs → AreSettled raw f bounded s o ys → AreSettled raw f bounded s o (xs ++ ys)
are_settled_both raw f bounded s o xs ys (inl used) b = inl used
are_settled_both raw f bounded s o xs ys (inr a) (inl used) = inl used
are_settled_both raw f bounded s o xs ys (inr a) (inr b) = inr (λ i h. elim (among_either xs ys i h) [
  | inl q ↦ a i q
  | inr q ↦ b i q
])

-- ---- one more

pub none_below : (t u : GoalTree) (below : List ℕ) → u ≡ t → below ≡ below ++ new_numbers t u
none_below t u below same = sym (ap (λ xs. below ++ xs) (none_new t u same) ∙ append-nil below)

module _ (raw : RawFacts) (f : System) (bounded : Bool) where
  -- the one that was looked at is left where nothing was done
  left_or_not : (s : State) (o : Obligations) (at : ℕ) (left : List ℕ) (s' : State) (o' : Obligations) (left' : List ℕ) (done : Bool) → IsTried raw f bounded s o at s' o' done → left' ≡ (if done then left else left ++ at ∷ [])
      → ((left' ≡ left) × (IsOpenAt o'.tree.standings.items at → ⊥)) ⊎ ((left' ≡ left ++ at ∷ []) × Stays s o s' o' × (AreUsedUp raw bounded o ⊎ IsSettled f s o.tree at))
  left_or_not s o at left s' o' left' true tried e = inl (e, tried)
  left_or_not s o at left s' o' left' false tried e = inr (e, tried.0, tried.1)

  settled_one : (s : State) (o : Obligations) (at : ℕ) → AreUsedUp raw bounded o ⊎ IsSettled f s o.tree at → AreSettled raw f bounded s o (at ∷ [])
  settled_one s o at (inl used) = inl used
  settled_one s o at (inr settled) = inr (λ i h. subst (λ j. IsSettled f s o.tree j) (among_one at i h) settled)

  module _ (s : State) (o : Obligations) (ys below : List ℕ) (s' : State) (o' : Obligations) (left below' : List ℕ) (s'' : State) (o'' : Obligations) (at : ℕ) (left' below'' : List ℕ)
      (tree' : IsTree o'.tree) (tree'' : IsTree o''.tree)
      (scanned : AreScanned raw f bounded s o ys below s' o' left below') (visited : IsVisited raw f bounded s' o' at below' left s'' o'' below'' left') where
    abbrev t : GoalTree
    t = o.tree

    abbrev u : GoalTree
    u = o'.tree

    abbrev v : GoalTree
    v = o''.tree

    t_u : IsLater t u
    t_u = went_later raw f bounded s o s' o' scanned.went

    u_v : IsLater u v
    u_v = went_later raw f bounded s' o' s'' o'' visited.went

    cases : ((left' ≡ left) × (IsOpenAt v.standings.items at → ⊥)) ⊎ ((left' ≡ left ++ at ∷ []) × Stays s' o' s'' o'' × (AreUsedUp raw bounded o' ⊎ IsSettled f s' u at))
    cases = left_or_not s' o' at left s'' o'' left' visited.done visited.tried visited.leaves

    fewer : length left' ≤ length (ys ++ at ∷ [])
    fewer =
        let few = scanned.fewer in
        let more = length-append ys (at ∷ []) in
        elim cases [
          | inl c ↦ (let e = ap length c.0 in omega (arith, few, more, e))
          | inr c ↦ (let e = ap length c.0 ∙ length-append left (at ∷ []) in omega (arith, few, more, e))
        ]

    -- what was open before, where it was there
    was_open : (i : ℕ) → i < length u.obligations.items → IsOpenAt v.standings.items i → IsOpenAt u.standings.items i
    was_open i within now = open_before u v tree' u_v i within now

    left_still : (i : ℕ) → IsAmong left i → IsAmong left' i
    left_still i h = elim cases [
      | inl c ↦ subst (λ xs. IsAmong xs i) (sym c.0) h
      | inr c ↦ subst (λ xs. IsAmong xs i) (sym c.0) (among_left left (at ∷ []) i h)
    ]

    left_one : (i : ℕ) → IsOpenAt v.standings.items i → at ≡ i → IsAmong left' i
    left_one i now same = elim cases [
      | inl c ↦ absurd (c.1 (subst (λ j. IsOpenAt v.standings.items j) (sym same) now))
      | inr c ↦ subst (λ xs. IsAmong xs i) (sym c.0) (subst (λ j. IsAmong (left ++ at ∷ []) j) same (among_last left at))
    ]

    below_still : (i : ℕ) → IsAmong below' i ⊎ IsAmong (new_numbers u v) i → IsAmong below'' i
    below_still i (inl h) = subst (λ xs. IsAmong xs i) (sym visited.adds) (among_left below' (new_numbers u v) i h)
    below_still i (inr h) = subst (λ xs. IsAmong xs i) (sym visited.adds) (among_right below' (new_numbers u v) i h)

    module _ (d : ℕ) (here : AreAt t d (ys ++ at ∷ [])) (low : AreBelow t d below) where
      abbrev here_before : AreAt t d ys
      here_before = all_left (Is (λ n. n ≡ d) t) ys (at ∷ []) here

      abbrev here_now : Is (λ n. n ≡ d) u at
      here_now = is_later (λ n. n ≡ d) t u t_u at (all_last (Is (λ n. n ≡ d) t) ys at here)

      prev : AreAt u d left × AreBelow u d below' × ScansOpen t ys below u left below'
      prev = scanned.at d here_before low

      left_at : AreAt v d left'
      left_at = elim cases [
        | inl c ↦ subst (AreAt v d) (sym c.0) (at_later u v u_v d left prev.0)
        | inr c ↦ subst (AreAt v d) (sym c.0) (all_append (Is (λ n. n ≡ d) v) left (at ∷ []) (at_later u v u_v d left prev.0) (all_one (Is (λ n. n ≡ d) v) at (is_later (λ n. n ≡ d) u v u_v at here_now)))
      ]

      below_low : AreBelow v d below''
      below_low = subst (AreBelow v d) (sym visited.adds) (all_append (Is (λ n. n < d) v) below' (new_numbers u v) (below_later u v u_v d below' prev.1) (new_below u v at d u_v visited.lower here_now))

      within_later : (i : ℕ) → i < length t.obligations.items → i < length u.obligations.items
      within_later i within = let long = later_long t u t_u in omega arith

      open_left : (i : ℕ) → IsOpenAt v.standings.items i → IsAmong (ys ++ at ∷ []) i → IsAmong left' i
      open_left i now h = elim (among_either ys (at ∷ []) i h) [
        | inl q ↦ (let there = is_within (λ n. n ≡ d) t i (at_among (Is (λ n. n ≡ d) t) ys i here_before q) in left_still i ((prev.2 i (was_open i (within_later i there) now)).0 q))
        | inr q ↦ left_one i now (among_one at i q)
      ]

      open_below : (i : ℕ) → IsOpenAt v.standings.items i → IsAmong below i ⊎ (length t.obligations.items ≤ i) → IsAmong below'' i
      open_below i now (inl q) =
          let there = is_within (λ n. n < d) t i (at_among (Is (λ n. n < d) t) below i low q) in
          below_still i (inl ((prev.2 i (was_open i (within_later i there) now)).1 (inl q)))
      open_below i now (inr q) = elim (below_or_not i (length u.obligations.items)) [
        | inl there ↦ below_still i (inl ((prev.2 i (was_open i there now)).1 (inr q)))
        | inr from ↦ below_still i (inr (new_among u v i tree'' u_v from now))
      ]

      listed : AreAt v d left' × AreBelow v d below'' × ScansOpen t (ys ++ at ∷ []) below v left' below''
      listed = (left_at, below_low, λ i now. (open_left i now, open_below i now))

    settled : StaysSettled raw f bounded s o (ys ++ at ∷ []) below s'' o'' left' below''
    settled long =
        let more = length-append ys (at ∷ []) in
        let few = scanned.fewer in
        elim cases [
          | inl c ↦ (let e = ap length c.0 in absurd (omega (arith, few, more, e, long)))
          | inr c ↦
              let e = ap length c.0 ∙ length-append left (at ∷ []) in
              let before = scanned.settled (omega (arith, more, e, long)) in
              let both = are_settled_both raw f bounded s' o' left (at ∷ []) before.3 (settled_one s' o' at c.2) in (
                stays_then s o s' o' s'' o'' before.0 c.1,
                c.0 ∙ ap (λ xs. xs ++ at ∷ []) before.1,
                visited.adds ∙ (sym (none_below u v below' c.1.tree) ∙ before.2),
                are_settled_still raw f bounded s' o' s'' o'' left' c.1 (subst (AreSettled raw f bounded s' o') (sym c.0) both),
              )
        ]

    pub scanned_more : AreScanned raw f bounded s o (ys ++ at ∷ []) below s'' o'' left' below''
    scanned_more = record {
      went = went_then raw f bounded s o s' o' s'' o'' scanned.went visited.went;
      fewer = fewer;
      at = listed;
      settled = settled;
    }
