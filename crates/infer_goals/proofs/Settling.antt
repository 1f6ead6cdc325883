-- Obligations of one depth and those below it, which are settled in turn until nothing selects any.
use Rattle.std.proofs.Common.{◌≡◌, ◌⊎◌, inl, inr, ℕ, suc, ◌<◌, ◌≤◌, Bool, List, ◌++◌, length, sym, subst, arith}
use Rattle.infer_goals.specs.Words.{RawFacts, State, System, GoalTree, IsOpenAt, IsTree, IsLater}
use Rattle.infer_goals.specs.Own.{Obligations, Went, AreKept, IsAmong, AreWithin, AreBelow, AreAt, AreThere, KeepsOpen, AreAmongEither, ScansOpen, AreSettled, AreScanned}
use Rattle.infer_goals.proofs.Lists.{get_within, all_map, all_append, among_left, among_right}
use Rattle.infer_goals.proofs.Later.{later_long, open_within, open_before}
use Rattle.infer_goals.proofs.Steps.{went_none, went_then, went_later, stays_itself}
use Rattle.infer_goals.proofs.Scanning.{Is, at_later, are_settled_still, are_settled_both, below_or_not}

-- ---- bounds of depths

pub within_of_at : (t : GoalTree) (d : ℕ) (xs : List ℕ) → AreAt t d xs → AreWithin t d xs
within_of_at t d xs h = all_map (Is (λ n. n ≡ d) t) (Is (λ n. n ≤ d) t) (λ i x. (x.0, x.1, (let e = x.2 in omega (arith, e)))) xs h

pub within_of_below : (t : GoalTree) (d e : ℕ) → d ≤ suc e → (xs : List ℕ) → AreBelow t d xs → AreWithin t e xs
within_of_below t d e le xs h = all_map (Is (λ n. n < d) t) (Is (λ n. n ≤ e) t) (λ i x. (x.0, x.1, (let less = x.2 in omega (arith, less)))) xs h

-- ---- none is below

-- ---- rounds

-- what was listed or is new, and is open, is in one of two lists: one of this depth, one of what is below
pub record IsSettling (raw : RawFacts) (f : System) (bounded : Bool) (d : ℕ) (s : State) (o : Obligations) (xs : List ℕ) (s' : State) (o' : Obligations) (here below : List ℕ) : Type 0 where
  pub went : Went raw f bounded s o s' o'
  pub are_here : AreAt o'.tree d here
  pub are_below : AreBelow o'.tree d below
  pub all : (i : ℕ) → IsOpenAt o'.tree.standings.items i → (IsAmong xs i ⊎ (length o.tree.obligations.items ≤ i)) → IsAmong here i ⊎ IsAmong below i

-- what is below was settled once more
pub record IsSettledBelow (raw : RawFacts) (f : System) (bounded : Bool) (d : ℕ) (s : State) (o : Obligations) (below : List ℕ) (s' : State) (o' : Obligations) (below' : List ℕ) : Type 0 where
  pub went : Went raw f bounded s o s' o'
  pub are_below : AreBelow o'.tree d below'
  pub all : KeepsOpen o.tree below o'.tree below'
  pub settled : AreSettled raw f bounded s' o' below'

module _ (raw : RawFacts) (f : System) (bounded : Bool) (d : ℕ) where
  pub settling_first : (s : State) (o : Obligations) (xs here below : List ℕ) → IsTree o.tree → AreAt o.tree d here → AreBelow o.tree d below → AreAmongEither xs here below → IsSettling raw f bounded d s o xs s o here below
  settling_first s o xs here below tree is_here is_below either = record {
    went = went_none raw f bounded s o s o (stays_itself s o);
    are_here = is_here;
    are_below = is_below;
    all = λ i now h. elim h [
      | inl q ↦ either i q
      | inr from ↦ (let within = open_within o.tree i tree now in absurd (omega (arith, from, within)))
    ];
  }

  module _ (s : State) (o : Obligations) (xs : List ℕ) (s' : State) (o' : Obligations) (here below : List ℕ) (s'' : State) (o'' : Obligations) (below' : List ℕ) (z : State) (p : Obligations) (here' below'' : List ℕ)
      (tree' : IsTree o'.tree) (tree'' : IsTree o''.tree)
      (settling : IsSettling raw f bounded d s o xs s' o' here below) (settled : IsSettledBelow raw f bounded d s' o' below s'' o'' below') (scanned : AreScanned raw f bounded s'' o'' here below' z p here' below'') where
    abbrev u : GoalTree
    u = o'.tree

    abbrev v : GoalTree
    v = o''.tree

    abbrev w : GoalTree
    w = p.tree

    u_v : IsLater u v
    u_v = went_later raw f bounded s' o' s'' o'' settled.went

    v_w : IsLater v w
    v_w = went_later raw f bounded s'' o'' z p scanned.went

    scan : AreAt w d here' × AreBelow w d below'' × ScansOpen v here below' w here' below''
    scan = scanned.at d (at_later u v u_v d here settling.are_here) settled.are_below

    -- what is listed below afterwards
    then_below : (i : ℕ) → IsOpenAt w.standings.items i → i < length v.obligations.items → IsAmong below i ⊎ (length u.obligations.items ≤ i) → IsAmong below'' i
    then_below i now within h = (scan.2 i now).1 (inl (settled.all i (open_before v w tree'' v_w i within now) h))

    here_or_below : (i : ℕ) → IsOpenAt w.standings.items i → i < length u.obligations.items → IsAmong here i ⊎ IsAmong below i → IsAmong here' i ⊎ IsAmong below'' i
    here_or_below i now within (inl q) = inl ((scan.2 i now).0 q)
    here_or_below i now within (inr q) = inr (then_below i now (let long = later_long u v u_v in omega arith) (inl q))

    new_below : (i : ℕ) → IsOpenAt w.standings.items i → length u.obligations.items ≤ i → IsAmong below'' i
    new_below i now from = elim (below_or_not i (length v.obligations.items)) [
      | inl within ↦ then_below i now within (inr from)
      | inr behind ↦ (scan.2 i now).1 (inr behind)
    ]

    all : (i : ℕ) → IsOpenAt w.standings.items i → IsAmong xs i ⊎ (length o.tree.obligations.items ≤ i) → IsAmong here' i ⊎ IsAmong below'' i
    all i now h = elim (below_or_not i (length u.obligations.items)) [
      | inl within ↦
          let then_open = open_before v w tree'' v_w i (let long = later_long u v u_v in omega arith) now in
          here_or_below i now within (settling.all i (open_before u v tree' u_v i within then_open) h)
      | inr from ↦ inr (new_below i now from)
    ]

    pub settling_more : IsSettling raw f bounded d s o xs z p here' below''
    settling_more = record {
      went = went_then raw f bounded s o s' o' z p settling.went (went_then raw f bounded s' o' s'' o'' z p settled.went scanned.went);
      are_here = scan.0;
      are_below = scan.1;
      all = all;
    }

    -- where as many are left, all are settled
    pub settling_last : length here' ≡ length here → AreSettled raw f bounded z p (here' ++ below'')
    settling_last long =
        let h = scanned.settled long in
        let still = are_settled_still raw f bounded s'' o'' z p below' h.0 settled.settled in
        are_settled_both raw f bounded z p here' below'' h.3 (subst (λ ys. AreSettled raw f bounded z p ys) (sym h.2) still)

  module _ (s : State) (o : Obligations) (xs : List ℕ) (s' : State) (o' : Obligations) (here below : List ℕ) (settling : IsSettling raw f bounded d s o xs s' o' here below) where
    pub settling_within : AreWithin o'.tree d (here ++ below)
    settling_within = all_append (Is (λ n. n ≤ d) o'.tree) here below (within_of_at o'.tree d here settling.are_here) (within_of_below o'.tree d d (omega arith) below settling.are_below)

    pub settling_open : KeepsOpen o.tree xs o'.tree (here ++ below)
    settling_open i now h = elim (settling.all i now h) [
      | inl q ↦ among_left here below i q
      | inr q ↦ among_right here below i q
    ]

-- ---- all that is to be looked at

pub all_within : (raw : RawFacts) (f : System) (s : State) (o : Obligations) (xs : List ℕ) → AreKept raw f s o → AreThere o.tree xs → AreWithin o.tree raw.limits.goal_depth xs
all_within raw f s o xs kept within k i e =
    let there = get_within o.tree.obligations.items i (within k i e) in
    (there.0, there.1, kept.depths i there.0 there.1)
