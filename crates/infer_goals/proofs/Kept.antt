-- What is kept where one obligation is selected.
use Rattle.std.proofs.Common.{◌≡◌, inl, inr, ℕ, ◌+◌, ◌-◌, ◌≤◌, List, [], ◌∷◌, ◌++◌, length, map, take, drop, refl, sym, ap, ◌∙◌, subst, arith, length-drop}
use Rattle.std.specs.Prelude.{Some, slice_get}
use Rattle.std.proofs.lemmas.Option.{same_Some}
use Rattle.std.proofs.lemmas.List.{length-map, drop_at, take_all, drop-append-le, take-append-le}
use Rattle.infer_goals.specs.Words.{ExprOrPatId, Goal, RawFacts, State, Meets, IsFront, Fill, IsFilling, Aliases, Asked, System, Each, answers, ProofSource, filled_goal, IsSource, GoalIsOf, Obligation, GoalTree, IsTree, asked_by, IsAsked, filled_goals, HasRightly, IsRight}
use Rattle.infer_goals.proofs.Words.{each_get, source_back, asked_grows, back_get, mapped_get, get_more as push_get}
use Rattle.goal_tree.specs.Trees.{HasSource}
use Rattle.infer_goals.specs.Own.{Obligations, IsStep, AreKept, meets_earlier, goal_later}
use Rattle.infer_goals.proofs.Lists.{append_get}
use Rattle.infer_goals.proofs.Later.{later_get, source_one}

-- ---- goals as a filling fills them

-- what comes behind doesn't count
goals_of_front : (z : Fill) (os more : List Obligation) (m n : ℕ) → m + n ≤ length os → filled_goals z os m n ≡ filled_goals z (os ++ more) m n
goals_of_front z os more m n within =
    let few = length-drop m os in
    let dropped : drop m (os ++ more) ≡ drop m os ++ more = drop-append-le m os more (omega arith) in
    let taken : take n (drop m os ++ more) ≡ take n (drop m os) = take-append-le n (drop m os) more (omega arith) in
    ap (λ xs. map (λ (o : Obligation). filled_goal z o.goal) xs) (sym (ap (take n) dropped ∙ taken))

goals_asked : (z : Fill) (n : ExprOrPatId) (d p : ℕ) (gs : List Goal) → map (λ (o : Obligation). filled_goal z o.goal) (map (asked_by n d p) gs) ≡ map (filled_goal z) gs
goals_asked z n d p [] = refl
goals_asked z n d p (g ∷ gs) = ap (λ (qs : List Asked). filled_goal z g ∷ qs) (goals_asked z n d p gs)

-- those that were asked last
goals_of_last : (z : Fill) (os : List Obligation) (n : ExprOrPatId) (d p : ℕ) (gs : List Goal) → map (filled_goal z) gs ≡ filled_goals z (os ++ map (asked_by n d p) gs) (length os) (length gs)
goals_of_last z os n d p gs =
    let new = map (asked_by n d p) gs in
    let many : length new ≡ length gs = length-map gs (asked_by n d p) in
    let dropped : drop (length os) (os ++ new) ≡ new = drop_at os new (length os) refl in
    let taken : take (length gs) new ≡ new = take_all (length gs) new (omega arith) in
    sym (ap (λ xs. map (λ (o : Obligation). filled_goal z o.goal) xs) (ap (take (length gs)) dropped ∙ taken) ∙ goals_asked z n d p gs)

-- what has its source rightly has it so where obligations come behind
pub rightly_later : (raw : RawFacts) (f : System) (P : Aliases) (z : Fill) (t : GoalTree) (os : List Obligation) → IsFront t.obligations.items os → IsTree t → IsRight raw f P z t
    → (i m n : ℕ) (src : ProofSource) (y : Obligation) → HasSource t i src m n → slice_get os i ≡ Some y → HasRightly raw f P z os y src m n
rightly_later raw f P z t os front tree right i m n src y h e =
    let are = tree.selected i m n src h in
    let behind = are.behind in
    let within = are.within in
    let there : slice_get t.obligations.items i ≡ Some y = elim (back_get t.obligations.items front.0 i y (subst (λ zs. slice_get zs i ≡ Some y) front.1 e)) [
      | inl q ↦ q
      | inr q ↦ absurd (omega (arith, q, behind, within))
    ] in
    let r = right i m n src y h there in
    let same : filled_goals z t.obligations.items m n ≡ filled_goals z os m n = goals_of_front z t.obligations.items front.0 m n within ∙ ap (λ zs. filled_goals z zs m n) (sym front.1) in
    record {
      source = subst (λ qs. IsSource raw f P z (filled_goal z y.goal) src qs) same r.source;
      sized = r.sized;
      reads = r.reads;
    }

-- ---- one step

module _ (raw : RawFacts) (f : System) (s : State) (o : Obligations) (s' : State) (o' : Obligations) (kept : AreKept raw f s o) (step : IsStep raw f s o.tree s' o'.tree) where
  abbrev os : List Obligation
  os = o.tree.obligations.items

  abbrev gs : List Goal
  gs = step.made.preds.items

  abbrev x : Obligation
  x = step.obligation

  abbrev new : List Obligation
  new = map (asked_by x.node (x.depth - 1) step.at) gs

  abbrev P : Aliases
  P = (answers f raw.limits.goal_depth).Alias

  asked : o'.tree.obligations.items ≡ os ++ new
  asked = step.by.asked x step.listed

  -- an obligation that was there, or one of the new ones
  each_one : (Q : Obligation → Type 0) → ((i : ℕ) (y : Obligation) → slice_get os i ≡ Some y → Q y) → Each (λ g. Q (asked_by x.node (x.depth - 1) step.at g)) gs
      → (i : ℕ) (y : Obligation) → slice_get o'.tree.obligations.items i ≡ Some y → Q y
  each_one Q old fresh i y e = elim (append_get os new i y (subst (λ zs. slice_get zs i ≡ Some y) asked e)) [
    | inl q ↦ old i y q
    | inr q ↦ (let m = mapped_get (asked_by x.node (x.depth - 1) step.at) gs q.0 y q.1 in
        subst Q m.2 (each_get (λ g. Q (asked_by x.node (x.depth - 1) step.at g)) gs q.0 m.0 fresh m.1))
  ]

  goals_kept : (i : ℕ) (y : Obligation) → slice_get o'.tree.obligations.items i ≡ Some y → GoalIsOf s' y.goal
  goals_kept = each_one (λ y. GoalIsOf s' y.goal) (λ i y e. goal_later s s' step.selected.grew y.goal (kept.goals i y e)) step.selected.holes

  all_low : (d : ℕ) (n : ExprOrPatId) (e p : ℕ) (qs : List Goal) → e ≤ d → Each (λ g. (asked_by n e p g).depth ≤ d) qs
  all_low d n e p [] h = tt
  all_low d n e p (q ∷ qs) h = (h, all_low d n e p qs h)

  depths_kept : (i : ℕ) (y : Obligation) → slice_get o'.tree.obligations.items i ≡ Some y → y.depth ≤ raw.limits.goal_depth
  depths_kept =
      let low : x.depth ≤ raw.limits.goal_depth = kept.depths step.at x step.listed in
      each_one (λ y. y.depth ≤ raw.limits.goal_depth) kept.depths (all_low raw.limits.goal_depth x.node (x.depth - 1) step.at gs (omega (arith, low)))

  -- the one that was selected now
  right_now : (z : Fill) → IsFilling z → Meets z s' → HasRightly raw f P z o'.tree.obligations.items x step.made.source (length os) (length gs)
  right_now z filling meets =
      let r = step.selected.right z filling meets in
      let same : map (filled_goal z) gs ≡ filled_goals z o'.tree.obligations.items (length os) (length gs) = goals_of_last z os x.node (x.depth - 1) step.at gs ∙ ap (λ zs. filled_goals z zs (length os) (length gs)) (sym asked) in
      record {
        source = subst (λ qs. IsSource raw f P z (filled_goal z x.goal) step.made.source qs) same r.source;
        sized = r.sized;
        reads = r.readable;
      }

  right_here : (z : Fill) → IsFilling z → Meets z s' → (m n : ℕ) (src : ProofSource) (y : Obligation) → HasSource o'.tree step.at src m n → slice_get o'.tree.obligations.items step.at ≡ Some y → HasRightly raw f P z o'.tree.obligations.items y src m n
  right_here z filling meets m n src y h e =
      let zs = o'.tree.obligations.items in
      let one = source_one o'.tree step.at (length os) (length gs) m n step.made.source src step.by.source h in
      let same : x ≡ y = same_Some x y (sym (later_get o.tree o'.tree step.by.later step.at x step.listed) ∙ e) in
      let now = right_now z filling meets in
      let a = subst (λ k. HasRightly raw f P z zs x step.made.source k (length gs)) one.first now in
      let b = subst (λ k. HasRightly raw f P z zs x step.made.source m k) one.count a in
      let c = subst (λ k. HasRightly raw f P z zs x k m n) one.source b in
      subst (λ k. HasRightly raw f P z zs k src m n) same c

  right_kept : (z : Fill) → IsFilling z → Meets z s' → IsRight raw f P z o'.tree
  right_kept z filling meets i m n src y h e = elim (step.by.others i m n src h) [
    | inl q ↦ right_here z filling meets m n src y (subst (λ k. HasSource o'.tree k src m n) q h) (subst (λ k. slice_get o'.tree.obligations.items k ≡ Some y) q e)
    | inr q ↦ rightly_later raw f P z o.tree o'.tree.obligations.items (new, asked) kept.tree (kept.right z filling (meets_earlier s s' step.selected.grew z meets)) i m n src y q e
  ]

  pub kept_step : IsTree o'.tree → o'.selected ≤ raw.limits.goal_steps → AreKept raw f s' o'
  kept_step tree few = record {
    tree = tree;
    goals = goals_kept;
    depths = depths_kept;
    right = right_kept;
    selected = few;
  }

-- ---- one more

pub kept_asked : (raw : RawFacts) (f : System) (s : State) (o o' : Obligations) (x : Obligation) → IsTree o'.tree → IsAsked o.tree o'.tree (x ∷ []) → GoalIsOf s x.goal → x.depth ≤ raw.limits.goal_depth → o'.selected ≡ o.selected → AreKept raw f s o → AreKept raw f s o'
kept_asked raw f s o o' x tree asked goal depth few kept = record {
  tree = tree;
  goals = each (λ y. GoalIsOf s y.goal) goal kept.goals;
  depths = each (λ y. y.depth ≤ raw.limits.goal_depth) depth kept.depths;
  right = λ z filling meets i m n src y h e.
      rightly_later raw f (answers f raw.limits.goal_depth).Alias z o.tree o'.tree.obligations.items (x ∷ [], asked.obligations) kept.tree (kept.right z filling meets) i m n src y
      (source_back (λ i. ⊥) o.tree o'.tree (asked_grows o.tree o'.tree (x ∷ []) asked) i m n src (λ q. q) h) e;
  selected = subst (λ n. n ≤ raw.limits.goal_steps) (sym few) kept.selected;
}
  where
    each : (Q : Obligation → Type 0) → Q x → ((i : ℕ) (y : Obligation) → slice_get o.tree.obligations.items i ≡ Some y → Q y) → (i : ℕ) (y : Obligation) → slice_get o'.tree.obligations.items i ≡ Some y → Q y
    each Q here old i y e = elim (push_get o.tree.obligations.items x i y (subst (λ xs. slice_get xs i ≡ Some y) asked.obligations e)) [
      | inl q ↦ old i y q
      | inr q ↦ subst Q q.1 here
    ]
