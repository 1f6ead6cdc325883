-- What is listed for a hole, one obligation after another.
use Rattle.std.proofs.Common.{◌≡◌, inl, inr, ℕ, suc, ◌+◌, ◌-◌, ◌≤◌, true, false, Bool, List, [], ◌∷◌, ◌++◌, length, refl, sym, ap, subst, ◌∙◌, append_assoc, append-nil, arith}
use Rattle.std.specs.Prelude.{Some, slice_get}
use Rattle.infer_goals.specs.Words.{Goal, Ty, State, System, Answer, asked_goal, IsAnswer, Obligation, Standing, GoalTree, IsTree, is_pending}
use Rattle.infer_goals.specs.Words.goal_search.declared.answer.Answer.TheVariants as answer_of
use Rattle.goal_tree.specs.declared.obligation.Standing.TheVariants as standing_of
use Rattle.infer_goals.specs.Own.{resolved_goal, IsAbout, IsListedIfAbout, AreOfAll, Adds, children, IsListedAs, AreListed, AreListedIf, IsListedPending, levels}

-- ---- lists put together

pub adds_none : (L : List Goal → Type 0) (old : List Goal) → L [] → Adds L old old
adds_none L old l = ([], l, sym (append-nil old))

pub adds_both : (K L M : List Goal → Type 0) (old mid new : List Goal) → ((xs ys : List Goal) → K xs → L ys → M (xs ++ ys)) → Adds K old mid → Adds L mid new → Adds M old new
adds_both K L M old mid new both a b = (a.0 ++ b.0, both a.0 b.0 a.1 b.1, b.2 ∙ (ap (λ gs. gs ++ b.0) a.2 ∙ append_assoc old a.0 b.0))

pub adds_start : (L : ℕ → List Goal → Type 0) (m : ℕ) (old : List Goal) → Adds (AreOfAll L m (m - m)) old old
adds_start L m old =
    let none : 0 ≡ m - m = omega arith in
    adds_none (AreOfAll L m (m - m)) old (subst (λ n. AreOfAll L m n []) none refl)

-- with that of the next number
pub all_next : (L : ℕ → List Goal → Type 0) (m k : ℕ) (xs ys : List Goal) → m ≤ k → AreOfAll L m (k - m) xs → L k ys → AreOfAll L m (k + 1 - m) (xs ++ ys)
all_next L m k xs ys from all one =
    let here : m + (k - m) ≡ k = omega (arith, from) in
    let next : suc (k - m) ≡ k + 1 - m = omega (arith, from) in
    subst (λ n. AreOfAll L m n (xs ++ ys)) next (xs, ys, all, subst (λ i. L i ys) (sym here) one, refl)

pub adds_next : (L : ℕ → List Goal → Type 0) (m k : ℕ) (old mid new : List Goal) → m ≤ k → Adds (AreOfAll L m (k - m)) old mid → Adds (L k) mid new → Adds (AreOfAll L m (k + 1 - m)) old new
adds_next L m k old mid new from = adds_both (AreOfAll L m (k - m)) (L k) (AreOfAll L m (k + 1 - m)) old mid new (λ xs ys. all_next L m k xs ys from)

pub all_after : (L : ℕ → List Goal → Type 0) (k : ℕ) (old new : List Goal) → AreOfAll L 0 k old → Adds (L k) old new → AreOfAll L 0 (k + 1) new
all_after L k old new all add =
    let next : suc k ≡ k + 1 = omega arith in
    let here : k ≡ 0 + k = omega arith in
    subst (λ n. AreOfAll L 0 n new) next (old, add.0, all, subst (λ i. L i add.0) here add.1, add.2)

-- ---- one goal

pub is_about_added : (v : Ty) (g : Goal) (old : List Goal) → IsAbout v g → Adds (IsListedIfAbout v g) old (old ++ g ∷ [])
is_about_added v g old h = (g ∷ [], inl (h, refl), refl)

pub not_about_added : (v : Ty) (g : Goal) (old : List Goal) → (IsAbout v g → ⊥) → Adds (IsListedIfAbout v g) old old
not_about_added v g old none = adds_none (IsListedIfAbout v g) old (inr (none, refl))

-- ---- the tree

within_tree : (t : GoalTree) → IsTree t → (i : ℕ) (z : Standing) → slice_get t.standings.items i ≡ Some z → (children z).0 + (children z).1 ≤ length t.obligations.items
within_tree t tree i (standing_of.Open) e = omega arith
within_tree t tree i (standing_of.Selected src m n) e = (tree.selected i m n src (inl e)).within
within_tree t tree i (standing_of.Proved k m n) e =
    let p = tree.proved i k m n e in
    (tree.selected i m n p.proof.source (inr (record { number = k; proof = p.proof; proved = e; at = p.at; source = refl }))).within

pub children_within : (t : GoalTree) → IsTree t → (i : ℕ) (z : Standing) (c : ℕ × ℕ) → slice_get t.standings.items i ≡ Some z → c ≡ children z → c.0 + c.1 ≤ length t.obligations.items
children_within t tree i z c e is = subst (λ (d : ℕ × ℕ). d.0 + d.1 ≤ length t.obligations.items) (sym is) (within_tree t tree i z e)

listed_as : (L : ℕ → List Goal → Type 0) (v : Ty) (g : Goal) (z : Standing) (a : Answer) → (a ≡ answer_of.Yes → ⊥) → (xs ys : List Goal) → IsListedIfAbout v g xs → AreOfAll L (children z).0 (children z).1 ys → IsListedAs L v g z a (xs ++ ys)
listed_as L v g z answer_of.Yes not_yes xs ys h k = absurd (not_yes refl)
listed_as L v g z answer_of.No not_yes xs ys h k = (xs, ys, h, k, refl)
listed_as L v g z answer_of.Undecided not_yes xs ys h k = (xs, ys, h, k, refl)

-- what it lists where it isn't answered Yes
pub listed_adds : (f : System) (n : ℕ) (s : State) (v : Ty) (t : GoalTree) (d i : ℕ) (o : Obligation) (z : Standing) (a : Answer) (c : ℕ × ℕ) (old mid new : List Goal)
    → slice_get t.obligations.items i ≡ Some o → slice_get t.standings.items i ≡ Some z → c ≡ children z
    → IsAnswer f n (asked_goal (resolved_goal s o.goal)) a → (a ≡ answer_of.Yes → ⊥)
    → Adds (IsListedIfAbout v (resolved_goal s o.goal)) old mid → Adds (AreOfAll (AreListed f n s v t d) c.0 c.1) mid new → Adds (AreListed f n s v t (suc d) i) old new
listed_adds f n s v t d i o z a c old mid new asked came is answered not_yes one below =
    let L = AreListed f n s v t d in
    let g = resolved_goal s o.goal in
    adds_both (IsListedIfAbout v g) (AreOfAll L (children z).0 (children z).1) (AreListed f n s v t (suc d) i) old mid new
    (λ xs ys h k. record { obligation = o; standing = z; answer = a; asked = asked; came = came; answered = answered; listed = listed_as L v g z a not_yes xs ys h k })
    one (subst (λ (e : ℕ × ℕ). Adds (AreOfAll L e.0 e.1) mid new) is below)

-- where it is answered Yes
pub yes_adds : (f : System) (n : ℕ) (s : State) (v : Ty) (t : GoalTree) (d i : ℕ) (o : Obligation) (z : Standing) (a : Answer) (old : List Goal)
    → slice_get t.obligations.items i ≡ Some o → slice_get t.standings.items i ≡ Some z
    → IsAnswer f n (asked_goal (resolved_goal s o.goal)) a → a ≡ answer_of.Yes → Adds (AreListed f n s v t (suc d) i) old old
yes_adds f n s v t d i o z a old asked came answered e =
    let L = AreListed f n s v t d in
    let g = resolved_goal s o.goal in
    adds_none (AreListed f n s v t (suc d) i) old (record {
      obligation = o;
      standing = z;
      answer = a;
      asked = asked;
      came = came;
      answered = answered;
      listed = subst (λ (x : Answer). IsListedAs L v g z x []) (sym e) refl;
    })

-- ---- pending goals

pub pending_adds : (f : System) (n : ℕ) (s : State) (v : Ty) (t : GoalTree) (i : ℕ) (o : Obligation) (z : Standing) (old new : List Goal)
    → slice_get t.obligations.items i ≡ Some o → slice_get t.standings.items i ≡ Some z → is_pending o z ≡ true
    → Adds (AreListed f n s v t levels i) old new → Adds (IsListedPending f n s v t i) old new
pending_adds f n s v t i o z old new asked came is add = (
  add.0,
  record { obligation = o; standing = z; asked = asked; came = came; listed = subst (λ (b : Bool). AreListedIf (AreListed f n s v t levels i) b add.0) (sym is) add.1 },
  add.2,
)

pub other_adds : (f : System) (n : ℕ) (s : State) (v : Ty) (t : GoalTree) (i : ℕ) (o : Obligation) (z : Standing) (old : List Goal)
    → slice_get t.obligations.items i ≡ Some o → slice_get t.standings.items i ≡ Some z → is_pending o z ≡ false → Adds (IsListedPending f n s v t i) old old
other_adds f n s v t i o z old asked came is =
    adds_none (IsListedPending f n s v t i) old
    (record { obligation = o; standing = z; asked = asked; came = came; listed = subst (λ (b : Bool). AreListedIf (AreListed f n s v t levels i) b []) (sym is) refl })
