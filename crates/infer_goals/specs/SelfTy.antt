-- Which goals a hole waits for: those about it that aren't answered Yes.
use Rattle.std.specs.Prelude.{◌≡◌, ◌⊎◌, ◌+◌, ◌++◌, ℕ, zero, suc, Bool, true, false, List, [], ◌∷◌, length, slice_get, Some}
use Rattle.infer_goals.specs.Words.{Goal, GenericArg, out-TraitRef, Ty, State, resolved_type, System, Answer, asked_goal, IsAnswer, Obligation, Standing, GoalTree, is_pending}
use Rattle.hir_types.specs.declared.goal.Goal.TheVariants as goal
use Rattle.hir_types.specs.declared.ty.GenericArg.TheVariants as arg
use Rattle.hir_types.specs.declared.ty.Ty.TheVariants as ty
use Rattle.infer_goals.specs.Words.goal_search.declared.answer.Answer.TheVariants as answer_of
use Rattle.goal_tree.specs.declared.obligation.Standing.TheVariants as standing_of
use Rattle.infer_goals.specs.Told.{resolved_goal}

-- ---- one goal

abbrev pub IsHole : Ty → Type 0
IsHole (ty.Var n) = Unit {0}
IsHole (ty.IntVar n) = Unit {0}
IsHole _ = ⊥

-- the arguments of the trait, the self type first
abbrev pub goal_args : Goal → List GenericArg
goal_args (goal.Trait r) = (out-TraitRef r).args
goal_args (goal.Projection k xs t) = xs

-- the first is this type, a hole
abbrev pub IsHoleFirst : Ty → List GenericArg → Type 0
IsHoleFirst v (arg.Ty t ∷ xs) = IsHole t × (t ≡ v)
IsHoleFirst v _ = ⊥

-- the goal's self type is this hole
abbrev pub IsAbout : Ty → Goal → Type 0
IsAbout v g = IsHoleFirst v (goal_args g)

-- the goal alone where it is about the hole, and else none
abbrev pub IsListedIfAbout : Ty → Goal → List Goal → Type 0
IsListedIfAbout v g gs = (IsAbout v g × (gs ≡ g ∷ [])) ⊎ ((IsAbout v g → ⊥) × (gs ≡ []))

-- ---- lists of numbered ones, one behind the other

-- these are the lists of `n` from number `m` on, put together
abbrev pub AreOfAll : (ℕ → List Goal → Type 0) → ℕ → ℕ → List Goal → Type 0
AreOfAll L m zero gs = gs ≡ []
AreOfAll L m (suc n) gs = (xs : List Goal) × (ys : List Goal) × AreOfAll L m n xs × L (m + n) ys × (gs ≡ xs ++ ys)

-- such a list came behind
abbrev pub Adds : (List Goal → Type 0) → List Goal → List Goal → Type 0
Adds L old new = (gs : List Goal) × L gs × (new ≡ old ++ gs)

-- ---- the tree of obligations

-- those that the source of an obligation asks for, where it has one: so many from this number on
abbrev pub children : Standing → ℕ × ℕ
children (standing_of.Open) = (0, 0)
children (standing_of.Selected src m n) = (m, n)
children (standing_of.Proved k m n) = (m, n)

abbrev pub HasChildren : List Standing → ℕ → ℕ × ℕ → Type 0
HasChildren ss i c = (z : Standing) × (slice_get ss i ≡ Some z) × (c ≡ children z)

-- the goal where it is about the hole, and then what its children list; nothing where it is answered Yes
abbrev pub IsListedAs : (ℕ → List Goal → Type 0) → Ty → Goal → Standing → Answer → List Goal → Type 0
IsListedAs L v g z answer_of.Yes gs = gs ≡ []
IsListedAs L v g z _ gs = (xs : List Goal) × (ys : List Goal) × IsListedIfAbout v g xs × AreOfAll L (children z).0 (children z).1 ys
    × (gs ≡ xs ++ ys)

-- the obligation of this number, with what is known of its holes, where its children list this
pub record IsListed (f : System) (n : ℕ) (s : State) (v : Ty) (t : GoalTree) (L : ℕ → List Goal → Type 0) (i : ℕ)
    (gs : List Goal) : Type 0 where
  pub obligation : Obligation
  pub standing : Standing
  pub answer : Answer
  pub asked : slice_get t.obligations.items i ≡ Some obligation
  pub came : slice_get t.standings.items i ≡ Some standing
  pub answered : IsAnswer f n (asked_goal (resolved_goal s obligation.goal)) answer
  pub listed : IsListedAs L v (resolved_goal s obligation.goal) standing answer gs

-- what an obligation lists, with those below it, down to so many levels
abbrev pub AreListed : System → ℕ → State → Ty → GoalTree → ℕ → ℕ → List Goal → Type 0
AreListed f n s v t zero i gs = gs ≡ []
AreListed f n s v t (suc d) i gs = IsListed f n s v t (AreListed f n s v t d) i gs

-- ---- pending goals

-- how many levels count, the pending goal being the first
abbrev pub levels : ℕ
levels = 5

abbrev pub AreListedIf : (List Goal → Type 0) → Bool → List Goal → Type 0
AreListedIf L true gs = L gs
AreListedIf L false gs = gs ≡ []

-- what an obligation lists where it is pending
pub record IsListedPending (f : System) (n : ℕ) (s : State) (v : Ty) (t : GoalTree) (i : ℕ) (gs : List Goal) : Type 0 where
  pub obligation : Obligation
  pub standing : Standing
  pub asked : slice_get t.obligations.items i ≡ Some obligation
  pub came : slice_get t.standings.items i ≡ Some standing
  pub listed : AreListedIf (AreListed f n s v t levels i) (is_pending obligation standing) gs

-- of each pending goal, in their order, what it lists for the hole that the type stands for
abbrev pub AreForSelfTy : System → ℕ → State → Ty → GoalTree → List Goal → Type 0
AreForSelfTy f n s v t gs = AreOfAll (IsListedPending f n s (resolved_type s v) t) 0 (length t.obligations.items) gs
