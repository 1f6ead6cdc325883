-- Obligations that have their sources rightly.
use Rattle.std.specs.Prelude.{◌≡◌, ℕ, List, map, take, drop, slice_get, Some}
use Rattle.goal_tree.specs.Words.{Term, RawFacts, Fill, Aliases, ReadsAs, Asked, System, ProofSource, filled_goal, IsSource, MayHaveSource}
use Rattle.goal_tree.specs.declared.obligation.Obligation.{Obligation}
use Rattle.goal_tree.specs.declared.tree.GoalTree.{GoalTree}
use Rattle.goal_tree.specs.Trees.{HasSource}

-- the goals of the `n` obligations from number `m` on, as `s` fills their holes
abbrev pub filled_goals : Fill → List Obligation → ℕ → ℕ → List Asked
filled_goals s os m n = map (λ o. filled_goal s o.goal) (take n (drop m os))

-- the goal reads as something, and has the source, which asks for the goals of those obligations
pub record HasRightly (raw : RawFacts) (f : System) (P : Aliases) (s : Fill) (os : List Obligation) (o : Obligation) (src : ProofSource)
    (m n : ℕ) : Type 0 where
  pub source : IsSource raw f P s (filled_goal s o.goal) src (filled_goals s os m n)
  pub sized : MayHaveSource raw f (filled_goal s o.goal)
  pub reads : (w : Term) × ReadsAs P (filled_goal s o.goal).parts w

-- each that has a source has it so
abbrev pub IsRight : RawFacts → System → Aliases → Fill → GoalTree → Type 0
IsRight raw f P s t = (i m n : ℕ) (src : ProofSource) (o : Obligation) → HasSource t i src m n → slice_get t.obligations.items i ≡ Some o
    → HasRightly raw f P s t.obligations.items o src m n
