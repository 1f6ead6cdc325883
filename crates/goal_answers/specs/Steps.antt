-- What one step of a search finds.
use Rattle.std.specs.Prelude.{ℕ, zero, suc, List, Option, Some, None}
use Rattle.goal_answers.specs.Words.{TypeAliasId, Term}
use Rattle.goal_answers.specs.Reading.{Fill, Aliases, Reads}
use Rattle.goal_answers.specs.Goals.{Asked, Rule, System, asked_at, Each, IsToldBy, IsTold, Verdicts}
use Rattle.goal_answers.specs.Answers.{nothing, answers}

-- what is known after this many steps: nothing, or the answers at the depth before
abbrev pub known_below : System → ℕ → Verdicts
known_below f zero = nothing f
known_below f (suc n) = answers f n

-- the term at `p` reads as this, or as nothing
abbrev pub ReadingIs : Aliases → Fill → Term → Option Term → Type 0
ReadingIs A p t (Some u) = Reads A p t u
ReadingIs A p t None = (u : Term) → Reads A p t u → ⊥

abbrev pub AliasIs : Aliases → TypeAliasId → Term → Option Term → Type 0
AliasIs A k w (Some u) = A k w u
AliasIs A k w None = (u : Term) → A k w u → ⊥

-- at what stands for the rule's holes its part reads as `w`, and the predicates are Yes
pub record HoldsAt (A : Aliases) (v : Verdicts) (r : Rule) (t : Term) (qs : List Asked) (w : Term) (p : Fill) : Type 0 where
  pub told : IsTold r
  pub part : Reads A p t w
  pub preds : Each (λ q. v.Yes (asked_at p q)) qs

abbrev pub HoldsIf : Aliases → Verdicts → Rule → Term → List Asked → Term → Option Fill → Type 0
HoldsIf A v r t preds w (Some p) = HoldsAt A v r t preds w p
HoldsIf A v r t preds w None = (p : Fill) → HoldsAt A v r t preds w p → ⊥

-- the part of a rule that tells all: its head, its key
pub record Tells (r : Rule) (t : Term) (qs : List Asked) : Type 0 where
  pub itself : IsToldBy t t
  pub preds : Each (λ q. IsToldBy t q.parts) qs
