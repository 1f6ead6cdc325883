-- What the steps of a search find.
use Rattle.std.specs.Prelude.{◌≡◌, ◌⊎◌, ◌+◌, ◌≤◌, ℕ, true, List, [], Option, Some, None}
use Rattle.goal_search.specs.Words.{AdtId, TypeAliasId, Hole, Term, occurs, Fill, IsRead, Aliases, staying, Kind, Asked, Rule, System, key, Each, OneOf, Verdicts, IsRefuted, Gives, GivesNone, CannotGive, HoldsAt, term_of, HasHeads}
use Rattle.goal_search.specs.declared.answer.Answer.{Answer}
use Rattle.goal_search.specs.declared.answer.Answer.TheVariants as answer
use Rattle.goal_search.specs.declared.rules.Side.{Side}
use Rattle.goal_search.specs.declared.rules.Side.TheVariants as side
use Rattle.goal_search.specs.declared.search.Given.{Given}
use Rattle.goal_search.specs.declared.search.Given.TheVariants as given

-- ---- terms of the search

-- no alias is left to be read, and what stands first in each pair is known
pub record IsDone (t : Term) : Type 0 where
  pub read : IsRead t
  pub heads : HasHeads t

abbrev pub FillsAreDone : Fill → Term → Type 0
FillsAreDone p t = (k : Hole) → occurs k t ≡ true → IsDone (p k)

-- the goal may be read with this for its holes
pub record PredIsDone (p : Fill) (q : Asked) : Type 0 where
  pub heads : HasHeads q.parts
  pub fills : FillsAreDone p q.parts

pub record RuleHasHeads (r : Rule) : Type 0 where
  pub head : HasHeads r.head.parts
  pub preds : Each (λ q. HasHeads q.parts) r.preds

pub record SystemHasHeads (f : System) : Type 0 where
  pub clauses : Each RuleHasHeads f.clauses
  pub rules : Each RuleHasHeads f.rules
  pub fields : (a : AdtId) (t : Term) → f.last_field a ≡ Some t → HasHeads t

-- ---- answers

-- the answer is Yes where the first holds, No where the second does, and else undecided
abbrev pub Decides : Type 0 → Type 0 → Answer → Type 0
Decides Y N answer.Yes = Y
Decides Y N answer.No = N
Decides Y N answer.Undecided = (Y → ⊥) × (N → ⊥)

-- the predicates are known as far as aliases are read, or a step further
abbrev pub IsLevelBelow : ℕ → ℕ → Type 0
IsLevelBelow depth steps = (depth ≤ steps) × (steps ≤ depth + 1)

-- ---- rules

abbrev pub side_part : Side → Rule → Term
side_part side.Whole r = r.head.parts
side_part side.Args r = key r.head.kind r.head.parts
side_part side.Key r = key r.head.kind r.head.parts

abbrev pub side_preds : Side → Rule → List Asked
side_preds side.Whole r = r.preds
side_preds side.Args r = r.preds
side_preds side.Key r = []

-- the rule is of the kind, and its part reads as `w` where its predicates are Yes
pub record Holds (A : Aliases) (v : Verdicts) (s : Side) (c : Kind) (w : Term) (r : Rule) : Type 0 where
  pub kind : r.head.kind ≡ c
  pub at : Fill
  pub holds : HoldsAt A v r (side_part s r) (side_preds s r) w at

abbrev pub HoldsNot : Aliases → Verdicts → Side → Kind → Term → Rule → Type 0
HoldsNot A v s c w r = (r.head.kind ≡ c → ⊥) ⊎ IsRefuted A v r (side_part s r) (side_preds s r) w

-- what rules give an alias: one gives a type, and no other gives any; none gives any; or neither
abbrev pub GivenIs : Verdicts → TypeAliasId → Term → List Rule → Given → Type 0
GivenIs v k w rs (given.One t) = OneOf (Gives v k w (term_of t)) (GivesNone v k w) rs
GivenIs v k w rs given.Nothing = Each (GivesNone v k w) rs
GivenIs v k w rs given.Open = ((u : Term) → OneOf (Gives v k w u) (GivesNone v k w) rs → ⊥) × (Each (GivesNone v k w) rs → ⊥)

-- ---- what may stay at first

abbrev pub StaysFirst : System → TypeAliasId → Term → Option Term → Type 0
StaysFirst f k w (Some u) = Each (CannotGive k w) f.clauses × Each (CannotGive k w) f.rules × (u ≡ staying k w)
StaysFirst f k w None = Each (CannotGive k w) f.clauses → Each (CannotGive k w) f.rules → ⊥
