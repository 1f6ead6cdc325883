-- Which source a goal is selected by: the only one that isn't refuted, clauses before rules and rows.
use Rattle.std.specs.Prelude.{◌≡◌, ℕ, zero, suc, ◌<◌, true, List, length, slice_get, Option, Some, None}
use Rattle.goal_answers.specs.Words.{Head, Term, hole, leaf, pair}
use Rattle.hir_types.specs.declared.head.Head.TheVariants as head
use Rattle.goal_answers.specs.Reading.{Aliases}
use Rattle.goal_answers.specs.Goals.{Kind, implements, projects, Asked, Rule, System, IsKnown, self_type, is_among, OneIf, Each, Verdicts}
use Rattle.goal_answers.specs.Rows.{with_parts, copied, types_of, CopyNo}
use Rattle.goal_answers.specs.Answers.{RuleIsRefuted, Proves, ShadowsNot, answers}
use Rattle.goal_answers.specs.Steps.{known_below}

-- what a goal is proved by: a clause or a rule, by its place; that the parts of its self type are copied; that this has a size
pub data Choice : Type 0 where
  by_clause : ℕ → Choice
  by_rule : ℕ → Choice
  by_parts : Choice
  by_size : Choice

-- ---- goals that are selected

abbrev pub IsConcreteHead : Head → Type 0
IsConcreteHead (head.Projection k) = ⊥
IsConcreteHead (head.Opaque o) = ⊥
IsConcreteHead (head.AssociatedType k) = ⊥
IsConcreteHead (head.Bound k) = ⊥
IsConcreteHead head.Error = ⊥
IsConcreteHead head.UnknownConst = ⊥
IsConcreteHead _ = Unit {0}

-- neither an alias, nor an opaque type, nor `{unknown}` is in the term
abbrev pub IsConcrete : Term → Type 0
IsConcrete (hole k) = Unit {0}
IsConcrete (leaf h) = IsConcreteHead h
IsConcrete (pair a b) = IsConcrete a × IsConcrete b

abbrev pub IsTraitKind : Kind → Type 0
IsTraitKind (implements t) = Unit {0}
IsTraitKind (projects k) = ⊥

-- a concrete goal about a trait, whose self type is no hole
pub record IsSelectable (g : Asked) : Type 0 where
  pub trait_ : IsTraitKind g.kind
  pub concrete : IsConcrete g.parts
  pub known : IsKnown g.parts

-- ---- the only source

-- the entry at the place is the only one that isn't out
pub record IsOnlyOf {X : Type 0} (Out : X → Type 0) (xs : List X) (i : ℕ) : Type 0 where
  pub within : i < length xs
  pub remains : (x : X) → slice_get xs i ≡ Some x → Out x → ⊥
  pub others : (j : ℕ) (x : X) → slice_get xs j ≡ Some x → (j ≡ i → ⊥) → Out x

-- its head is concrete, so that it can be made equal to the goal
abbrev pub HasConcreteHead : List Rule → ℕ → Type 0
HasConcreteHead rs i = (r : Rule) → slice_get rs i ≡ Some r → IsConcrete r.head.parts

-- the types among the parts of the self type, of which each has to be copied so that it is
pub record CopiesParts (f : System) (c : Kind) (w : Term) (ts : List Term) : Type 0 where
  pub among : is_among f.copied c ≡ true
  pub parts : Term
  pub copied : copied (self_type w) ≡ with_parts parts
  pub types : types_of parts ≡ Some ts

abbrev pub IsOnlySource : System → Aliases → Verdicts → Kind → Term → Choice → Type 0
IsOnlySource f A v c w (by_clause i) = IsOnlyOf (RuleIsRefuted A v c w) f.clauses i × HasConcreteHead f.clauses i
IsOnlySource f A v c w (by_rule i) =
    Each (ShadowsNot A v c w) f.clauses × CopyNo f v.No c w × IsOnlyOf (RuleIsRefuted A v c w) f.rules i × HasConcreteHead f.rules i
IsOnlySource f A v c w by_parts =
    Each (ShadowsNot A v c w) f.clauses × Each (RuleIsRefuted A v c w) f.rules × (CopyNo f v.No c w → ⊥)
    × ((ts : List Term) × CopiesParts f c w ts)
IsOnlySource f A v c w by_size = ⊥

-- ---- what has a size

-- its head, which is concrete, is the goal: one with an alias in it reads as the goal, but can't be made equal to it
abbrev pub StatesGoal : Aliases → Verdicts → Kind → Term → Rule → Type 0
StatesGoal A v c w r = Proves A v.Yes c w r × IsConcrete r.head.parts

-- the clause does
abbrev pub IsByClause : Aliases → Verdicts → Kind → Term → List Rule → ℕ → Type 0
IsByClause A v c w rs i = (r : Rule) × (slice_get rs i ≡ Some r) × StatesGoal A v c w r

-- that a type has a size binds nothing: a clause is the goal, or none is about it, and the walk along last fields says so
abbrev pub SizeIsBy : System → Aliases → Verdicts → Kind → Term → Choice → Type 0
SizeIsBy f A v c w (by_clause i) = IsByClause A v c w f.clauses i
SizeIsBy f A v c w (by_rule i) = ⊥
SizeIsBy f A v c w by_parts = ⊥
SizeIsBy f A v c w by_size = Each (ShadowsNot A v c w) f.clauses

-- ---- at a depth

-- at depth 0 nothing but sizes is answered
abbrev pub IsDeep : ℕ → Type 0
IsDeep zero = ⊥
IsDeep (suc n) = Unit {0}

-- what a goal is selected by
pub record Selects (f : System) (n : ℕ) (g : Asked) (by : Choice) : Type 0 where
  pub selectable : IsSelectable g
  pub source : OneIf (is_among f.sized g.kind) ((answers f n).Yes g × SizeIsBy f (answers f n).Alias (known_below f n) g.kind g.parts by)
      (IsDeep n × IsOnlySource f (answers f n).Alias (known_below f n) g.kind g.parts by)

-- it is this, or it is nothing
abbrev pub IsChoice : System → ℕ → Asked → Option Choice → Type 0
IsChoice f n g (Some by) = Selects f n g by
IsChoice f n g None = (by : Choice) → Selects f n g by → ⊥
