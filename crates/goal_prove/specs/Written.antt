-- Terms that are read, as those of types without holes; and the goals that can be proved.
use Rattle.std.specs.Prelude.{◌≡◌, List, map}
use Rattle.goal_prove.specs.Words.{TypeAliasId, Head, GenericArg, Ty, Term, hole, leaf, pair, chain, term, arg_term, Aliases, Kind, implements, projects}
use Rattle.hir_types.specs.declared.head.Head.TheVariants as head

-- no hole is in the term
abbrev pub IsWhole : Term → Type 0
IsWhole (hole k) = ⊥
IsWhole (leaf h) = Unit {0}
IsWhole (pair a b) = IsWhole a × IsWhole b

-- ---- as types

abbrev pub IsOfType : Term → Type 0
IsOfType u = (t : Ty) × (u ≡ term t)

abbrev pub AreOfArgs : Term → Type 0
AreOfArgs w = (xs : List GenericArg) × (w ≡ chain (map arg_term xs))

-- the parts of a goal of this kind
abbrev pub IsOfGoal : Kind → Term → Type 0
IsOfGoal (implements t) w = AreOfArgs w
IsOfGoal (projects k) w = (xs : List GenericArg) × (t : Ty) × (w ≡ pair (chain (map arg_term xs)) (term t))

-- a type, arguments, the parts of a goal, without holes
pub record IsGood (u : Term) : Type 0 where
  pub type : IsOfType u
  pub whole : IsWhole u

pub record AreGood (w : Term) : Type 0 where
  pub args : AreOfArgs w
  pub whole : IsWhole w

pub record IsGoodGoal (c : Kind) (w : Term) : Type 0 where
  pub goal : IsOfGoal c w
  pub whole : IsWhole w

-- what an alias reads as at such arguments is such a type
abbrev pub AliasIsGood : Aliases → Type 0
AliasIsGood A = (k : TypeAliasId) (w u : Term) → A k w u → AreGood w → IsGood u

-- ---- goals that can be proved

-- neither a `_` nor a bound, nor a principal or auto trait of a `dyn` type
abbrev pub IsWrittenHead : Head → Type 0
IsWrittenHead head.Hole = ⊥
IsWrittenHead head.ConstHole = ⊥
IsWrittenHead (head.Bound k) = ⊥
IsWrittenHead (head.Principal t) = ⊥
IsWrittenHead (head.AutoTrait t) = ⊥
IsWrittenHead _ = Unit {0}

-- the term is without holes, and such are its heads
abbrev pub IsWritten : Term → Type 0
IsWritten (hole k) = ⊥
IsWritten (leaf h) = IsWrittenHead h
IsWritten (pair a b) = IsWritten a × IsWritten b
