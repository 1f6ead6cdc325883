-- How a type reads once its aliases are replaced.
use Rattle.std.specs.Prelude.{◌≡◌, Bool, false, ◌||◌}
use Rattle.goal_answers.specs.Words.{TypeAliasId, Hole, Term, hole, leaf, pair, hole_eq, Respects}
use Rattle.hir_types.specs.declared.head.Head.TheVariants as head

-- what stands for each hole
abbrev pub Fill : Type 0
Fill = Hole → Term

-- what the first part of a pair makes of it: an alias that is still to be read, or a term of two parts
pub data Role : Type 0 where
  plain : Role
  alias : TypeAliasId → Role

abbrev pub role : Term → Role
role (leaf (head.Projection k)) = alias k
role _ = plain

-- an alias at these arguments, to be read
abbrev pub alias_at : TypeAliasId → Term → Term
alias_at k w = pair (leaf (head.Projection k)) w

-- an alias at these arguments that was read and stays
abbrev pub staying : TypeAliasId → Term → Term
staying k w = pair (leaf (head.AssociatedType k)) w

abbrev pub IsReadLeaf : Role → Type 0
IsReadLeaf plain = Unit {0}
IsReadLeaf (alias k) = ⊥

-- no alias is left to be read
abbrev pub IsRead : Term → Type 0
IsRead (hole k) = Unit {0}
IsRead (leaf h) = IsReadLeaf (role (leaf h))
IsRead (pair a b) = IsRead a × IsRead b

-- no alias stands for a hole that is still to be read, and kinds are respected
pub record IsFilling (s : Fill) : Type 0 where
  pub read : (k : Hole) → IsRead (s k)
  pub respects : Respects s

-- the hole stands in the term, and outside of aliases that are to be read
abbrev pub stands : Hole → Term → Bool
stands x (hole k) = hole_eq x k
stands x (leaf h) = false
stands x (pair a b) = elim (role a) [
  | plain ↦ stands x a || stands x b
  | alias k ↦ false
]

-- ---- reading

-- what an alias reads as, at arguments that are read
abbrev pub Aliases : Type 1
Aliases = TypeAliasId → Term → Term → Type 0

-- the term at `p` reads as `u`: from the inside out each alias as what it reads as. What stands for a hole is read
abbrev pub Reads : Aliases → Fill → Term → Term → Type 0
Reads A p (hole k) u = u ≡ p k
Reads A p (leaf h) u = IsReadLeaf (role (leaf h)) × (u ≡ leaf h)
Reads A p (pair a b) u = elim (role a) [
  | plain ↦ (x : Term) × (y : Term) × (u ≡ pair x y) × Reads A p a x × Reads A p b y
  | alias k ↦ (x : Term) × Reads A p b x × A k x u
]

-- whose holes stay
abbrev pub ReadsAs : Aliases → Term → Term → Type 0
ReadsAs A = Reads A hole

-- the same where an alias may read as anything
abbrev pub MayRead : Fill → Term → Term → Type 0
MayRead p (hole k) u = u ≡ p k
MayRead p (leaf h) u = u ≡ leaf h
MayRead p (pair a b) u = elim (role a) [
  | plain ↦ (x : Term) × (y : Term) × (u ≡ pair x y) × MayRead p a x × MayRead p b y
  | alias k ↦ Unit {0}
]
