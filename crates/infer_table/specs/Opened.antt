-- Aliases and `{unknown}`, which unification reads as holes of their own at each place.
use Rattle.std.specs.Prelude.{◌≡◌, ℕ, ◌+◌, true, List, [], ◌∷◌, ◌++◌}
use Rattle.std.proofs.Common.{◌⊎◌}
use Rattle.hir_types.specs.declared.head.Head.TheVariants as head
use Rattle.infer_table.specs.Words.{Hole, Term, hole, leaf, pair, occurs}
use Rattle.hir_types.specs.declared.head.Hole.TheVariants as hole_of

-- what a term is to unification
pub data Place : Type 0 where
  plain : Place
  alias : Place
  unknown_type : Place
  unknown_const : Place

-- by what stands outermost
abbrev pub place : Term → Place
place (pair (leaf (head.Projection id)) ts) = alias
place (pair (leaf (head.Opaque id)) ts) = alias
place (pair (leaf head.Error) ts) = unknown_type
place (pair (leaf head.UnknownConst) ts) = unknown_const
place _ = plain

-- neither an alias nor `{unknown}` stands in the term
abbrev pub IsPlain : Term → Type 0
IsPlain (hole k) = Unit {0}
IsPlain (leaf h) = Unit {0}
IsPlain (pair a b) = (place (pair a b) ≡ plain) × IsPlain a × IsPlain b

-- ---- reading each at each place as a hole of its own

-- `u` is the term under `s`, with anything in the place of each alias and each `{unknown}`
abbrev pub IsReadAs : (Hole → Term) → Term → Term → Type 0
IsReadAs s (hole k) u = s k ≡ u
IsReadAs s (leaf h) u = leaf h ≡ u
IsReadAs s (pair a b) u = elim (place (pair a b)) [
  | plain ↦ (v : Term) × (w : Term) × (u ≡ pair v w) × IsReadAs s a v × IsReadAs s b w
  | alias ↦ Unit {0}
  | unknown_type ↦ Unit {0}
  | unknown_const ↦ Unit {0}
]

-- ---- the same with numbered holes

-- the term with holes from number n on in these places, and the first number after them
abbrev pub opened : ℕ → Term → Term × ℕ
opened n (hole k) = (hole k, n)
opened n (leaf h) = (leaf h, n)
opened n (pair a b) = elim (place (pair a b)) [
  | plain ↦ (pair (opened n a).0 (opened (opened n a).1 b).0, (opened (opened n a).1 b).1)
  | alias ↦ (hole (hole_of.Ty n), n + 1)
  | unknown_type ↦ (hole (hole_of.Ty n), n + 1)
  | unknown_const ↦ (hole (hole_of.Const n), n + 1)
]

-- the holes that stand for aliases, each with its alias
abbrev pub origins : ℕ → Term → List (ℕ × Term)
origins n (hole k) = []
origins n (leaf h) = []
origins n (pair a b) = elim (place (pair a b)) [
  | plain ↦ origins n a ++ origins (opened n a).1 b
  | alias ↦ (n, pair a b) ∷ []
  | unknown_type ↦ []
  | unknown_const ↦ []
]

-- ---- what may be left different

-- an alias may differ from anything but a type hole that does not stand in it
abbrev pub MayDifferFrom : Term → Term → Type 0
MayDifferFrom a (hole (hole_of.Ty n)) = occurs (hole_of.Ty n) a ≡ true
MayDifferFrom a _ = Unit {0}

-- the term may differ from another, as an alias or `{unknown}`
abbrev pub MayDiffer : Term → Term → Type 0
MayDiffer a b = elim (place a) [
  | plain ↦ ⊥
  | alias ↦ MayDifferFrom a b
  | unknown_type ↦ Unit {0}
  | unknown_const ↦ Unit {0}
]

-- the two differ only at places where one is `{unknown}` or an alias
abbrev pub Agree : Term → Term → Type 0
Agree (pair a b) (pair c d) = MayDiffer (pair a b) (pair c d) ⊎ MayDiffer (pair c d) (pair a b) ⊎ (Agree a c × Agree b d)
Agree a b = MayDiffer a b ⊎ MayDiffer b a ⊎ (a ≡ b)
