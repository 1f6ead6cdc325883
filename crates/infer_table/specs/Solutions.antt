-- Bindings of holes, and the assignments that solve them.
use Rattle.std.specs.Prelude.{◌≡◌, Bool, true, false, ◌||◌, ◌++◌, if◌then◌else◌, List, [], ◌∷◌, Option, Some, None, slice_get, map}
use Rattle.infer_table.specs.Words.{Hole, HoleKind, Term, hole, apply, occurs, hole_eq, hole_number, IsInt, term, const_term}
use Rattle.hir_types.specs.declared.head.Hole.TheVariants as hole_of
use Rattle.hir_types.specs.declared.head.HoleKind.TheVariants as kind
use Rattle.infer_table.specs.declared.binding.Binding.{Binding}
use Rattle.infer_table.specs.declared.binding.Binding.TheVariants as binding

-- ---- over terms: bindings, the first made first

abbrev pub Log : Type 0
Log = List (Hole × Term)

abbrev pub single : Hole → Term → Hole → Term
single x u k = if hole_eq x k then u else hole k

-- the term with `u` in the place of the hole `x`
abbrev pub sub : Hole → Term → Term → Term
sub x u t = apply (single x u) t

-- the term with each binding put in
abbrev pub resolved : Log → Term → Term
resolved [] t = t
resolved (p ∷ l) t = resolved l (sub p.0 p.1 t)

-- what a hole is bound to
abbrev pub found : Log → Hole → Option Term
found [] k = None
found (p ∷ l) k = if hole_eq k p.0 then Some p.1 else found l k

abbrev pub binds : Log → Hole → Bool
binds [] k = false
binds (p ∷ l) k = hole_eq k p.0 || binds l k

-- each binding holds under `s`
abbrev pub Solves : (Hole → Term) → Log → Type 0
Solves s [] = Unit {0}
Solves s (p ∷ l) = (s p.0 ≡ apply s p.1) × Solves s l

-- a hole of integer types
abbrev pub IsIntHole : Hole → Type 0
IsIntHole (hole_of.Int n) = Unit {0}
IsIntHole _ = ⊥

-- integer holes stand for integer types
abbrev pub Respects : (Hole → Term) → Type 0
Respects s = (k : Hole) → IsIntHole k → IsInt (s k)

-- an integer hole is bound to an integer type
abbrev pub Kept : Hole → Term → Type 0
Kept x u = IsIntHole x → IsInt u

-- a hole that no binding names
abbrev pub Absent : Hole → Log → Type 0
Absent x [] = Unit {0}
Absent x (p ∷ l) = (hole_eq x p.0 ≡ false) × (occurs x p.1 ≡ false) × Absent x l

-- no cycle: a bound hole stands in no term that is bound at or after it; kinds are kept
abbrev pub Triangular : Log → Type 0
Triangular [] = Unit {0}
Triangular (p ∷ l) = (occurs p.0 p.1 ≡ false) × Kept p.0 p.1 × Absent p.0 l × Triangular l

-- no bound hole stands in the term
abbrev pub Free : Log → Term → Type 0
Free l t = (y : Hole) → binds l y ≡ true → occurs y t ≡ false

-- ---- what unifying comes to

-- exactly the assignments that solve `before` and make the two equal solve `after`
pub record Unified (before after : Log) (a b : Term) : Type 0 where
  pub grown : (l : Log) × (after ≡ before ++ l)
  pub keeps : (s : Hole → Term) → Solves s after → Solves s before
  pub unifies : (s : Hole → Term) → Solves s after → apply s a ≡ apply s b
  pub general : (s : Hole → Term) → Solves s before → apply s a ≡ apply s b → Solves s after

-- no assignment that respects kinds solves the bindings and makes the two equal
abbrev pub NoneUnifies : Log → Term → Term → Type 0
NoneUnifies before a b = (s : Hole → Term) → Respects s → Solves s before → apply s a ≡ apply s b → ⊥

abbrev pub UnifiedIf : Bool → Log → Log → Term → Term → Type 0
UnifiedIf true before after a b = Unified before after a b
UnifiedIf false before after a b = NoneUnifies before a b

-- ---- over types

abbrev pub entry : Binding → Hole × Term
entry (binding.Ty n t) = (hole_of.Ty n, term t)
entry (binding.Int n t) = (hole_of.Int n, term t)
entry (binding.Const n c) = (hole_of.Const n, const_term c)

abbrev pub log_of : List Binding → Log
log_of = map entry

-- ---- whose holes are of a table

abbrev pub hole_kind : Hole → HoleKind
hole_kind (hole_of.Ty n) = kind.Ty
hole_kind (hole_of.Int n) = kind.Int
hole_kind (hole_of.Const n) = kind.Const

-- the hole is one that was made, of this kind
abbrev pub IsOf : List HoleKind → Hole → Type 0
IsOf kinds k = slice_get kinds (hole_number k) ≡ Some (hole_kind k)

-- each hole of the term is
abbrev pub AreOf : List HoleKind → Term → Type 0
AreOf kinds t = (k : Hole) → occurs k t ≡ true → IsOf kinds k
