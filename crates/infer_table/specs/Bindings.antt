-- Holes that were made, and what they are bound to.
use Rattle.std.specs.Prelude.{◌≡◌, ℕ, false, if◌then◌else◌, List, [], ◌∷◌, Option, Some, None, slice_get, map, ◌++◌}
use Rattle.infer_table.specs.Words.{Hole, HoleKind, Term, hole_eq, hole_number, occurs, term, const_term}
use Rattle.hir_types.specs.declared.head.Hole.TheVariants as hole_of
use Rattle.infer_table.specs.declared.binding.Binding.{Binding}
use Rattle.infer_table.specs.declared.binding.Binding.TheVariants as binding
use Rattle.infer_table.specs.declared.bindings.Variable.{Variable}
use Rattle.infer_table.specs.Solutions.{log_of, Triangular, Free, Kept, IsOf, AreOf}

-- the kinds of the holes that were made, by their numbers, and the bindings, the earliest first
pub record Substitution : Type 0 where
  pub kinds : List HoleKind
  pub log : List Binding

abbrev pub kinds_of : List Variable → List HoleKind
kinds_of = map (λ v. v.kind)

-- the hole that is bound
abbrev pub bound_hole : Binding → Hole
bound_hole (binding.Ty n t) = hole_of.Ty n
bound_hole (binding.Int n t) = hole_of.Int n
bound_hole (binding.Const n c) = hole_of.Const n

-- what it is bound to, as a term
abbrev pub bound_term : Binding → Term
bound_term (binding.Ty n t) = term t
bound_term (binding.Int n t) = term t
bound_term (binding.Const n c) = const_term c

-- the binding of a hole
abbrev pub found_binding : List Binding → Hole → Option Binding
found_binding [] k = None
found_binding (b ∷ bs) k = if hole_eq k (bound_hole b) then Some b else found_binding bs k

-- a hole of types
abbrev pub IsTypeHole : Hole → Type 0
IsTypeHole (hole_of.Const n) = ⊥
IsTypeHole _ = Unit {0}

-- each bound hole was made, and each hole in what it is bound to
abbrev pub AllOf : List HoleKind → List Binding → Type 0
AllOf kinds [] = Unit {0}
AllOf kinds (b ∷ bs) = IsOf kinds (bound_hole b) × AreOf kinds (bound_term b) × AllOf kinds bs

-- each hole knows the place of its binding, and an open hole has none
pub record ArePlaced (variables : List Variable) (log : List Binding) : Type 0 where
  pub bound : (i : ℕ) (b : Binding) → slice_get log i ≡ Some b → (v : Variable)
      × (slice_get variables (hole_number (bound_hole b)) ≡ Some v) × (v.place ≡ Some i)
  pub placed : (n : ℕ) (v : Variable) (i : ℕ) → slice_get variables n ≡ Some v → v.place ≡ Some i → (b : Binding)
      × (slice_get log i ≡ Some b) × (hole_number (bound_hole b) ≡ n)

-- what holds of the bindings at any time: no cycle, holes that were made alone, look-up in one step
pub record IsKept (variables : List Variable) (log : List Binding) : Type 0 where
  pub acyclic : Triangular (log_of log)
  pub made : AllOf (kinds_of variables) log
  pub placed : ArePlaced variables log

abbrev pub no_bindings : Substitution
no_bindings = record { kinds = []; log = [] }

-- with one hole more
abbrev pub with_hole : Substitution → HoleKind → Substitution
with_hole s k = record s { kinds = s.kinds ++ k ∷ [] }

-- with one binding more
abbrev pub with_binding : Substitution → Binding → Substitution
with_binding s b = record s { log = s.log ++ b ∷ [] }

-- the binding may be added: its hole was made and is open, and stands not in what it is bound to, where
-- all holes were made and none is bound; and kinds are kept
pub record MayBind (s : Substitution) (b : Binding) : Type 0 where
  pub made : IsOf s.kinds (bound_hole b)
  pub is_open : found_binding s.log (bound_hole b) ≡ None
  pub holes_made : AreOf s.kinds (bound_term b)
  pub none_bound : Free (log_of s.log) (bound_term b)
  pub no_cycle : occurs (bound_hole b) (bound_term b) ≡ false
  pub kind_kept : Kept (bound_hole b) (bound_term b)
