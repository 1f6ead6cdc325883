-- What each associated type that a node's rule uses was found to be, as a table lists it, and what is left of them in its types: no order
-- of the nodes, no state.
use Rattle.std.specs.Prelude.{◌≡◌, ◌⊎◌, ℕ, List, map, slice_get, Some}
use Rattle.infer_result.specs.Words.{TypeAliasId, GenericArg, Ty, Term, hole, leaf, pair, chain, term, arg_term, answers, Asked, System, projects, args_of, type_of, IsRead, ReadsAs, staying, asked_goal, TypeReads}
use Rattle.hir_types.specs.declared.goal.Goal.TheVariants as goal
use Rattle.hir_types.specs.declared.ty.Ty.TheVariants as ty
use Rattle.infer_result.specs.declared.result.InferenceResult.{InferenceResult}
use Rattle.infer_result.specs.Proved.{HoldsUnknown, HoldsNoHole, IsProved}

-- the associated type at these arguments is listed as this type
abbrev pub IsListedAs : List (Ty × Ty) → TypeAliasId → List GenericArg → Ty → Type 0
IsListedAs js k xs t = (n : ℕ) × (slice_get js n ≡ Some (ty.Projection k xs, t))

-- there is an entry, and the goal asks for what it says
abbrev pub HasEntry : List (Ty × Ty) → Asked → Type 0
HasEntry js a = (k : TypeAliasId) × (xs : List GenericArg) × (t : Ty) × IsListedAs js k xs t × (asked_goal (goal.Projection k xs t) ≡ a)

-- an associated type that was read and stays, at these arguments
abbrev pub stays_at : TypeAliasId → List GenericArg → Term
stays_at k xs = staying k (chain (map arg_term xs))

-- the goal reads as the other at the depth, each associated type in it as what it is
pub record GoalReads (f : System) (n : ℕ) (a b : Asked) : Type 0 where
  pub kind : b.kind ≡ a.kind
  pub parts : ReadsAs (answers f n).Alias a.parts b.parts

-- the goal asks an associated type to be another type than itself, and `{unknown}` doesn't stand in it
pub record IsAboutAlias (a : Asked) : Type 0 where
  pub alias : TypeAliasId
  pub is : a.kind ≡ projects alias
  pub known : HoldsUnknown a.parts → ⊥
  pub other : type_of a.parts ≡ staying alias (args_of a.parts) → ⊥

-- the entry has an associated type first, and then another type that it has a proof to be, as such a goal asks, without holes. No
-- associated type is left to be read in its arguments, nor in the second: so no projection stands in either
pub record IsFound (r : InferenceResult) (x : Ty × Ty) : Type 0 where
  pub alias : TypeAliasId
  pub args : List GenericArg
  pub is : x.0 ≡ ty.Projection alias args
  pub proved : IsProved r (asked_goal (goal.Projection alias args x.1))
  pub read : IsRead (asked_goal (goal.Projection alias args x.1)).parts
  pub known : HoldsUnknown (asked_goal (goal.Projection alias args x.1)).parts → ⊥
  pub other : term x.1 ≡ stays_at alias args → ⊥
  pub whole : HoldsNoHole (asked_goal (goal.Projection alias args x.1)).parts

-- so is each entry, and each associated type has one
pub record AreFound (r : InferenceResult) : Type 0 where
  pub each : (n : ℕ) (x : Ty × Ty) → slice_get r.projections n ≡ Some x → IsFound r x
  pub once : (j k : ℕ) (x y : Ty × Ty) → slice_get r.projections j ≡ Some x → slice_get r.projections k ≡ Some y → x.0 ≡ y.0 → j ≡ k

-- ---- what is left in types

-- the first term stands in the other, or is it
abbrev pub IsPartOf : Term → Term → Type 0
IsPartOf x (hole k) = ⊥
IsPartOf x (leaf h) = ⊥
IsPartOf x (pair a b) = (x ≡ pair a b) ⊎ (IsPartOf x a ⊎ IsPartOf x b)

-- whatever the associated type reads as at the depth: it stays, or it is listed as that, or `{unknown}` stands in one of them
abbrev pub StaysOrIsListed : System → ℕ → List (Ty × Ty) → TypeAliasId → List GenericArg → Type 0
StaysOrIsListed f n js k xs =
    (u : Ty) → TypeReads f n (ty.Projection k xs) u
    → (term u ≡ stays_at k xs) ⊎ (HasEntry js (asked_goal (goal.Projection k xs u))
    ⊎ HoldsUnknown (asked_goal (goal.Projection k xs u)).parts)

-- so does each that stands in the type: none is left that could be read
abbrev pub NoneIsLeft : System → ℕ → List (Ty × Ty) → Ty → Type 0
NoneIsLeft f n js t = (k : TypeAliasId) (xs : List GenericArg) → IsPartOf (stays_at k xs) (term t) → StaysOrIsListed f n js k xs
