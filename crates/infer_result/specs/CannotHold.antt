-- Goals in which `{unknown}` stands: whether they could hold with other types in its place, and whether what stands there could have been
-- read.
use Rattle.std.specs.Prelude.{ℕ, ◌+◌, Option, Some, None, List, ◌≡◌, ◌⊎◌}
use Rattle.hir_types.specs.declared.head.Head.TheVariants as head
use Rattle.infer_result.specs.Words.{Hole, Term, hole, leaf, pair, Asked, System, answers, args_of, asked_goal, Scope, TypeAliasId, GenericArg, Ty}
use Rattle.hir_types.specs.declared.head.Hole.TheVariants as hole_of
use Rattle.infer_result.specs.Proved.{HoldsUnknown}
use Rattle.hir_types.specs.declared.goal.Goal.TheVariants as goal
use Rattle.hir_types.specs.declared.ty.Ty.TheVariants as ty
use Rattle.infer_result.specs.InHand.{IsKnownAs}

-- the hole of this number for a term that begins so, where that is `{unknown}`
abbrev pub hole_by : ℕ → Term → Option Hole
hole_by n (leaf head.Error) = Some (hole_of.Ty n)
hole_by n (leaf head.UnknownConst) = Some (hole_of.Const n)
hole_by n _ = None

abbrev pub hole_for : ℕ → Term → Option Hole
hole_for n (pair a b) = hole_by n a
hole_for n _ = None

-- a term, and the number after those of the holes that were put in it
pub record Opened : Type 0 where
  pub term : Term
  pub next : ℕ

abbrev pub as_it_is : ℕ → Term → Opened
as_it_is n t = record { term = t; next = n }

-- the hole, where there is one
abbrev pub put_or : ℕ → Option Hole → Opened → Opened
put_or n (Some k) x = record { term = hole k; next = n + 1 }
put_or n None x = x

abbrev pub behind : Term → Opened → Opened
behind a x = record { term = pair a x.term; next = x.next }

-- with a hole, from number `n` on, in the place of each `{unknown}` behind something, as each is in a goal
abbrev pub opened : ℕ → Term → Opened
opened n (hole k) = as_it_is n (hole k)
opened n (leaf h) = as_it_is n (leaf h)
opened n (pair a b) = behind (opened n a).term (put_or (opened n a).next (hole_for (opened n a).next b) (opened (opened n a).next b))

-- of a goal without holes
abbrev pub opened_goal : Asked → Asked
opened_goal a = record { kind = a.kind; parts = (opened 0 a.parts).term }

-- the answer is No whatever types without associated types that are to be read, and consts, stand in the places of `{unknown}`
abbrev pub CannotHold : System → ℕ → Asked → Type 0
CannotHold f n a = (answers f n).No (opened_goal a)

-- it is about an associated type in whose arguments no `{unknown}` stands, and what this reads as at the depth can stand in a body in this
-- scope
pub record IsReadable (sc : Scope) (f : System) (n : ℕ) (a : Asked) : Type 0 where
  pub alias : TypeAliasId
  pub args : List GenericArg
  pub type : Ty
  pub is : asked_goal (goal.Projection alias args type) ≡ a
  pub known : HoldsUnknown (args_of a.parts) → ⊥
  pub read : Ty
  pub reads : IsKnownAs sc f n (ty.Projection alias args) (Some read)

-- so there is cause to say that it has no proof
abbrev pub HasCause : Scope → System → ℕ → Asked → Type 0
HasCause sc f n a = CannotHold f n a ⊎ IsReadable sc f n a

-- `{unknown}` stands in it, and there is none
abbrev pub MayHold : Scope → System → ℕ → Asked → Type 0
MayHold sc f n a = HoldsUnknown a.parts × (HasCause sc f n a → ⊥)
