-- Types that nodes have by themselves, and types that are written at their places.
use Rattle.std.specs.Prelude.{ℕ, ◌≡◌, ◌⊎◌, slice_get, Option, Some, None, []}
use Rattle.infer_result.specs.Words.{ExprId, TypeRefId, Ty, Same, RawVariant, written_type, Signature, at_args, Role, root, initializer, argument, Node, RawLiteral, HasNoHole}
use Rattle.hir_types.specs.declared.ids.ExprOrPatId.TheVariants as node
use Rattle.hir_types.specs.declared.ty.Ty.TheVariants as ty
use Rattle.infer_result.specs.Words.hir_raw.declared.raw.RawExpr.TheVariants as expr
use Rattle.infer_result.specs.Places.{Given, let_types, StandsAt}
use Rattle.infer_result.specs.Incoming.{IsInput}
use Rattle.infer_result.specs.Kinds.Literal.{IsOwnType}
use Rattle.infer_result.specs.Kinds.Path.{NamesLet, NamesParameter, NamesUnit}
use Rattle.infer_result.specs.Kinds.Call.{CallsNonGeneric, IsWrittenInput}

-- the type that an expression has by itself; a written type says it where no `_` and no associated type stands in it
pub data Up (g : Given) : ExprId → Ty → Type 0 where
  of_literal : (e : ExprId) (l : RawLiteral) (t : Ty) → slice_get g.body.exprs e.0 ≡ Some (expr.Lit l)
      → IsOwnType l t → Up g e t
  of_written : (e : ExprId) (w : TypeRefId) (init : Option ExprId) → NamesLet g.body e (Some w) init
      → HasNoHole (let_types g) w → Up g e (written_type (let_types g) w)
  of_initializer : (e i : ExprId) (t : Ty) → NamesLet g.body e None (Some i) → Up g i t → Up g e t
  of_parameter : (e : ExprId) (i : ℕ) (t : Ty) → NamesParameter g.body e i → IsInput g i t → Up g e t
  of_call : (e : ExprId) (σ : Signature) → CallsNonGeneric g e σ → Up g e (at_args [] σ.output)
  of_unit : (e : ExprId) (x : RawVariant) → NamesUnit g e x → Up g e (ty.Adt x.adt [])

-- ---- what is written at a place

-- the type that is written at the place of a part of the node in this role, without a `_` and without an associated type in a `let`
abbrev pub States : Given → Node → Role → Ty → Type 0
States g n role t =
    ((role ≡ root) × (g.output ≡ Some t))
    ⊎ (((w : TypeRefId) × (role ≡ initializer (Some w)) × HasNoHole (let_types g) w
    × (t ≡ written_type (let_types g) w)) ⊎ ((i : ℕ) × (role ≡ argument i) × IsWrittenInput g n i t))

pub record Stated (g : Given) (e : ExprId) (t : Ty) : Type 0 where
  pub parent : Node
  pub at_part : ℕ
  pub role : Role
  pub stands : StandsAt g.body (node.ExprId e) parent at_part role
  pub states : States g parent role t

-- between carried types a coercion leads only where they are the same
abbrev pub Leads : Ty → Ty → Type 0
Leads from to = Same from to
