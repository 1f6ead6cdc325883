-- What a type in hand says of an expression that has a type, or an outermost part, by itself.
use Rattle.std.specs.Prelude.{◌≡◌, slice_get, Some, ℕ, Option, None}
use Rattle.infer_ctx.specs.Words.{ExprId, Ty, BindingId, PatId, TypeRefId, Binds, filled_type, Given, let_types, Up, Outermost, HasHead, HeadOf, InferenceResult, BindingTy}
use Rattle.infer_ctx.specs.Words.hir_raw.declared.raw.RawExpr.TheVariants as expr
use Rattle.infer_ctx.specs.Words.hir_raw.declared.raw.RawPath.TheVariants as path

-- the type in hand is the one that the expression has by itself, or has its head
pub record Tells (g : Given) (e : ExprId) (t : Ty) : Type 0 where
  pub type : (s : Ty) → Up g e s → t ≡ s
  pub head : (h : Outermost) → HeadOf g e h → HasHead t h

-- so it is of each path to the binding
abbrev pub TellsBinding : Given → BindingId → Ty → Type 0
TellsBinding g v t = (e : ExprId) → slice_get g.body.exprs e.0 ≡ Some (expr.Path (path.Local v)) → Tells g e t

-- of each path to what the pattern binds
abbrev pub TellsBound : Given → PatId → Ty → Type 0
TellsBound g p t = (v : BindingId) → Binds g.body p v → TellsBinding g v t

-- of each path to a binding of which a type is recorded
abbrev pub TellsRecorded : Given → InferenceResult → Type 0
TellsRecorded g r = (v : BindingId) (t : Ty) → BindingTy r v t → TellsBinding g v t

-- what the type of an initializer, or of a `let` without one, says of its pattern
abbrev pub TellsLet : Given → Option TypeRefId → Option ExprId → Ty → Type 0
TellsLet g (Some w) init t = (h : ℕ → Ty) × (t ≡ filled_type h (let_types g) w)
TellsLet g None (Some e) t = Tells g e t
TellsLet g None None t = Unit {0}
