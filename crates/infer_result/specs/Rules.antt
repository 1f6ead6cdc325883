-- The rule of each kind of expression and of pattern, and of a body.
use Rattle.std.specs.Prelude.{List, slice_get, Option, Some}
use Rattle.infer_result.specs.Words.{ExprId, PatId, Ty, RawPat, RawExpr}
use Rattle.hir_types.specs.declared.ty.Ty.TheVariants as ty
use Rattle.infer_result.specs.Words.hir_raw.declared.raw.RawExpr.TheVariants as expr
use Rattle.infer_result.specs.Words.hir_raw.declared.raw.RawPat.TheVariants as pat
use Rattle.infer_result.specs.declared.result.InferenceResult.{InferenceResult}
use Rattle.infer_result.specs.declared.modes.BindingMode.TheVariants as mode
use Rattle.infer_result.specs.Table.{HasTy, PatTy, BindingTy, HasMode}
use Rattle.infer_result.specs.Places.{Given, IsAtMaybe, IsAtMaybeOrMismatch, PatIsAtOrMismatch}
use Rattle.infer_result.specs.Placing.{Placing, at_or_mismatch, at_types}
use Rattle.infer_result.specs.Kinds.Literal.{IsLiteralType}
use Rattle.infer_result.specs.Kinds.Path.{PathRule}
use Rattle.infer_result.specs.Kinds.Tuple.{TupleRule}
use Rattle.infer_result.specs.Kinds.Block.{BlockRule}
use Rattle.infer_result.specs.Kinds.If.{IfRule}
use Rattle.infer_result.specs.Kinds.Match.{MatchRule}
use Rattle.infer_result.specs.Kinds.Call.{CallRule}
use Rattle.infer_result.specs.Incoming.{Incoming}
use Rattle.infer_result.specs.Pats.Tuple.{AllPatsAt}
use Rattle.infer_result.specs.Pats.Constructor.{CtorPatRule, PathPatRule}

-- the rule of an expression, whose parts stand at their types as `P` says
abbrev pub Rule : Placing → Given → InferenceResult → ExprId → Option RawExpr → Type 0
Rule P g r n (Some (expr.Lit l)) = (t : Ty) × HasTy r n t × IsLiteralType l t
Rule P g r n (Some (expr.Path p)) = PathRule g r n p
Rule P g r n (Some (expr.Tuple es)) = TupleRule P.element r n es
Rule P g r n (Some (expr.Block label stmts last)) = BlockRule P g r n stmts last
Rule P g r n (Some (expr.If c first other)) = IfRule P r n c first other
Rule P g r n (Some (expr.Match e arms)) = MatchRule P r n e arms
Rule P g r n (Some (expr.Call f args)) = CallRule P g r n f args
Rule P g r n _ = ⊥

-- each clause holds, or a mismatch is listed where it does not
abbrev pub ObeysOrMismatch : Given → InferenceResult → ExprId → Type 0
ObeysOrMismatch g r n = Rule (at_or_mismatch g r) g r n (slice_get g.body.exprs n.0)

-- each clause holds, but for parts of tuples, arguments and patterns with a mismatch of their own
abbrev pub ObeysExpression : Given → InferenceResult → ExprId → Type 0
ObeysExpression g r n = Rule (at_types g r) g r n (slice_get g.body.exprs n.0)

-- the body's own rule: its root is at the output, if that is known
abbrev pub BodyObeysOrMismatch : Given → InferenceResult → Type 0
BodyObeysOrMismatch g r = IsAtMaybeOrMismatch r g.body.root g.output

abbrev pub BodyObeys : Given → InferenceResult → Type 0
BodyObeys g r = IsAtMaybe r g.body.root g.output

-- ---- patterns

-- A plain or `mut` binding moves, and has the pattern's type. The parts of a tuple are at its
-- components, and a literal has the pattern's type.
abbrev pub PatRule : Given → InferenceResult → PatId → Option RawPat → Type 0
PatRule g r p (Some pat.Wild) = (t : Ty) × PatTy r p t
PatRule g r p (Some (pat.Bind v sub)) = (t : Ty) × PatTy r p t × BindingTy r v t × HasMode r p mode.Move
PatRule g r p (Some (pat.Tuple ps)) = (ss : List Ty) × PatTy r p (ty.Tuple ss) × AllPatsAt g r ps ss
PatRule g r p (Some (pat.TupleStruct v ps)) = CtorPatRule g r p v ps
PatRule g r p (Some (pat.Path named)) = PathPatRule g r p named
PatRule g r p (Some (pat.Lit e)) = (t : Ty) × PatTy r p t × HasTy r e t
PatRule g r p _ = ⊥

-- the pattern has the type that comes in, or a mismatch, and obeys the rule of its kind
pub record ObeysPattern (g : Given) (r : InferenceResult) (p : PatId) : Type 0 where
  pub incoming : (t : Ty) → Incoming g r p t → PatIsAtOrMismatch g r p t
  pub kind : PatRule g r p (slice_get g.body.pats p.0)
