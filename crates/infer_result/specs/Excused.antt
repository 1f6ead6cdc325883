-- Nodes whose rule a complaint excuses.
use Rattle.std.specs.Prelude.{◌⊎◌, slice_get, Option, Some}
use Rattle.infer_result.specs.Words.{ExprId, RawExpr}
use Rattle.infer_result.specs.Words.hir_raw.declared.raw.RawExpr.TheVariants as expr
use Rattle.infer_result.specs.declared.result.InferenceResult.{InferenceResult}
use Rattle.infer_result.specs.Table.{HasMismatch, AnyMismatch, WasSeen, AnyDiagnostic, MaybeMismatch}
use Rattle.infer_result.specs.Places.{Given}
use Rattle.infer_result.specs.Kinds.If.{branches_of}
use Rattle.infer_result.specs.Kinds.Match.{arm_exprs, GuardsHaveMismatch}
use Rattle.infer_result.specs.Kinds.Block.{StmtsHaveMismatch}

-- A mismatch at a block or at a part of it excuses the block. One at the condition or a branch of an `if`, or
-- at an `if` without `else` itself, excuses the `if`; one at a guard or an arm the `match`. At a literal, a
-- path, a tuple or a call it excuses nothing, and at a part of a tuple or an argument that part alone. A call
-- is excused by a complaint about the number of its arguments, and where what it calls was seen to be no
-- function.
abbrev pub ExcusedAs : InferenceResult → ExprId → Option RawExpr → Type 0
ExcusedAs r n (Some (expr.Block label stmts last)) =
    HasMismatch r n ⊎ (StmtsHaveMismatch r stmts ⊎ MaybeMismatch r last)
ExcusedAs r n (Some (expr.If c first other)) = HasMismatch r c ⊎ AnyMismatch r (branches_of n first other)
ExcusedAs r n (Some (expr.Match e arms)) = GuardsHaveMismatch r arms ⊎ AnyMismatch r (arm_exprs arms)
ExcusedAs r n (Some (expr.Call f args)) = AnyDiagnostic r n ⊎ WasSeen r n
ExcusedAs r n _ = ⊥

abbrev pub IsExcused : Given → InferenceResult → ExprId → Type 0
IsExcused g r n = ExcusedAs r n (slice_get g.body.exprs n.0)

-- the body's own rule is excused by a mismatch at its root
abbrev pub BodyIsExcused : Given → InferenceResult → Type 0
BodyIsExcused g r = HasMismatch r g.body.root
