-- A block: its statements, and its tail at its type. Reference, "Block expressions", "Statements"; upstream
-- `infer/expr.rs`, `infer_block`.
use Rattle.std.specs.Prelude.{◌≡◌, ◌⊎◌, true, false, List, slice_get, Option, Some, None, [], ◌∷◌}
use Rattle.infer_result.specs.Words.{ExprId, PatId, TypeRefId, Ty, unit, LabelId, RawBody, RawStmt}
use Rattle.infer_result.specs.Words.hir_raw.declared.raw.RawStmt.TheVariants as stmt
use Rattle.infer_result.specs.Words.hir_raw.declared.raw.RawExpr.TheVariants as expr
use Rattle.infer_result.specs.declared.result.InferenceResult.{InferenceResult}
use Rattle.infer_result.specs.Table.{HasTy, HasMismatch, MaybeMismatch}
use Rattle.infer_result.specs.Places.{Given, declared, AreRecorded}
use Rattle.infer_result.specs.Placing.{Placing}

-- ---- its rule

-- The initializer at the written type and the pattern at that, where it is recorded what each `_` in it
-- stands for; without one the pattern at the initializer's type.
abbrev pub LetRule : Placing → Given → InferenceResult → PatId → Option TypeRefId → Option ExprId → Type 0
LetRule P g r p (Some w) (Some e) = AreRecorded g r w × P.at e (declared g r w) × P.pattern p (declared g r w)
LetRule P g r p (Some w) None = AreRecorded g r w × P.pattern p (declared g r w)
LetRule P g r p None (Some e) = (t : Ty) × HasTy r e t × P.pattern p t
LetRule P g r p None None = Unit {0}

-- an expression without semicolon is at `()`
abbrev pub StmtRule : Placing → Given → InferenceResult → RawStmt → Type 0
StmtRule P g r (stmt.Let p w init other) = LetRule P g r p w init
StmtRule P g r (stmt.Expr e true) = Unit {0}
StmtRule P g r (stmt.Expr e false) = P.at e unit

abbrev pub StmtsRule : Placing → Given → InferenceResult → List RawStmt → Type 0
StmtsRule P g r [] = Unit {0}
StmtsRule P g r (s ∷ ss) = StmtRule P g r s × StmtsRule P g r ss

-- a block without tail is `()`
abbrev pub TailRule : Placing → ExprId → Option ExprId → Ty → Type 0
TailRule P n None t = P.no_tail n t
TailRule P n (Some e) t = P.at e t

-- the statements obey, and the tail is at the block's type
pub record BlockRule (P : Placing) (g : Given) (r : InferenceResult) (n : ExprId) (stmts : List RawStmt)
    (last : Option ExprId) : Type 0 where
  pub statements : StmtsRule P g r stmts
  pub type : Ty
  pub has : HasTy r n type
  pub ends : TailRule P n last type

-- ---- what excuses it

abbrev pub StmtHasMismatch : InferenceResult → RawStmt → Type 0
StmtHasMismatch r (stmt.Let p w init other) = MaybeMismatch r init
StmtHasMismatch r (stmt.Expr e semicolon) = HasMismatch r e

abbrev pub StmtsHaveMismatch : InferenceResult → List RawStmt → Type 0
StmtsHaveMismatch r [] = ⊥
StmtsHaveMismatch r (s ∷ ss) = StmtHasMismatch r s ⊎ StmtsHaveMismatch r ss

-- ---- what its complaints say

pub record IsBlockWithoutTail (b : RawBody) (e : ExprId) : Type 0 where
  pub label : Option LabelId
  pub stmts : List RawStmt
  pub is_block : slice_get b.exprs e.0 ≡ Some (expr.Block label stmts None)
