-- Associated types that stand in the written types of `let`s. Each is read as a `_` there, of which the body may know what it is (the Rust
-- Reference, "let statements", "Associated types"; upstream `infer.rs`, `make_body_ty`).
use Rattle.std.specs.Prelude.{ℕ, if◌then◌else◌, List, [], map, Some, None}
use Rattle.std.specs.List.{flat_map}
use Rattle.hir_raw.specs.declared.raw.RawBody.{RawBody}
use Rattle.hir_raw.specs.declared.raw.RawExpr.{RawExpr}
use Rattle.hir_raw.specs.declared.raw.RawStmt.{RawStmt}
use Rattle.hir_raw.specs.declared.raw.RawStmt.TheVariants as stmt
use Rattle.hir_raw.specs.declared.raw.RawType.{RawType}
use Rattle.hir_raw.specs.declared.raw.RawType.TheVariants as type
use Rattle.hir_raw.specs.Hidden.{is_alias, aliases_at}
use Rattle.hir_raw.specs.Order.{stmts_of}

-- ---- as `let`s read them

abbrev pub masked_type : RawType → RawType
masked_type x = if is_alias x then type.Hole else x

-- the written types, where each associated type is a `_`
abbrev pub masked : List RawType → List RawType
masked types = map masked_type types

-- ---- which they are

abbrev pub stmt_aliases : List RawType → RawStmt → List ℕ
stmt_aliases types (stmt.Let p None init other) = []
stmt_aliases types (stmt.Let p (Some t) init other) = aliases_at types t.0
stmt_aliases types (stmt.Expr e semicolon) = []

abbrev pub expr_aliases : List RawType → RawExpr → List ℕ
expr_aliases types x = flat_map (stmt_aliases types) (stmts_of (Some x))

-- those that stand outermost in what the `let`s of a body are written with, in order
abbrev pub let_aliases : List RawType → RawBody → List ℕ
let_aliases types b = flat_map (expr_aliases types) b.exprs
