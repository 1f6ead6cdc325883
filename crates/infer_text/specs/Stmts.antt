-- What stands for statements.
use Rattle.std.specs.Prelude.{ℕ, List, [], Result, Ok, Err, codes, if◌then◌else◌}
use Rattle.serde_json.specs.Data.{Data}
use Rattle.infer_text.specs.Words.{RawStmt}
use Rattle.infer_text.specs.Words.hir_raw.declared.raw.RawStmt.TheVariants as stmt
use Rattle.infer_text.specs.Reading.{◌>>=◌, there, part, tag, is_tag, bool_in, option_in}
use Rattle.infer_text.specs.Leaves.{type_ref_in, expr_id_in, pat_id_in}

unfoldable pub let_in : Data → Result RawStmt (List ℕ)
let_in d = do
  p ← part pat_id_in 1 d
  written ← part (option_in type_ref_in) 2 d
  init ← part (option_in expr_id_in) 3 d
  otherwise ← part (option_in expr_id_in) 4 d
  Ok (stmt.Let p written init otherwise)

unfoldable pub expr_stmt_in : Data → Result RawStmt (List ℕ)
expr_stmt_in d = do
  e ← part expr_id_in 1 d
  semicolon ← part bool_in 2 d
  Ok (stmt.Expr e semicolon)

-- ["let", p, TYPE?, e?, e?] or ["expr", e, semicolon]
unfoldable pub stmt_in : Data → Result RawStmt (List ℕ)
stmt_in d = do
  t ← there (tag d)
  if is_tag t (codes "let") 5 then let_in d else
      if is_tag t (codes "expr") 3 then expr_stmt_in d else
      Err []
