-- What stands for expressions.
use Rattle.std.specs.Prelude.{ℕ, List, Result, Ok, codes, if◌then◌else◌}
use Rattle.serde_json.specs.Data.{Data}
use Rattle.infer_text.specs.Words.{RawArm, RawExpr}
use Rattle.infer_text.specs.Words.hir_raw.declared.raw.RawExpr.TheVariants as expr
use Rattle.infer_text.specs.Words.hir_raw.declared.later.LaterExpr.TheVariants as later
use Rattle.infer_text.specs.declared.literals.AnyLiteral.{AnyLiteral}
use Rattle.infer_text.specs.declared.literals.AnyLiteral.TheVariants as any_literal
use Rattle.infer_text.specs.declared.paths.AnyPath.{AnyPath}
use Rattle.infer_text.specs.declared.paths.AnyPath.TheVariants as any_path
use Rattle.infer_text.specs.Reading.{◌>>=◌, ◌>>◌, there, part, parts_in, tag, is_tag, option_in, list_in}
use Rattle.infer_text.specs.Leaves.{expr_id_in, pat_id_in, label_in}
use Rattle.infer_text.specs.Literals.{literal_in}
use Rattle.infer_text.specs.Paths.{path_in}
use Rattle.infer_text.specs.Stmts.{stmt_in}
use Rattle.infer_text.specs.LaterExprs.{later_expr_in}

abbrev lit_expr_by : AnyLiteral → RawExpr
lit_expr_by (any_literal.Raw l) = expr.Lit l
lit_expr_by (any_literal.Later l) = expr.Later (later.Lit l)

unfoldable pub lit_expr_in : Data → Result RawExpr (List ℕ)
lit_expr_in d = part literal_in 1 d >>= λ l. Ok (lit_expr_by l)

abbrev path_expr_by : AnyPath → RawExpr
path_expr_by (any_path.Raw p) = expr.Path p
path_expr_by (any_path.Later p) = expr.Later (later.Path p)

unfoldable pub path_expr_in : Data → Result RawExpr (List ℕ)
path_expr_in d = part path_in 1 d >>= λ p. Ok (path_expr_by p)

unfoldable pub block_in : Data → Result RawExpr (List ℕ)
block_in d = do
  label ← part (option_in label_in) 1 d
  stmts ← part (list_in stmt_in) 2 d
  last ← part (option_in expr_id_in) 3 d
  Ok (expr.Block label stmts last)

unfoldable pub if_in : Data → Result RawExpr (List ℕ)
if_in d = do
  condition ← part expr_id_in 1 d
  first ← part expr_id_in 2 d
  otherwise ← part (option_in expr_id_in) 3 d
  Ok (expr.If condition first otherwise)

-- [p, e?, e]
unfoldable pub arm_in : Data → Result RawArm (List ℕ)
arm_in d = do
  parts_in 3 d
  p ← part pat_id_in 0 d
  guard ← part (option_in expr_id_in) 1 d
  e ← part expr_id_in 2 d
  Ok (record { pat = p; guard = guard; expr = e })

unfoldable pub match_in : Data → Result RawExpr (List ℕ)
match_in d = do
  e ← part expr_id_in 1 d
  arms ← part (list_in arm_in) 2 d
  Ok (expr.Match e arms)

unfoldable pub call_in : Data → Result RawExpr (List ℕ)
call_in d = do
  f ← part expr_id_in 1 d
  args ← part (list_in expr_id_in) 2 d
  Ok (expr.Call f args)

-- ["lit", L], ["path", P], ["block", l?, [STMT], e?], ["tuple", [e]], ["if", e, e, e?], ["match", e, [ARM]],
-- ["call", e, [e]] or one that inference does not carry yet
unfoldable pub expr_in : Data → Result RawExpr (List ℕ)
expr_in d = do
  t ← there (tag d)
  if is_tag t (codes "lit") 2 then lit_expr_in d else
      if is_tag t (codes "path") 2 then path_expr_in d else
      if is_tag t (codes "block") 4 then block_in d else
      if is_tag t (codes "tuple") 2 then part (list_in expr_id_in) 1 d >>= (λ es. Ok (expr.Tuple es)) else
      if is_tag t (codes "if") 4 then if_in d else
      if is_tag t (codes "match") 3 then match_in d else
      if is_tag t (codes "call") 3 then call_in d else
      later_expr_in t d >>= (λ x. Ok (expr.Later x))
