-- What stands for expressions of the kinds that inference does not carry yet.
use Rattle.std.specs.Prelude.{ℕ, List, [], Result, Ok, Err, codes, if◌then◌else◌}
use Rattle.serde_json.specs.Data.{Data}
use Rattle.infer_text.specs.Words.{LaterExpr, RawClosureParam, RawRecordField}
use Rattle.infer_text.specs.Words.hir_raw.declared.later.LaterExpr.TheVariants as later
use Rattle.infer_text.specs.Reading.{◌>>=◌, ◌>>◌, part, parts_in, is_tag, bool_in, text_in, option_in, list_in}
use Rattle.infer_text.specs.Leaves.{type_ref_in, expr_id_in, pat_id_in, label_in, mutability_in}
use Rattle.infer_text.specs.Operators.{unary_in, binary_in}
use Rattle.infer_text.specs.Paths.{variant_path_in}
use Rattle.infer_text.specs.Stmts.{stmt_in}
use Rattle.infer_text.specs.WrittenArgs.{const_in, written_args_in}

-- [name, e]
unfoldable pub record_field_in : Data → Result RawRecordField (List ℕ)
record_field_in d = do
  parts_in 2 d
  name ← part text_in 0 d
  e ← part expr_id_in 1 d
  Ok (record { name = name; expr = e })

-- [p, TYPE?]
unfoldable pub closure_param_in : Data → Result RawClosureParam (List ℕ)
closure_param_in d = do
  parts_in 2 d
  p ← part pat_id_in 0 d
  written ← part (option_in type_ref_in) 1 d
  Ok (record { pat = p; type_ref = written })

unfoldable pub unsafe_in : Data → Result LaterExpr (List ℕ)
unsafe_in d = do
  stmts ← part (list_in stmt_in) 1 d
  last ← part (option_in expr_id_in) 2 d
  Ok (later.Unsafe stmts last)

unfoldable pub let_expr_in : Data → Result LaterExpr (List ℕ)
let_expr_in d = do
  p ← part pat_id_in 1 d
  e ← part expr_id_in 2 d
  Ok (later.Let p e)

unfoldable pub loop_in : Data → Result LaterExpr (List ℕ)
loop_in d = do
  label ← part (option_in label_in) 1 d
  e ← part expr_id_in 2 d
  Ok (later.Loop label e)

unfoldable pub closure_in : Data → Result LaterExpr (List ℕ)
closure_in d = do
  params ← part (list_in closure_param_in) 1 d
  out ← part (option_in type_ref_in) 2 d
  e ← part expr_id_in 3 d
  Ok (later.Closure params out e)

unfoldable pub break_in : Data → Result LaterExpr (List ℕ)
break_in d = do
  label ← part (option_in label_in) 1 d
  e ← part (option_in expr_id_in) 2 d
  Ok (later.Break label e)

unfoldable pub method_in : Data → Result LaterExpr (List ℕ)
method_in d = do
  e ← part expr_id_in 1 d
  name ← part text_in 2 d
  as_ ← part written_args_in 3 d
  args ← part (list_in expr_id_in) 4 d
  Ok (later.MethodCall e name as_ args)

unfoldable pub field_expr_in : Data → Result LaterExpr (List ℕ)
field_expr_in d = do
  e ← part expr_id_in 1 d
  name ← part text_in 2 d
  Ok (later.Field e name)

unfoldable pub index_in : Data → Result LaterExpr (List ℕ)
index_in d = do
  base ← part expr_id_in 1 d
  index ← part expr_id_in 2 d
  Ok (later.Index base index)

unfoldable pub record_in : Data → Result LaterExpr (List ℕ)
record_in d = do
  v ← part variant_path_in 1 d
  fields ← part (list_in record_field_in) 2 d
  spread ← part (option_in expr_id_in) 3 d
  Ok (later.RecordLit v fields spread)

unfoldable pub repeat_in : Data → Result LaterExpr (List ℕ)
repeat_in d = do
  e ← part expr_id_in 1 d
  n ← part expr_id_in 2 d
  c ← part const_in 3 d
  Ok (later.Repeat e n c)

unfoldable pub range_in : Data → Result LaterExpr (List ℕ)
range_in d = do
  inclusive ← part bool_in 1 d
  l ← part (option_in expr_id_in) 2 d
  r ← part (option_in expr_id_in) 3 d
  Ok (later.Range inclusive l r)

unfoldable pub cast_in : Data → Result LaterExpr (List ℕ)
cast_in d = do
  e ← part expr_id_in 1 d
  w ← part type_ref_in 2 d
  Ok (later.Cast e w)

unfoldable pub ref_expr_in : Data → Result LaterExpr (List ℕ)
ref_expr_in d = do
  raw ← part bool_in 1 d
  m ← part mutability_in 2 d
  e ← part expr_id_in 3 d
  Ok (later.Ref raw m e)

unfoldable pub unary_expr_in : Data → Result LaterExpr (List ℕ)
unary_expr_in d = do
  o ← part unary_in 1 d
  e ← part expr_id_in 2 d
  Ok (later.UnaryOp o e)

unfoldable pub binary_expr_in : Data → Result LaterExpr (List ℕ)
binary_expr_in d = do
  o ← part (option_in binary_in) 1 d
  l ← part expr_id_in 2 d
  r ← part expr_id_in 3 d
  Ok (later.BinaryOp o l r)

unfoldable pub assign_in : Data → Result LaterExpr (List ℕ)
assign_in d = do
  p ← part pat_id_in 1 d
  e ← part expr_id_in 2 d
  Ok (later.Assignment p e)

-- ["cast", e, TYPE], ["ref", raw, M, e], ["box", e], ["un", OP, e], ["bin", OP?, e, e], ["assign", p, e] or
-- ["index", e, e]
unfoldable pub operation_in : List ℕ × ℕ → Data → Result LaterExpr (List ℕ)
operation_in t d =
    if is_tag t (codes "cast") 3 then cast_in d else
    if is_tag t (codes "ref") 4 then ref_expr_in d else
    if is_tag t (codes "box") 2 then part expr_id_in 1 d >>= (λ e. Ok (later.Box e)) else
    if is_tag t (codes "un") 3 then unary_expr_in d else
    if is_tag t (codes "bin") 4 then binary_expr_in d else
    if is_tag t (codes "assign") 3 then assign_in d else
    if is_tag t (codes "index") 3 then index_in d else
    Err []

-- ["method", e, name, As, [e]], ["field", e, name], ["record", V, [[name, e]], e?], ["range", inclusive, e?, e?],
-- ["array", [e]], ["repeat", e, e, C] or one of these
unfoldable pub compound_in : List ℕ × ℕ → Data → Result LaterExpr (List ℕ)
compound_in t d =
    if is_tag t (codes "method") 5 then method_in d else
    if is_tag t (codes "field") 3 then field_expr_in d else
    if is_tag t (codes "record") 4 then record_in d else
    if is_tag t (codes "range") 4 then range_in d else
    if is_tag t (codes "array") 2 then part (list_in expr_id_in) 1 d >>= (λ es. Ok (later.Array es)) else
    if is_tag t (codes "repeat") 4 then repeat_in d else
    operation_in t d

-- ["break", l?, e?], ["continue", l?], ["return", e?], ["become", e] or one of these
unfoldable pub jump_in : List ℕ × ℕ → Data → Result LaterExpr (List ℕ)
jump_in t d =
    if is_tag t (codes "break") 3 then break_in d else
    if is_tag t (codes "continue") 2 then part (option_in label_in) 1 d >>= (λ label. Ok (later.Continue label)) else
    if is_tag t (codes "return") 2 then part (option_in expr_id_in) 1 d >>= (λ e. Ok (later.Return e)) else
    if is_tag t (codes "become") 2 then part expr_id_in 1 d >>= (λ e. Ok (later.Become e)) else
    compound_in t d

-- "missing", "_", "offset", ["unsafe", [STMT], e?], ["const", e], ["let", p, e], ["loop", l?, e],
-- ["closure", [[p, TYPE?]], TYPE?, e] or one of these
unfoldable pub later_expr_in : List ℕ × ℕ → Data → Result LaterExpr (List ℕ)
later_expr_in t d =
    if is_tag t (codes "missing") 0 then Ok later.Missing else
    if is_tag t (codes "_") 0 then Ok later.Underscore else
    if is_tag t (codes "offset") 0 then Ok later.Offset else
    if is_tag t (codes "unsafe") 3 then unsafe_in d else
    if is_tag t (codes "const") 2 then part expr_id_in 1 d >>= (λ e. Ok (later.Const e)) else
    if is_tag t (codes "let") 3 then let_expr_in d else
    if is_tag t (codes "loop") 3 then loop_in d else
    if is_tag t (codes "closure") 4 then closure_in d else
    jump_in t d
