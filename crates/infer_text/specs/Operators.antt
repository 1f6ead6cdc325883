-- What stands for operators.
use Rattle.std.specs.Prelude.{ℕ, List, [], Option, Some, None, Result, Ok, Err, codes, if◌then◌else◌}
use Rattle.std.specs.Str.{bytes_eq}
use Rattle.serde_json.specs.Data.{Data}
use Rattle.serde_json.specs.Find.{as_str}
use Rattle.infer_text.specs.Words.{ArithOp, BinaryOp, CmpOp, LogicOp, UnaryOp}
use Rattle.infer_text.specs.Words.hir_raw.declared.later.ArithOp.TheVariants as arith
use Rattle.infer_text.specs.Words.hir_raw.declared.later.BinaryOp.TheVariants as binary
use Rattle.infer_text.specs.Words.hir_raw.declared.later.CmpOp.TheVariants as cmp
use Rattle.infer_text.specs.Words.hir_raw.declared.later.LogicOp.TheVariants as logic
use Rattle.infer_text.specs.Words.hir_raw.declared.later.UnaryOp.TheVariants as unary
use Rattle.infer_text.specs.Reading.{◌>>=◌, there}

abbrev pub logic_sign : List ℕ → Option LogicOp
logic_sign s =
    if bytes_eq s (codes "&&") then Some logic.And else
    if bytes_eq s (codes "||") then Some logic.Or else
    None

abbrev pub arith_sign : List ℕ → Option ArithOp
arith_sign s =
    if bytes_eq s (codes "+") then Some arith.Add else
    if bytes_eq s (codes "-") then Some arith.Sub else
    if bytes_eq s (codes "*") then Some arith.Mul else
    if bytes_eq s (codes "/") then Some arith.Div else
    if bytes_eq s (codes "%") then Some arith.Rem else
    if bytes_eq s (codes "&") then Some arith.BitAnd else
    if bytes_eq s (codes "|") then Some arith.BitOr else
    if bytes_eq s (codes "^") then Some arith.BitXor else
    if bytes_eq s (codes "<<") then Some arith.Shl else
    if bytes_eq s (codes ">>") then Some arith.Shr else
    None

abbrev pub cmp_sign : List ℕ → Option CmpOp
cmp_sign s =
    if bytes_eq s (codes "==") then Some cmp.Eq else
    if bytes_eq s (codes "!=") then Some cmp.Ne else
    if bytes_eq s (codes "<") then Some cmp.Lt else
    if bytes_eq s (codes "<=") then Some cmp.Le else
    if bytes_eq s (codes ">") then Some cmp.Gt else
    if bytes_eq s (codes ">=") then Some cmp.Ge else
    None

-- that of a compound assignment
abbrev pub assign_sign : List ℕ → Option ArithOp
assign_sign s =
    if bytes_eq s (codes "+=") then Some arith.Add else
    if bytes_eq s (codes "-=") then Some arith.Sub else
    if bytes_eq s (codes "*=") then Some arith.Mul else
    if bytes_eq s (codes "/=") then Some arith.Div else
    if bytes_eq s (codes "%=") then Some arith.Rem else
    if bytes_eq s (codes "&=") then Some arith.BitAnd else
    if bytes_eq s (codes "|=") then Some arith.BitOr else
    if bytes_eq s (codes "^=") then Some arith.BitXor else
    if bytes_eq s (codes "<<=") then Some arith.Shl else
    if bytes_eq s (codes ">>=") then Some arith.Shr else
    None

abbrev binary_by : Option LogicOp → Option ArithOp → Option CmpOp → Option ArithOp → Option BinaryOp
binary_by (Some o) a c assigned = Some (binary.Logic o)
binary_by None (Some o) c assigned = Some (binary.Arith o)
binary_by None None (Some o) assigned = Some (binary.Cmp o)
binary_by None None None (Some o) = Some (binary.Assign o)
binary_by None None None None = None

unfoldable pub binary_sign : List ℕ → Option BinaryOp
binary_sign s = binary_by (logic_sign s) (arith_sign s) (cmp_sign s) (assign_sign s)

-- the sign of an operator with two operands
unfoldable pub binary_in : Data → Result BinaryOp (List ℕ)
binary_in d = there (as_str d) >>= λ s. there (binary_sign s)

-- "not", "neg" or "deref"
unfoldable pub unary_in : Data → Result UnaryOp (List ℕ)
unary_in d = do
  s ← there (as_str d)
  if bytes_eq s (codes "not") then Ok unary.Not else
      if bytes_eq s (codes "neg") then Ok unary.Neg else
      if bytes_eq s (codes "deref") then Ok unary.Deref else
      Err []
