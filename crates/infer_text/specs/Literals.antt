-- What stands for literals.
use Rattle.std.specs.Prelude.{ℕ, List, [], Result, Ok, Err, codes, if◌then◌else◌}
use Rattle.serde_json.specs.Data.{Data}
use Rattle.infer_text.specs.Words.hir_raw.declared.raw.RawLiteral.TheVariants as literal
use Rattle.infer_text.specs.Words.hir_raw.declared.later.LaterLiteral.TheVariants as later_literal
use Rattle.infer_text.specs.declared.literals.AnyLiteral.{AnyLiteral}
use Rattle.infer_text.specs.declared.literals.AnyLiteral.TheVariants as any
use Rattle.infer_text.specs.Reading.{◌>>=◌, there, part, tag, is_tag, bool_in, text_in, u32_in, option_in}
use Rattle.infer_text.specs.Leaves.{integer_in}

unfoldable pub int_literal_in : Data → Result AnyLiteral (List ℕ)
int_literal_in d = do
  digits ← part text_in 1 d
  suffix ← part (option_in integer_in) 2 d
  Ok (any.Raw (literal.Int digits suffix))

-- ["bool", b], ["char", n], ["int", digits, suffix?], ["str", text], ["bytes", length] or "cstr"
unfoldable pub literal_in : Data → Result AnyLiteral (List ℕ)
literal_in d = do
  t ← there (tag d)
  if is_tag t (codes "bool") 2 then part bool_in 1 d >>= (λ b. Ok (any.Raw (literal.Bool b))) else
      if is_tag t (codes "char") 2 then part u32_in 1 d >>= (λ n. Ok (any.Raw (literal.Char n))) else
      if is_tag t (codes "int") 3 then int_literal_in d else
      if is_tag t (codes "str") 2 then part text_in 1 d >>= (λ s. Ok (any.Later (later_literal.Str s))) else
      if is_tag t (codes "bytes") 2 then part u32_in 1 d >>= (λ n. Ok (any.Later (later_literal.Bytes n))) else
      if is_tag t (codes "cstr") 0 then Ok (any.Later later_literal.CStr) else
      Err []
