-- What stands for the written arguments of paths and calls in bodies.
use Rattle.std.specs.Prelude.{ℕ, List, [], Option, Some, None, option_and_then, Result, Ok, Err, codes, if◌then◌else◌}
use Rattle.serde_json.specs.Data.{Data}
use Rattle.serde_json.specs.Find.{as_number, as_u64}
use Rattle.infer_text.specs.Words.{RawArg, RawConst}
use Rattle.infer_text.specs.Words.hir_raw.declared.later.RawConst.TheVariants as const
use Rattle.infer_text.specs.Words.hir_raw.declared.later.RawArg.TheVariants as written
use Rattle.infer_text.specs.Reading.{◌>>=◌, there, part, tag, is_tag, u32_in, option_in, list_in}
use Rattle.infer_text.specs.Leaves.{type_ref_in}

-- ["param", n], "unknown" or "_"
unfoldable pub named_const_in : Data → Result RawConst (List ℕ)
named_const_in d = do
  t ← there (tag d)
  if is_tag t (codes "param") 2 then part u32_in 1 d >>= (λ n. Ok (const.Param n)) else
      if is_tag t (codes "unknown") 0 then Ok const.Unknown else
      if is_tag t (codes "_") 0 then Ok const.Hole else
      Err []

abbrev const_by : Option ℕ → Data → Result RawConst (List ℕ)
const_by (Some n) d = Ok (const.Value n)
const_by None d = named_const_in d

-- a whole number below 2 ^ 64, or one of these
unfoldable pub const_in : Data → Result RawConst (List ℕ)
const_in d = const_by (option_and_then as_u64 (as_number d)) d

-- ["t", TYPE] or ["c", C]
unfoldable pub written_arg_in : Data → Result RawArg (List ℕ)
written_arg_in d = do
  t ← there (tag d)
  if is_tag t (codes "t") 2 then part type_ref_in 1 d >>= (λ w. Ok (written.Type w)) else
      if is_tag t (codes "c") 2 then part const_in 1 d >>= (λ c. Ok (written.Const c)) else
      Err []

-- a list of arguments, or none
abbrev pub written_args_in : Data → Result (Option (List RawArg)) (List ℕ)
written_args_in = option_in (list_in written_arg_in)
