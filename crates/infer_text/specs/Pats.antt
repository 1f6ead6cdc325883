-- What stands for patterns.
use Rattle.std.specs.Prelude.{ℕ, List, [], Option, Some, None, Result, Ok, Err, codes, if◌then◌else◌}
use Rattle.serde_json.specs.Data.{Data}
use Rattle.infer_text.specs.Words.{PatId, RawPat, LaterPat, RawRecordFieldPat, RawVariantPath}
use Rattle.infer_text.specs.Words.hir_raw.declared.raw.RawPat.TheVariants as pat
use Rattle.infer_text.specs.Words.hir_raw.declared.later.LaterPat.TheVariants as later
use Rattle.infer_text.specs.Words.hir_raw.declared.later.RawVariantPath.TheVariants as variant
use Rattle.infer_text.specs.declared.paths.AnyPath.{AnyPath}
use Rattle.infer_text.specs.declared.paths.AnyPath.TheVariants as any
use Rattle.infer_text.specs.Reading.{◌>>=◌, ◌>>◌, there, part, parts_in, tag, is_tag, text_in, u32_in, option_in, list_in}
use Rattle.infer_text.specs.Leaves.{expr_id_in, pat_id_in, binding_id_in, mutability_in}
use Rattle.infer_text.specs.Paths.{path_in, variant_path_in}

-- [name, p]
unfoldable pub record_field_pat_in : Data → Result RawRecordFieldPat (List ℕ)
record_field_pat_in d = do
  parts_in 2 d
  name ← part text_in 0 d
  p ← part pat_id_in 1 d
  Ok (record { name = name; pat = p })

unfoldable pub bind_in : Data → Result RawPat (List ℕ)
bind_in d = do
  v ← part binding_id_in 1 d
  sub ← part (option_in pat_id_in) 2 d
  Ok (pat.Bind v sub)

-- a tuple without `..` is carried
abbrev tuple_pat_by : List PatId → Option ℕ → RawPat
tuple_pat_by ps None = pat.Tuple ps
tuple_pat_by ps (Some dots) = pat.Later (later.TupleDots ps dots)

unfoldable pub tuple_pat_in : Data → Result RawPat (List ℕ)
tuple_pat_in d = do
  ps ← part (list_in pat_id_in) 1 d
  dots ← part (option_in u32_in) 2 d
  Ok (tuple_pat_by ps dots)

-- so is a constructor without `..` over a variant without a written list
abbrev pub ctor_pat_by : RawVariantPath → List PatId → Option ℕ → RawPat
ctor_pat_by (variant.Variant v None) ps None = pat.TupleStruct v ps
ctor_pat_by (variant.Variant v None) ps (Some dots) = pat.Later (later.TupleStruct (variant.Variant v None) ps (Some dots))
ctor_pat_by (variant.Variant v (Some as_)) ps dots = pat.Later (later.TupleStruct (variant.Variant v (Some as_)) ps dots)
ctor_pat_by (variant.Type t) ps dots = pat.Later (later.TupleStruct (variant.Type t) ps dots)
ctor_pat_by (variant.Typed t name) ps dots = pat.Later (later.TupleStruct (variant.Typed t name) ps dots)
ctor_pat_by variant.Unresolved ps dots = pat.Later (later.TupleStruct variant.Unresolved ps dots)

unfoldable pub ctor_pat_in : Data → Result RawPat (List ℕ)
ctor_pat_in d = do
  named ← part variant_path_in 1 d
  ps ← part (list_in pat_id_in) 2 d
  dots ← part (option_in u32_in) 3 d
  Ok (ctor_pat_by named ps dots)

abbrev path_pat_by : AnyPath → RawPat
path_pat_by (any.Raw p) = pat.Path p
path_pat_by (any.Later p) = pat.Later (later.Path p)

unfoldable pub path_pat_in : Data → Result RawPat (List ℕ)
path_pat_in d = part path_in 1 d >>= λ p. Ok (path_pat_by p)

unfoldable pub record_pat_in : Data → Result LaterPat (List ℕ)
record_pat_in d = do
  named ← part variant_path_in 1 d
  fields ← part (list_in record_field_pat_in) 2 d
  Ok (later.Record named fields)

unfoldable pub range_pat_in : Data → Result LaterPat (List ℕ)
range_pat_in d = do
  l ← part (option_in expr_id_in) 1 d
  r ← part (option_in expr_id_in) 2 d
  Ok (later.Range l r)

unfoldable pub slice_pat_in : Data → Result LaterPat (List ℕ)
slice_pat_in d = do
  ps ← part (list_in pat_id_in) 1 d
  rest ← part (option_in pat_id_in) 2 d
  qs ← part (list_in pat_id_in) 3 d
  Ok (later.Slice ps rest qs)

unfoldable pub ref_pat_in : Data → Result LaterPat (List ℕ)
ref_pat_in d = do
  m ← part mutability_in 1 d
  p ← part pat_id_in 2 d
  Ok (later.Ref m p)

-- "missing", ["record", V, [[name, p]]], ["range", e?, e?], ["slice", [p], p?, [p]], ["ref", M, p], ["or", [p]], ["box", p],
-- ["const", e] or ["expr", e]
unfoldable pub later_pat_in : List ℕ × ℕ → Data → Result LaterPat (List ℕ)
later_pat_in t d =
    if is_tag t (codes "missing") 0 then Ok later.Missing else
    if is_tag t (codes "record") 3 then record_pat_in d else
    if is_tag t (codes "range") 3 then range_pat_in d else
    if is_tag t (codes "slice") 4 then slice_pat_in d else
    if is_tag t (codes "ref") 3 then ref_pat_in d else
    if is_tag t (codes "or") 2 then part (list_in pat_id_in) 1 d >>= (λ ps. Ok (later.Or ps)) else
    if is_tag t (codes "box") 2 then part pat_id_in 1 d >>= (λ p. Ok (later.Box p)) else
    if is_tag t (codes "const") 2 then part expr_id_in 1 d >>= (λ e. Ok (later.ConstBlock e)) else
    if is_tag t (codes "expr") 2 then part expr_id_in 1 d >>= (λ e. Ok (later.Expr e)) else
    Err []

-- "wild", ["bind", b, p?], ["tuple", [p], dots?], ["ctor", V, [p], dots?], ["path", P], ["lit", e] or one that inference
-- does not carry yet
unfoldable pub pat_in : Data → Result RawPat (List ℕ)
pat_in d = do
  t ← there (tag d)
  if is_tag t (codes "wild") 0 then Ok pat.Wild else
      if is_tag t (codes "bind") 3 then bind_in d else
      if is_tag t (codes "tuple") 3 then tuple_pat_in d else
      if is_tag t (codes "ctor") 4 then ctor_pat_in d else
      if is_tag t (codes "path") 2 then path_pat_in d else
      if is_tag t (codes "lit") 2 then part expr_id_in 1 d >>= (λ e. Ok (pat.Lit e)) else
      later_pat_in t d >>= (λ p. Ok (pat.Later p))
