-- What stands for paths.
use Rattle.std.specs.Prelude.{ℕ, List, [], Option, Some, None, Result, Ok, Err, codes, if◌then◌else◌}
use Rattle.serde_json.specs.Data.{Data}
use Rattle.infer_text.specs.Words.{BindingId, FunctionId, VariantId, RawArg, LaterPath, RawVariantPath}
use Rattle.infer_text.specs.Words.hir_raw.declared.raw.RawPath.TheVariants as path
use Rattle.infer_text.specs.Words.hir_raw.declared.later.LaterPath.TheVariants as later
use Rattle.infer_text.specs.Words.hir_raw.declared.later.RawVariantPath.TheVariants as variant
use Rattle.infer_text.specs.declared.paths.AnyPath.{AnyPath}
use Rattle.infer_text.specs.declared.paths.AnyPath.TheVariants as any
use Rattle.infer_text.specs.Reading.{◌>>=◌, there, part, tag, is_tag, bool_in, text_in, u32_in}
use Rattle.infer_text.specs.Leaves.{trait_in, variant_id_in, type_ref_in, function_id_in, const_id_in, static_id_in, impl_id_in, binding_id_in}
use Rattle.infer_text.specs.WrittenArgs.{written_args_in}

-- ---- values

-- those of the first three kinds without a written list are carried
abbrev local_by : BindingId → Option (List RawArg) → AnyPath
local_by v None = any.Raw (path.Local v)
local_by v (Some as_) = any.Later (later.Local v as_)

unfoldable pub local_in : Data → Result AnyPath (List ℕ)
local_in d = do
  v ← part binding_id_in 1 d
  as_ ← part written_args_in 2 d
  Ok (local_by v as_)

abbrev function_by : FunctionId → Option (List RawArg) → AnyPath
function_by f None = any.Raw (path.Function f)
function_by f (Some as_) = any.Later (later.Function f as_)

unfoldable pub function_in : Data → Result AnyPath (List ℕ)
function_in d = do
  f ← part function_id_in 1 d
  as_ ← part written_args_in 2 d
  Ok (function_by f as_)

abbrev ctor_by : VariantId → Option (List RawArg) → AnyPath
ctor_by v None = any.Raw (path.Ctor v)
ctor_by v (Some as_) = any.Later (later.Ctor v as_)

unfoldable pub ctor_path_in : Data → Result AnyPath (List ℕ)
ctor_path_in d = do
  v ← part variant_id_in 1 d
  as_ ← part written_args_in 2 d
  Ok (ctor_by v as_)

unfoldable pub const_path_in : Data → Result LaterPath (List ℕ)
const_path_in d = do
  c ← part const_id_in 1 d
  as_ ← part written_args_in 2 d
  Ok (later.Const c as_)

unfoldable pub static_path_in : Data → Result LaterPath (List ℕ)
static_path_in d = do
  s ← part static_id_in 1 d
  as_ ← part written_args_in 2 d
  Ok (later.Static s as_)

unfoldable pub typed_path_in : Data → Result LaterPath (List ℕ)
typed_path_in d = do
  t ← part type_ref_in 1 d
  name ← part text_in 2 d
  as_ ← part written_args_in 3 d
  Ok (later.Typed t name as_)

unfoldable pub trait_path_in : Data → Result LaterPath (List ℕ)
trait_path_in d = do
  t ← part trait_in 1 d
  as_ ← part written_args_in 2 d
  name ← part text_in 3 d
  bs ← part written_args_in 4 d
  Ok (later.Trait t as_ name bs)

unfoldable pub self_path_in : Data → Result LaterPath (List ℕ)
self_path_in d = do
  i ← part impl_id_in 1 d
  as_ ← part written_args_in 2 d
  Ok (later.SelfCtor i as_)

unfoldable pub const_param_in : Data → Result LaterPath (List ℕ)
const_param_in d = do
  n ← part u32_in 1 d
  as_ ← part written_args_in 2 d
  Ok (later.ConstParam n as_)

-- ["const", c, As], ["static", s, As], ["typed", TYPE, name, As], ["trait", t, As, name, As], ["implself", i, As],
-- ["constparam", n, As] or ["unresolved", ident]
unfoldable pub later_path_in : List ℕ × ℕ → Data → Result LaterPath (List ℕ)
later_path_in t d =
    if is_tag t (codes "const") 3 then const_path_in d else
    if is_tag t (codes "static") 3 then static_path_in d else
    if is_tag t (codes "typed") 4 then typed_path_in d else
    if is_tag t (codes "trait") 5 then trait_path_in d else
    if is_tag t (codes "implself") 3 then self_path_in d else
    if is_tag t (codes "constparam") 3 then const_param_in d else
    if is_tag t (codes "unresolved") 2 then part bool_in 1 d >>= (λ ident. Ok (later.Unresolved ident)) else
    Err []

-- ["local", b, As], ["fn", f, As], ["ctor", v, As] or one of these
unfoldable pub path_in : Data → Result AnyPath (List ℕ)
path_in d = do
  t ← there (tag d)
  if is_tag t (codes "local") 3 then local_in d else
      if is_tag t (codes "fn") 3 then function_in d else
      if is_tag t (codes "ctor") 3 then ctor_path_in d else
      later_path_in t d >>= (λ p. Ok (any.Later p))

-- ---- variants

unfoldable pub named_variant_in : Data → Result RawVariantPath (List ℕ)
named_variant_in d = do
  v ← part variant_id_in 1 d
  as_ ← part written_args_in 2 d
  Ok (variant.Variant v as_)

unfoldable pub typed_variant_in : Data → Result RawVariantPath (List ℕ)
typed_variant_in d = do
  t ← part type_ref_in 1 d
  name ← part text_in 2 d
  Ok (variant.Typed t name)

-- ["variant", v, As], ["type", TYPE], ["typed", TYPE, name] or "unresolved"
unfoldable pub variant_path_in : Data → Result RawVariantPath (List ℕ)
variant_path_in d = do
  t ← there (tag d)
  if is_tag t (codes "variant") 3 then named_variant_in d else
      if is_tag t (codes "type") 2 then part type_ref_in 1 d >>= (λ w. Ok (variant.Type w)) else
      if is_tag t (codes "typed") 3 then typed_variant_in d else
      if is_tag t (codes "unresolved") 0 then Ok variant.Unresolved else
      Err []
