-- What is reported of a table: a line for the definition, for each expression, pattern and binding,
-- and for each complaint, and the number of complaints last.
use Rattle.std.specs.Prelude.{ℕ, zero, suc, ◌+◌, List, [], ◌∷◌, ◌++◌, Option, Some, None, codes, count_by, sum_by, is_some, length, map, min, slice_get, take}
use Rattle.std.specs.Fmt.{decimal}
use Rattle.infer_result.specs.Words.{AdtId, CallableDefId, TypeAliasId, VariantId, ExprOrPatId, DefWithBodyId, Goal, RawAdt, RawAlias, RawFn, RawTrait, RawFacts, RawVariant, adt_params, IntTy, UintTy, FloatTy, Mutability, Safety, Const, AliasBound-F, GenericArg, GenericArg-F, fold-GenericArg, TraitRef-F, out-TraitRef, Ty, Ty-F, fold-Ty}
use Rattle.hir_types.specs.declared.ids.CallableDefId.TheVariants as callable
use Rattle.hir_types.specs.declared.ids.ExprOrPatId.TheVariants as node
use Rattle.hir_types.specs.declared.ids.DefWithBodyId.TheVariants as def
use Rattle.hir_types.specs.declared.goal.Goal.TheVariants as goal
use Rattle.hir_types.specs.declared.ty.IntTy.TheVariants as int
use Rattle.hir_types.specs.declared.ty.UintTy.TheVariants as uint
use Rattle.hir_types.specs.declared.ty.FloatTy.TheVariants as float
use Rattle.hir_types.specs.declared.ty.Mutability.TheVariants as mutability
use Rattle.hir_types.specs.declared.ty.Safety.TheVariants as safety
use Rattle.hir_types.specs.declared.ty.Const.TheVariants as const
use Rattle.infer_result.specs.declared.modes.BindingMode.{BindingMode}
use Rattle.infer_result.specs.declared.modes.BindingMode.TheVariants as mode
use Rattle.infer_result.specs.declared.diagnostics.InferenceDiagnostic.{InferenceDiagnostic}
use Rattle.infer_result.specs.declared.diagnostics.InferenceDiagnostic.TheVariants as diagnostic
use Rattle.infer_result.specs.declared.gaps.Gap.{Gap}
use Rattle.infer_result.specs.declared.gaps.Gap.TheVariants as gap
use Rattle.infer_result.specs.declared.result.TypeMismatch.{TypeMismatch}
use Rattle.infer_result.specs.declared.result.InferenceResult.{InferenceResult}
use Rattle.infer_result.specs.Table.{recorded, gaps_at}

-- ---- types

abbrev pub int_text : IntTy → List ℕ
int_text int.Isize = codes "isize"
int_text int.I8 = codes "i8"
int_text int.I16 = codes "i16"
int_text int.I32 = codes "i32"
int_text int.I64 = codes "i64"
int_text int.I128 = codes "i128"

abbrev pub uint_text : UintTy → List ℕ
uint_text uint.Usize = codes "usize"
uint_text uint.U8 = codes "u8"
uint_text uint.U16 = codes "u16"
uint_text uint.U32 = codes "u32"
uint_text uint.U64 = codes "u64"
uint_text uint.U128 = codes "u128"

abbrev pub float_text : FloatTy → List ℕ
float_text float.F16 = codes "f16"
float_text float.F32 = codes "f32"
float_text float.F64 = codes "f64"
float_text float.F128 = codes "f128"

abbrev pub const_text : Const → List ℕ
const_text (const.Value n) = decimal n
const_text (const.Param n) = codes "param" ++ decimal n
const_text const.Unknown = codes "{const}"
const_text (const.Var n) = codes "?" ++ decimal n
const_text const.Hole = codes "_"

-- what stands after the `&` of a reference, and the `*` of a raw pointer
abbrev pub ref_text : Mutability → List ℕ
ref_text mutability.Not = []
ref_text mutability.Mut = codes "mut "

abbrev pub ptr_text : Mutability → List ℕ
ptr_text mutability.Not = codes "const "
ptr_text mutability.Mut = codes "mut "

-- a label with a space, where there is one
abbrev pub label_text : List ℕ → List ℕ
label_text [] = []
label_text (c ∷ cs) = c ∷ cs ++ codes " "

abbrev pub safety_text : Safety → List ℕ
safety_text safety.Safe = codes "fn"
safety_text safety.Unsafe = codes "unsafe fn"

-- what stands before the text at a position
abbrev pub separator : ℕ → List ℕ
separator zero = []
separator (suc n) = codes ", "

-- joined by comma and space
abbrev pub joined : List (List ℕ) → List ℕ
joined [] = []
joined (x ∷ []) = x
joined (x ∷ y ∷ ys) = x ++ codes ", " ++ joined (y ∷ ys)

-- a tuple of one has a comma
abbrev pub tuple_text : List (List ℕ) → List ℕ
tuple_text [] = codes "()"
tuple_text (x ∷ []) = codes "(" ++ x ++ codes ",)"
tuple_text (x ∷ y ∷ ys) = codes "(" ++ joined (x ∷ y ∷ ys) ++ codes ")"

-- inputs and output, as of a function
abbrev pub signature_text : List (List ℕ) → List ℕ → List ℕ
signature_text ts t = codes "(" ++ joined ts ++ codes ") -> " ++ t

-- generic arguments, where there are any
abbrev pub args_text : List (List ℕ) → List ℕ
args_text [] = []
args_text (x ∷ xs) = codes "<" ++ joined (x ∷ xs) ++ codes ">"

-- an adt is named as in the source
abbrev pub named_text : Option RawAdt → List (List ℕ) → List ℕ
named_text None xs = codes "{unknown}"
named_text (Some a) xs = a.name ++ args_text xs

-- at its arguments, where it is in range
abbrev pub adt_text : RawFacts → AdtId → List (List ℕ) → List ℕ
adt_text raw i xs = named_text (slice_get raw.adts i.0) xs

-- a function or a constructor is named by its number
abbrev pub callable_text : CallableDefId → List ℕ
callable_text (callable.FunctionId f) = codes "fn" ++ decimal f.0
callable_text (callable.VariantId v) = codes "variant" ++ decimal v.0

-- how many of n arguments are those of a function's own parameters: those for associated types in its signature come behind them
abbrev pub fn_own_count : Option RawFn → ℕ → ℕ
fn_own_count None n = n
fn_own_count (Some f) n = min (length f.params) n

-- of a constructor's those of its adt's parameters: those for associated types in its fields come behind them
abbrev pub adt_own_count : Option ℕ → ℕ → ℕ
adt_own_count None n = n
adt_own_count (Some m) n = min m n

abbrev pub variant_own_count : RawFacts → Option RawVariant → ℕ → ℕ
variant_own_count raw None n = n
variant_own_count raw (Some x) n = adt_own_count (adt_params raw x.adt) n

abbrev pub own_count : RawFacts → CallableDefId → ℕ → ℕ
own_count raw (callable.FunctionId f) n = fn_own_count (slice_get raw.fns f.0) n
own_count raw (callable.VariantId v) n = variant_own_count raw (slice_get raw.variants v.0) n

-- these are written
abbrev pub own_args : RawFacts → CallableDefId → List (List ℕ) → List (List ℕ)
own_args raw i xs = take (own_count raw i (length xs)) xs

-- the self type and a trait at its other arguments, with this between them
abbrev pub implements_text : List ℕ → Option RawTrait → List (List ℕ) → List ℕ
implements_text between (Some x) (t ∷ xs) = t ++ between ++ x.name ++ args_text xs
implements_text between _ _ = codes "{unknown}"

-- an associated type at the arguments of its trait
abbrev pub alias_text : RawFacts → Option RawAlias → List (List ℕ) → List ℕ
alias_text raw None xs = codes "{unknown}"
alias_text raw (Some k) xs = codes "<" ++ implements_text (codes " as ") (slice_get raw.traits k.trait_.0) xs ++ codes ">::" ++ k.name

-- where it is in range
abbrev pub projection_text : RawFacts → TypeAliasId → List (List ℕ) → List ℕ
projection_text raw i xs = alias_text raw (slice_get raw.aliases i.0) xs

abbrev pub text_arg : GenericArg-F (List ℕ) (List ℕ) (List ℕ) (List ℕ) → List ℕ
text_arg (GenericArg-F.Ty t) = t
text_arg (GenericArg-F.Const c) = const_text c

abbrev pub text_bound : AliasBound-F (List ℕ) (List ℕ) (List ℕ) (List ℕ) → List ℕ
text_bound b = b.ty

abbrev pub text_trait : TraitRef-F (List ℕ) (List ℕ) (List ℕ) (List ℕ) → List ℕ
text_trait t = joined t.args

-- One level, with the text of each type inside. `dyn` traits and opaque types, which the facts do not carry yet, are `{unknown}`: no
-- type that fits the facts is one.
abbrev pub text_step : RawFacts → Ty-F (List ℕ) (List ℕ) (List ℕ) (List ℕ) → List ℕ
text_step raw Ty-F.Bool = codes "bool"
text_step raw Ty-F.Char = codes "char"
text_step raw (Ty-F.Int i) = int_text i
text_step raw (Ty-F.Uint u) = uint_text u
text_step raw (Ty-F.Float f) = float_text f
text_step raw Ty-F.Str = codes "str"
text_step raw Ty-F.Never = codes "!"
text_step raw (Ty-F.Tuple ts) = tuple_text ts
text_step raw (Ty-F.Array t c) = codes "[" ++ t ++ codes "; " ++ const_text c ++ codes "]"
text_step raw (Ty-F.Slice t) = codes "[" ++ t ++ codes "]"
text_step raw (Ty-F.Ref m r t) = codes "&" ++ label_text r.0 ++ ref_text m ++ t
text_step raw (Ty-F.RawPtr m t) = codes "*" ++ ptr_text m ++ t
text_step raw (Ty-F.Adt i xs) = adt_text raw i xs
text_step raw (Ty-F.FnDef i xs) = callable_text i ++ args_text (own_args raw i xs)
text_step raw (Ty-F.FnPtr s ts t) = safety_text s ++ signature_text ts t
text_step raw (Ty-F.Closure i ts t) = codes "closure e" ++ decimal i.0.0 ++ signature_text ts t
text_step raw (Ty-F.Dynamic o bs ts) = codes "{unknown}"
text_step raw (Ty-F.Param n) = codes "param" ++ decimal n
text_step raw (Ty-F.Projection i xs) = projection_text raw i xs
text_step raw (Ty-F.AssociatedType i xs) = projection_text raw i xs
text_step raw (Ty-F.Opaque i xs) = codes "{unknown}"
text_step raw Ty-F.Error = codes "{unknown}"
text_step raw (Ty-F.Var n) = codes "?" ++ decimal n
text_step raw (Ty-F.IntVar n) = codes "?" ++ decimal n
text_step raw Ty-F.Hole = codes "_"

abbrev pub ty_text : RawFacts → Ty → List ℕ
ty_text raw = fold-Ty (List ℕ) (List ℕ) (List ℕ) (List ℕ) text_arg (text_step raw) text_bound text_trait

abbrev pub arg_text : RawFacts → GenericArg → List ℕ
arg_text raw =
    fold-GenericArg (List ℕ) (List ℕ) (List ℕ) (List ℕ) text_arg (text_step raw) text_bound text_trait

-- the type of a node, where it has one
abbrev pub type_text : RawFacts → Option Ty → List ℕ
type_text raw None = codes "{unknown}"
type_text raw (Some t) = ty_text raw t

-- ---- goals

unfoldable pub goal_text : RawFacts → Goal → List ℕ
goal_text raw (goal.Trait r) =
    implements_text (codes ": ") (slice_get raw.traits (out-TraitRef r).id.0) (map (arg_text raw) (out-TraitRef r).args)
goal_text raw (goal.Projection k xs t) = projection_text raw k (map (arg_text raw) xs) ++ codes " == " ++ ty_text raw t

-- ---- lines

abbrev pub line : List ℕ → List ℕ
line text = text ++ 10 ∷ []

-- a line for each entry, the first of which has number i
abbrev pub lines_from : {A : Type 0} → (ℕ → A → List ℕ) → ℕ → List A → List ℕ
lines_from f i [] = []
lines_from f i (x ∷ xs) = f i x ++ lines_from f (i + 1) xs

abbrev pub def_line : DefWithBodyId → List ℕ
def_line (def.FunctionId f) = line (codes "fn " ++ decimal f.0)
def_line (def.ConstId c) = line (codes "const " ++ decimal c.0)
def_line (def.StaticId s) = line (codes "static " ++ decimal s.0)
def_line (def.VariantId v) = line (codes "variant " ++ decimal v.0)

-- the variant that is recorded, where one is
abbrev pub variant_text : Option VariantId → List ℕ
variant_text None = []
variant_text (Some v) = codes " = variant" ++ decimal v.0

abbrev pub expr_line : RawFacts → List (Option VariantId) → ℕ → Option Ty → List ℕ
expr_line raw variants i t =
    line (codes "e" ++ decimal i ++ codes " " ++ type_text raw t ++ variant_text (recorded variants i))

-- how a pattern binds, where it does
abbrev pub mode_text : Option BindingMode → List ℕ
mode_text None = []
mode_text (Some mode.Move) = codes " move"
mode_text (Some (mode.Ref mutability.Not)) = codes " ref"
mode_text (Some (mode.Ref mutability.Mut)) = codes " refmut"

abbrev pub pat_line : RawFacts → List (Option BindingMode) → List (Option VariantId) → ℕ → Option Ty → List ℕ
pat_line raw modes variants i t =
    line (codes "p" ++ decimal i ++ codes " " ++ type_text raw t ++ mode_text (recorded modes i)
    ++ variant_text (recorded variants i))

abbrev pub binding_line : RawFacts → ℕ → Option Ty → List ℕ
binding_line raw i t = line (codes "b" ++ decimal i ++ codes " " ++ type_text raw t)

-- the letter is that of expressions or of patterns
unfoldable pub mismatch_head : List ℕ → ℕ → List ℕ
mismatch_head letter i = codes "TypeMismatch " ++ letter ++ decimal i

unfoldable pub type_field : RawFacts → List ℕ → Ty → List ℕ
type_field raw name t = name ++ ty_text raw t

-- what was wanted, and what stands there
abbrev pub mismatch_fields : RawFacts → TypeMismatch → List ℕ
mismatch_fields raw m =
    type_field raw (codes " expected=") m.expected ++ type_field raw (codes " actual=") m.actual

abbrev pub mismatch_line : RawFacts → List ℕ → ℕ → Option TypeMismatch → List ℕ
mismatch_line raw letter i None = []
mismatch_line raw letter i (Some m) = line (mismatch_head letter i ++ mismatch_fields raw m)

unfoldable pub node_text : ExprOrPatId → List ℕ
node_text (node.ExprId e) = codes "e" ++ decimal e.0
node_text (node.PatId p) = codes "p" ++ decimal p.0

-- two numbers that differ
unfoldable pub counts_text : ℕ → ℕ → List ℕ
counts_text expected found = codes " expected=" ++ decimal expected ++ codes " found=" ++ decimal found

-- another complaint: its name, its node, and what it says of it
unfoldable pub diagnostic_text : RawFacts → InferenceDiagnostic → List ℕ
diagnostic_text raw (diagnostic.MismatchedArgCount n expected found) =
    codes "MismatchedArgCount e" ++ decimal n.0 ++ counts_text expected found
diagnostic_text raw (diagnostic.MismatchedTupleStructPatArgCount n expected found) =
    codes "MismatchedTupleStructPatArgCount " ++ node_text n ++ counts_text expected found
diagnostic_text raw (diagnostic.ExpectedFunction n found) =
    codes "ExpectedFunction e" ++ decimal n.0 ++ type_field raw (codes " found=") found

abbrev pub diagnostic_line : RawFacts → Option InferenceDiagnostic → List ℕ
diagnostic_line raw None = []
diagnostic_line raw (Some x) = line (diagnostic_text raw x)

-- what could not be shown: its name, its node, and the goal; or the associated type and the two types that it is
unfoldable pub gap_text : RawFacts → Gap → List ℕ
gap_text raw (gap.Unproved n g) = codes "Unproved " ++ node_text n ++ codes " goal=" ++ goal_text raw g
gap_text raw (gap.Clash n a t u) =
    codes "Clash " ++ node_text n ++ type_field raw (codes " alias=") a ++ type_field raw (codes " first=") t
    ++ type_field raw (codes " second=") u

-- whatever its number at the node
abbrev pub gap_line : RawFacts → ℕ → Gap → List ℕ
gap_line raw i x = line (gap_text raw x)

-- the complaints at an expression or a pattern: its mismatch, the other one, then its gaps
abbrev pub complaints : RawFacts → List ℕ → List (Option InferenceDiagnostic) → List (List Gap) → ℕ → Option TypeMismatch
    → List ℕ
complaints raw letter diagnostics gaps i m = mismatch_line raw letter i m
    ++ diagnostic_line raw (recorded diagnostics i) ++ lines_from (gap_line raw) 0 (gaps_at gaps i)

-- ---- the whole

abbrev pub complaint_count : InferenceResult → ℕ
complaint_count r =
    count_by is_some r.expr_mismatches + count_by is_some r.expr_diagnostics + count_by is_some r.pat_mismatches + count_by is_some
    r.pat_diagnostics
    + sum_by length r.expr_gaps + sum_by length r.pat_gaps

abbrev pub report : DefWithBodyId → RawFacts → InferenceResult → List ℕ
report d raw r =
    def_line d ++ lines_from (expr_line raw r.expr_variants) 0 r.type_of_expr
    ++ lines_from (pat_line raw r.binding_modes r.pat_variants) 0 r.type_of_pat
    ++ lines_from (binding_line raw) 0 r.type_of_binding
    ++ lines_from (complaints raw (codes "e") r.expr_diagnostics r.expr_gaps) 0 r.expr_mismatches
    ++ lines_from (complaints raw (codes "p") r.pat_diagnostics r.pat_gaps) 0 r.pat_mismatches
    ++ line (codes "complaints " ++ decimal (complaint_count r))
