-- The text of each kind of type, from the texts of its parts.
use Rattle.std.proofs.Common.{◌≡◌, ◌++◌, sym, ap, ◌∙◌, ℕ, List, map, Option, codes}
use Rattle.std.specs.Fmt.{decimal}
use Rattle.infer_report.specs.Words.{AdtId, CallableDefId, ClosureId, OpaqueId, TraitId, TypeAliasId, IntTy, UintTy, FloatTy, Mutability, Safety, Region, Const, GenericArg, GenericArg-F, fold-roll-GenericArg, TraitRef, AliasBound, Ty, Ty-F, fold-roll-Ty, RawFacts, int_text, uint_text, float_text, const_text, ref_text, ptr_text, label_text, safety_text, callable_text, tuple_text, joined, args_text, own_args, adt_text, projection_text, text_arg, text_step, text_bound, text_trait, arg_text, ty_text}
use Rattle.hir_types.specs.declared.ty.GenericArg.TheVariants as arg
use Rattle.hir_types.specs.declared.ty.Ty.TheVariants as ty

pub bool_text_is : (raw : RawFacts) → ty_text raw ty.Bool ≡ codes "bool"
bool_text_is raw = ap (ty_text raw) (sym ty.rolls-Bool) ∙ fold-roll-Ty (List ℕ) (List ℕ) (List ℕ) (List ℕ) text_arg (text_step raw) text_bound text_trait Ty-F.Bool

pub char_text_is : (raw : RawFacts) → ty_text raw ty.Char ≡ codes "char"
char_text_is raw = ap (ty_text raw) (sym ty.rolls-Char) ∙ fold-roll-Ty (List ℕ) (List ℕ) (List ℕ) (List ℕ) text_arg (text_step raw) text_bound text_trait Ty-F.Char

pub int_text_is : (raw : RawFacts) (i : IntTy) → ty_text raw (ty.Int i) ≡ int_text i
int_text_is raw i = ap (ty_text raw) (sym (ty.rolls-Int i)) ∙ fold-roll-Ty (List ℕ) (List ℕ) (List ℕ) (List ℕ) text_arg (text_step raw) text_bound text_trait (Ty-F.Int i)

pub uint_text_is : (raw : RawFacts) (u : UintTy) → ty_text raw (ty.Uint u) ≡ uint_text u
uint_text_is raw u = ap (ty_text raw) (sym (ty.rolls-Uint u)) ∙ fold-roll-Ty (List ℕ) (List ℕ) (List ℕ) (List ℕ) text_arg (text_step raw) text_bound text_trait (Ty-F.Uint u)

pub float_text_is : (raw : RawFacts) (f : FloatTy) → ty_text raw (ty.Float f) ≡ float_text f
float_text_is raw f = ap (ty_text raw) (sym (ty.rolls-Float f)) ∙ fold-roll-Ty (List ℕ) (List ℕ) (List ℕ) (List ℕ) text_arg (text_step raw) text_bound text_trait (Ty-F.Float f)

pub str_text_is : (raw : RawFacts) → ty_text raw ty.Str ≡ codes "str"
str_text_is raw = ap (ty_text raw) (sym ty.rolls-Str) ∙ fold-roll-Ty (List ℕ) (List ℕ) (List ℕ) (List ℕ) text_arg (text_step raw) text_bound text_trait Ty-F.Str

pub never_text_is : (raw : RawFacts) → ty_text raw ty.Never ≡ codes "!"
never_text_is raw = ap (ty_text raw) (sym ty.rolls-Never) ∙ fold-roll-Ty (List ℕ) (List ℕ) (List ℕ) (List ℕ) text_arg (text_step raw) text_bound text_trait Ty-F.Never

pub tuple_text_is : (raw : RawFacts) (ts : List Ty) → ty_text raw (ty.Tuple ts) ≡ tuple_text (map (ty_text raw) ts)
tuple_text_is raw ts = ap (ty_text raw) (sym (ty.rolls-Tuple ts)) ∙ fold-roll-Ty (List ℕ) (List ℕ) (List ℕ) (List ℕ) text_arg (text_step raw) text_bound text_trait (Ty-F.Tuple ts)

pub array_text_is : (raw : RawFacts) (t : Ty) (c : Const) → ty_text raw (ty.Array t c) ≡ codes "[" ++ ty_text raw t ++ codes "; " ++ const_text c ++ codes "]"
array_text_is raw t c = ap (ty_text raw) (sym (ty.rolls-Array t c)) ∙ fold-roll-Ty (List ℕ) (List ℕ) (List ℕ) (List ℕ) text_arg (text_step raw) text_bound text_trait (Ty-F.Array t c)

pub slice_text_is : (raw : RawFacts) (t : Ty) → ty_text raw (ty.Slice t) ≡ codes "[" ++ ty_text raw t ++ codes "]"
slice_text_is raw t = ap (ty_text raw) (sym (ty.rolls-Slice t)) ∙ fold-roll-Ty (List ℕ) (List ℕ) (List ℕ) (List ℕ) text_arg (text_step raw) text_bound text_trait (Ty-F.Slice t)

pub ref_text_is : (raw : RawFacts) (m : Mutability) (r : Region) (t : Ty) → ty_text raw (ty.Ref m r t) ≡ codes "&" ++ label_text r.0 ++ ref_text m ++ ty_text raw t
ref_text_is raw m r t = ap (ty_text raw) (sym (ty.rolls-Ref m r t)) ∙ fold-roll-Ty (List ℕ) (List ℕ) (List ℕ) (List ℕ) text_arg (text_step raw) text_bound text_trait (Ty-F.Ref m r t)

pub rawptr_text_is : (raw : RawFacts) (m : Mutability) (t : Ty) → ty_text raw (ty.RawPtr m t) ≡ codes "*" ++ ptr_text m ++ ty_text raw t
rawptr_text_is raw m t = ap (ty_text raw) (sym (ty.rolls-RawPtr m t)) ∙ fold-roll-Ty (List ℕ) (List ℕ) (List ℕ) (List ℕ) text_arg (text_step raw) text_bound text_trait (Ty-F.RawPtr m t)

pub adt_text_is : (raw : RawFacts) (i : AdtId) (xs : List GenericArg) → ty_text raw (ty.Adt i xs) ≡ adt_text raw i (map (arg_text raw) xs)
adt_text_is raw i xs = ap (ty_text raw) (sym (ty.rolls-Adt i xs)) ∙ fold-roll-Ty (List ℕ) (List ℕ) (List ℕ) (List ℕ) text_arg (text_step raw) text_bound text_trait (Ty-F.Adt i xs)

pub fndef_text_is : (raw : RawFacts) (i : CallableDefId) (xs : List GenericArg) → ty_text raw (ty.FnDef i xs) ≡ callable_text i ++ args_text (own_args raw i (map (arg_text raw) xs))
fndef_text_is raw i xs = ap (ty_text raw) (sym (ty.rolls-FnDef i xs)) ∙ fold-roll-Ty (List ℕ) (List ℕ) (List ℕ) (List ℕ) text_arg (text_step raw) text_bound text_trait (Ty-F.FnDef i xs)

pub fnptr_text_is : (raw : RawFacts) (s : Safety) (ts : List Ty) (t : Ty) → ty_text raw (ty.FnPtr s ts t) ≡ safety_text s ++ (codes "(" ++ joined (map (ty_text raw) ts) ++ codes ") -> " ++ ty_text raw t)
fnptr_text_is raw s ts t = ap (ty_text raw) (sym (ty.rolls-FnPtr s ts t)) ∙ fold-roll-Ty (List ℕ) (List ℕ) (List ℕ) (List ℕ) text_arg (text_step raw) text_bound text_trait (Ty-F.FnPtr s ts t)

pub closure_text_is : (raw : RawFacts) (i : ClosureId) (ts : List Ty) (t : Ty) → ty_text raw (ty.Closure i ts t) ≡ codes "closure e" ++ decimal i.0.0 ++ (codes "(" ++ joined (map (ty_text raw) ts) ++ codes ") -> " ++ ty_text raw t)
closure_text_is raw i ts t = ap (ty_text raw) (sym (ty.rolls-Closure i ts t)) ∙ fold-roll-Ty (List ℕ) (List ℕ) (List ℕ) (List ℕ) text_arg (text_step raw) text_bound text_trait (Ty-F.Closure i ts t)

pub dynamic_text_is : (raw : RawFacts) (o : Option TraitRef) (bs : List AliasBound) (ts : List TraitId) → ty_text raw (ty.Dynamic o bs ts) ≡ codes "{unknown}"
dynamic_text_is raw o bs ts = ap (ty_text raw) (sym (ty.rolls-Dynamic o bs ts)) ∙ fold-roll-Ty (List ℕ) (List ℕ) (List ℕ) (List ℕ) text_arg (text_step raw) text_bound text_trait (Ty-F.Dynamic o bs ts)

pub param_text_is : (raw : RawFacts) (n : ℕ) → ty_text raw (ty.Param n) ≡ codes "param" ++ decimal n
param_text_is raw n = ap (ty_text raw) (sym (ty.rolls-Param n)) ∙ fold-roll-Ty (List ℕ) (List ℕ) (List ℕ) (List ℕ) text_arg (text_step raw) text_bound text_trait (Ty-F.Param n)

pub projection_text_is : (raw : RawFacts) (i : TypeAliasId) (xs : List GenericArg) → ty_text raw (ty.Projection i xs) ≡ projection_text raw i (map (arg_text raw) xs)
projection_text_is raw i xs = ap (ty_text raw) (sym (ty.rolls-Projection i xs)) ∙ fold-roll-Ty (List ℕ) (List ℕ) (List ℕ) (List ℕ) text_arg (text_step raw) text_bound text_trait (Ty-F.Projection i xs)

pub associated_text_is : (raw : RawFacts) (i : TypeAliasId) (xs : List GenericArg) → ty_text raw (ty.AssociatedType i xs) ≡ projection_text raw i (map (arg_text raw) xs)
associated_text_is raw i xs = ap (ty_text raw) (sym (ty.rolls-AssociatedType i xs)) ∙ fold-roll-Ty (List ℕ) (List ℕ) (List ℕ) (List ℕ) text_arg (text_step raw) text_bound text_trait (Ty-F.AssociatedType i xs)

pub opaque_text_is : (raw : RawFacts) (i : OpaqueId) (xs : List GenericArg) → ty_text raw (ty.Opaque i xs) ≡ codes "{unknown}"
opaque_text_is raw i xs = ap (ty_text raw) (sym (ty.rolls-Opaque i xs)) ∙ fold-roll-Ty (List ℕ) (List ℕ) (List ℕ) (List ℕ) text_arg (text_step raw) text_bound text_trait (Ty-F.Opaque i xs)

pub error_text_is : (raw : RawFacts) → ty_text raw ty.Error ≡ codes "{unknown}"
error_text_is raw = ap (ty_text raw) (sym ty.rolls-Error) ∙ fold-roll-Ty (List ℕ) (List ℕ) (List ℕ) (List ℕ) text_arg (text_step raw) text_bound text_trait Ty-F.Error

pub var_text_is : (raw : RawFacts) (n : ℕ) → ty_text raw (ty.Var n) ≡ codes "?" ++ decimal n
var_text_is raw n = ap (ty_text raw) (sym (ty.rolls-Var n)) ∙ fold-roll-Ty (List ℕ) (List ℕ) (List ℕ) (List ℕ) text_arg (text_step raw) text_bound text_trait (Ty-F.Var n)

pub intvar_text_is : (raw : RawFacts) (n : ℕ) → ty_text raw (ty.IntVar n) ≡ codes "?" ++ decimal n
intvar_text_is raw n = ap (ty_text raw) (sym (ty.rolls-IntVar n)) ∙ fold-roll-Ty (List ℕ) (List ℕ) (List ℕ) (List ℕ) text_arg (text_step raw) text_bound text_trait (Ty-F.IntVar n)

pub hole_text_is : (raw : RawFacts) → ty_text raw ty.Hole ≡ codes "_"
hole_text_is raw = ap (ty_text raw) (sym ty.rolls-Hole) ∙ fold-roll-Ty (List ℕ) (List ℕ) (List ℕ) (List ℕ) text_arg (text_step raw) text_bound text_trait Ty-F.Hole

-- ---- arguments

pub arg_ty_text_is : (raw : RawFacts) (t : Ty) → arg_text raw (arg.Ty t) ≡ ty_text raw t
arg_ty_text_is raw t = ap (arg_text raw) (sym (arg.rolls-Ty t)) ∙ fold-roll-GenericArg (List ℕ) (List ℕ) (List ℕ) (List ℕ) text_arg (text_step raw) text_bound text_trait (GenericArg-F.Ty t)

pub arg_const_text_is : (raw : RawFacts) (c : Const) → arg_text raw (arg.Const c) ≡ const_text c
arg_const_text_is raw c = ap (arg_text raw) (sym (arg.rolls-Const c)) ∙ fold-roll-GenericArg (List ℕ) (List ℕ) (List ℕ) (List ℕ) text_arg (text_step raw) text_bound text_trait (GenericArg-F.Const c)

-- ---- all kinds

pub ruleset ty_text_is = (bool_text_is, char_text_is, int_text_is, uint_text_is, float_text_is, str_text_is, never_text_is, tuple_text_is, array_text_is, slice_text_is, ref_text_is, rawptr_text_is, adt_text_is, fndef_text_is, fnptr_text_is, closure_text_is, dynamic_text_is, param_text_is, projection_text_is, associated_text_is, opaque_text_is, error_text_is, var_text_is, intvar_text_is, hole_text_is)

pub ruleset arg_text_is = (arg_ty_text_is, arg_const_text_is)
