-- `{unknown}` stands in a type where it stands in a part of it.
use Rattle.std.specs.Prelude.{ℕ, ◌≡◌, Bool, true, false, ◌||◌, List, [], ◌∷◌, map, Option, Some, None}
use Rattle.std.specs.List.{list_any}
use Rattle.std.specs.Option.{option_map}
use Rattle.std.proofs.Common.{refl, sym, ap, ◌∙◌}
use Rattle.infer_result.specs.Words.{AdtId, CallableDefId, ClosureId, OpaqueId, TraitId, TypeAliasId, IntTy, UintTy, FloatTy, Mutability, Safety, Region, Const, GenericArg, GenericArg-F, fold-roll-GenericArg, TraitRef, fold-roll-TraitRef, AliasBound, fold-roll-AliasBound, Ty, Ty-F, fold-roll-Ty, so_or_none}
use Rattle.hir_types.specs.declared.ty.GenericArg.TheVariants as arg
use Rattle.hir_types.specs.declared.ty.Ty.TheVariants as ty
use Rattle.infer_result.specs.Unknown.{unknown_const, unknown_arg, unknown_bound, unknown_trait, unknown_step, has_unknown, arg_has_unknown, bound_has_unknown, trait_has_unknown}

any_map : {X : Type 0} (f : X → Bool) (xs : List X) → list_any (λ b. b) (map f xs) ≡ list_any f xs
any_map f [] = refl
any_map f (x ∷ xs) = λ i. f x || any_map f xs i

pub has_unknown_bool : has_unknown ty.Bool ≡ false
has_unknown_bool = ap has_unknown (sym ty.rolls-Bool) ∙ fold-roll-Ty Bool Bool Bool Bool unknown_arg unknown_step unknown_bound
    unknown_trait Ty-F.Bool

pub has_unknown_char : has_unknown ty.Char ≡ false
has_unknown_char = ap has_unknown (sym ty.rolls-Char) ∙ fold-roll-Ty Bool Bool Bool Bool unknown_arg unknown_step unknown_bound
    unknown_trait Ty-F.Char

pub has_unknown_int : (i : IntTy) → has_unknown (ty.Int i) ≡ false
has_unknown_int i = ap has_unknown (sym (ty.rolls-Int i)) ∙ fold-roll-Ty Bool Bool Bool Bool unknown_arg unknown_step unknown_bound
    unknown_trait (Ty-F.Int i)

pub has_unknown_uint : (i : UintTy) → has_unknown (ty.Uint i) ≡ false
has_unknown_uint i = ap has_unknown (sym (ty.rolls-Uint i)) ∙ fold-roll-Ty Bool Bool Bool Bool unknown_arg unknown_step unknown_bound
    unknown_trait (Ty-F.Uint i)

pub has_unknown_float : (f : FloatTy) → has_unknown (ty.Float f) ≡ false
has_unknown_float f = ap has_unknown (sym (ty.rolls-Float f)) ∙ fold-roll-Ty Bool Bool Bool Bool unknown_arg unknown_step unknown_bound
    unknown_trait (Ty-F.Float f)

pub has_unknown_str : has_unknown ty.Str ≡ false
has_unknown_str = ap has_unknown (sym ty.rolls-Str) ∙ fold-roll-Ty Bool Bool Bool Bool unknown_arg unknown_step unknown_bound unknown_trait
    Ty-F.Str

pub has_unknown_never : has_unknown ty.Never ≡ false
has_unknown_never = ap has_unknown (sym ty.rolls-Never) ∙ fold-roll-Ty Bool Bool Bool Bool unknown_arg unknown_step unknown_bound
    unknown_trait Ty-F.Never

pub has_unknown_tuple : (ts : List Ty) → has_unknown (ty.Tuple ts) ≡ list_any has_unknown ts
has_unknown_tuple ts = ap has_unknown (sym (ty.rolls-Tuple ts)) ∙
    (fold-roll-Ty Bool Bool Bool Bool unknown_arg unknown_step unknown_bound unknown_trait (Ty-F.Tuple ts) ∙ any_map has_unknown ts)

pub has_unknown_array : (t : Ty) (c : Const) → has_unknown (ty.Array t c) ≡ (has_unknown t || unknown_const c)
has_unknown_array t c = ap has_unknown (sym (ty.rolls-Array t c)) ∙ fold-roll-Ty Bool Bool Bool Bool unknown_arg unknown_step unknown_bound
    unknown_trait (Ty-F.Array t c)

pub has_unknown_slice : (t : Ty) → has_unknown (ty.Slice t) ≡ has_unknown t
has_unknown_slice t = ap has_unknown (sym (ty.rolls-Slice t)) ∙ fold-roll-Ty Bool Bool Bool Bool unknown_arg unknown_step unknown_bound
    unknown_trait (Ty-F.Slice t)

pub has_unknown_ref : (m : Mutability) (r : Region) (t : Ty) → has_unknown (ty.Ref m r t) ≡ has_unknown t
has_unknown_ref m r t = ap has_unknown (sym (ty.rolls-Ref m r t)) ∙ fold-roll-Ty Bool Bool Bool Bool unknown_arg unknown_step unknown_bound
    unknown_trait (Ty-F.Ref m r t)

pub has_unknown_raw_ptr : (m : Mutability) (t : Ty) → has_unknown (ty.RawPtr m t) ≡ has_unknown t
has_unknown_raw_ptr m t = ap has_unknown (sym (ty.rolls-RawPtr m t)) ∙ fold-roll-Ty Bool Bool Bool Bool unknown_arg unknown_step
    unknown_bound unknown_trait (Ty-F.RawPtr m t)

pub has_unknown_adt : (i : AdtId) (xs : List GenericArg) → has_unknown (ty.Adt i xs) ≡ list_any arg_has_unknown xs
has_unknown_adt i xs = ap has_unknown (sym (ty.rolls-Adt i xs)) ∙
    (fold-roll-Ty Bool Bool Bool Bool unknown_arg unknown_step unknown_bound unknown_trait (Ty-F.Adt i xs) ∙ any_map arg_has_unknown xs)

pub has_unknown_fn_def : (i : CallableDefId) (xs : List GenericArg) → has_unknown (ty.FnDef i xs) ≡ list_any arg_has_unknown xs
has_unknown_fn_def i xs = ap has_unknown (sym (ty.rolls-FnDef i xs)) ∙
    (fold-roll-Ty Bool Bool Bool Bool unknown_arg unknown_step unknown_bound unknown_trait (Ty-F.FnDef i xs) ∙ any_map arg_has_unknown xs)

pub has_unknown_projection : (i : TypeAliasId) (xs : List GenericArg) → has_unknown (ty.Projection i xs) ≡ list_any arg_has_unknown xs
has_unknown_projection i xs = ap has_unknown (sym (ty.rolls-Projection i xs)) ∙
    (fold-roll-Ty Bool Bool Bool Bool unknown_arg unknown_step unknown_bound unknown_trait (Ty-F.Projection i xs) ∙ any_map arg_has_unknown
    xs)

pub has_unknown_associated : (i : TypeAliasId) (xs : List GenericArg) → has_unknown (ty.AssociatedType i xs) ≡ list_any arg_has_unknown xs
has_unknown_associated i xs = ap has_unknown (sym (ty.rolls-AssociatedType i xs)) ∙
    (fold-roll-Ty Bool Bool Bool Bool unknown_arg unknown_step unknown_bound unknown_trait (Ty-F.AssociatedType i xs) ∙ any_map
    arg_has_unknown xs)

pub has_unknown_opaque : (i : OpaqueId) (xs : List GenericArg) → has_unknown (ty.Opaque i xs) ≡ list_any arg_has_unknown xs
has_unknown_opaque i xs = ap has_unknown (sym (ty.rolls-Opaque i xs)) ∙
    (fold-roll-Ty Bool Bool Bool Bool unknown_arg unknown_step unknown_bound unknown_trait (Ty-F.Opaque i xs) ∙ any_map arg_has_unknown xs)

pub has_unknown_fn_ptr : (s : Safety) (ts : List Ty) (t : Ty) → has_unknown (ty.FnPtr s ts t) ≡ (list_any has_unknown ts || has_unknown t)
has_unknown_fn_ptr s ts t = ap has_unknown (sym (ty.rolls-FnPtr s ts t)) ∙
    (fold-roll-Ty Bool Bool Bool Bool unknown_arg unknown_step unknown_bound unknown_trait (Ty-F.FnPtr s ts t) ∙ ap
    (λ (b : Bool). b || has_unknown t) (any_map has_unknown ts))

pub has_unknown_closure : (i : ClosureId) (ts : List Ty) (t : Ty)
    → has_unknown (ty.Closure i ts t) ≡ (list_any has_unknown ts || has_unknown t)
has_unknown_closure i ts t = ap has_unknown (sym (ty.rolls-Closure i ts t)) ∙
    (fold-roll-Ty Bool Bool Bool Bool unknown_arg unknown_step unknown_bound unknown_trait (Ty-F.Closure i ts t) ∙ ap
    (λ (b : Bool). b || has_unknown t) (any_map has_unknown ts))

pub has_unknown_param : (n : ℕ) → has_unknown (ty.Param n) ≡ false
has_unknown_param n = ap has_unknown (sym (ty.rolls-Param n)) ∙ fold-roll-Ty Bool Bool Bool Bool unknown_arg unknown_step unknown_bound
    unknown_trait (Ty-F.Param n)

pub has_unknown_error : has_unknown ty.Error ≡ true
has_unknown_error = ap has_unknown (sym ty.rolls-Error) ∙ fold-roll-Ty Bool Bool Bool Bool unknown_arg unknown_step unknown_bound
    unknown_trait Ty-F.Error

pub has_unknown_var : (n : ℕ) → has_unknown (ty.Var n) ≡ false
has_unknown_var n = ap has_unknown (sym (ty.rolls-Var n)) ∙ fold-roll-Ty Bool Bool Bool Bool unknown_arg unknown_step unknown_bound
    unknown_trait (Ty-F.Var n)

pub has_unknown_int_var : (n : ℕ) → has_unknown (ty.IntVar n) ≡ false
has_unknown_int_var n = ap has_unknown (sym (ty.rolls-IntVar n)) ∙ fold-roll-Ty Bool Bool Bool Bool unknown_arg unknown_step unknown_bound
    unknown_trait (Ty-F.IntVar n)

pub has_unknown_hole : has_unknown ty.Hole ≡ false
has_unknown_hole = ap has_unknown (sym ty.rolls-Hole) ∙ fold-roll-Ty Bool Bool Bool Bool unknown_arg unknown_step unknown_bound
    unknown_trait Ty-F.Hole

pub has_unknown_dynamic : (o : Option TraitRef) (bs : List AliasBound) (ts : List TraitId)
    → has_unknown (ty.Dynamic o bs ts) ≡ (so_or_none (option_map trait_has_unknown o) || list_any bound_has_unknown bs)
has_unknown_dynamic None bs ts =
    ap has_unknown (sym (ty.rolls-Dynamic None bs ts)) ∙
    (fold-roll-Ty Bool Bool Bool Bool unknown_arg unknown_step unknown_bound unknown_trait (Ty-F.Dynamic None bs ts) ∙ any_map
    bound_has_unknown bs)
has_unknown_dynamic (Some r) bs ts =
    ap has_unknown (sym (ty.rolls-Dynamic (Some r) bs ts))
    ∙ (fold-roll-Ty Bool Bool Bool Bool unknown_arg unknown_step unknown_bound unknown_trait (Ty-F.Dynamic (Some r) bs ts) ∙ ap
    (λ (b : Bool). trait_has_unknown r || b) (any_map bound_has_unknown bs))

pub arg_has_unknown_type : (t : Ty) → arg_has_unknown (arg.Ty t) ≡ has_unknown t
arg_has_unknown_type t = ap arg_has_unknown (sym (arg.rolls-Ty t)) ∙ fold-roll-GenericArg Bool Bool Bool Bool unknown_arg unknown_step
    unknown_bound unknown_trait (GenericArg-F.Ty t)

pub arg_has_unknown_const : (c : Const) → arg_has_unknown (arg.Const c) ≡ unknown_const c
arg_has_unknown_const c = ap arg_has_unknown (sym (arg.rolls-Const c)) ∙ fold-roll-GenericArg Bool Bool Bool Bool unknown_arg unknown_step
    unknown_bound unknown_trait (GenericArg-F.Const c)

pub trait_has_unknown_is : (r : TraitRef) → trait_has_unknown r ≡ list_any arg_has_unknown r.args
trait_has_unknown_is r = fold-roll-TraitRef Bool Bool Bool Bool unknown_arg unknown_step unknown_bound unknown_trait
    (record { id = r.id; args = r.args }) ∙ any_map arg_has_unknown r.args

pub bound_has_unknown_is : (b : AliasBound) → bound_has_unknown b ≡ has_unknown b.ty
bound_has_unknown_is b = fold-roll-AliasBound Bool Bool Bool Bool unknown_arg unknown_step unknown_bound unknown_trait
    (record { alias = b.alias; ty = b.ty })

pub ruleset has_unknown_is = (
  has_unknown_bool,
  has_unknown_char,
  has_unknown_int,
  has_unknown_uint,
  has_unknown_float,
  has_unknown_str,
  has_unknown_never,
  has_unknown_tuple,
  has_unknown_array,
  has_unknown_slice,
  has_unknown_ref,
  has_unknown_raw_ptr,
  has_unknown_adt,
  has_unknown_fn_def,
  has_unknown_projection,
  has_unknown_associated,
  has_unknown_opaque,
  has_unknown_fn_ptr,
  has_unknown_closure,
  has_unknown_param,
  has_unknown_error,
  has_unknown_var,
  has_unknown_int_var,
  has_unknown_hole,
  has_unknown_dynamic,
  arg_has_unknown_type,
  arg_has_unknown_const,
  trait_has_unknown_is,
  bound_has_unknown_is,
)
