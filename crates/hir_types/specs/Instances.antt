-- Instances: a type with arguments in the place of its parameters.
use Rattle.std.proofs.Common.{◌≡◌, ℕ, refl, sym, ap, subst, ◌∙◌, List, [], ◌∷◌, map, Option, Some, None, option_map, slice_get}
use Rattle.std.proofs.lemmas.Option.{slice_get-map}
use Rattle.hir_types.specs.declared.ids.CallableDefId.{CallableDefId}
use Rattle.hir_types.specs.declared.ty.Const.{Const}
use Rattle.hir_types.specs.declared.ty.Const.TheVariants as const
use Rattle.hir_types.specs.declared.ty.Ty.{Ty, Ty-F, out-Ty, out-roll-Ty}
use Rattle.hir_types.specs.declared.ty.Ty.TheVariants as ty
use Rattle.hir_types.specs.declared.ty.GenericArg.{GenericArg, GenericArg-F, roll-GenericArg, out-GenericArg, out-roll-GenericArg, roll-out-GenericArg}
use Rattle.hir_types.specs.declared.ty.GenericArg.TheVariants as arg
use Rattle.hir_types.specs.declared.ty.TraitRef.{TraitRef}
use Rattle.hir_types.specs.declared.ty.AliasBound.{AliasBound}
use Rattle.hir_types.specs.Assigned.{arg_as_type, const_in, type_of, const_of, with_params}
use Rattle.hir_types.specs.Replacements.{replaced_error, replaced_param, arg_replaced_type, arg_replaced_const, replaced_same, in_turn, replaced_twice}
use Rattle.hir_types.specs.Subst.{Replacement, replaced, const_replaced, arg_replaced, args_replaced, Assignment, with_holes, folded}

-- ---- a type without holes

-- each hole as what could not be typed
abbrev untyped : Assignment
untyped = record { var = λ n. ty.Error; int_var = λ n. ty.Error; const_var = λ n. const.Unknown }

-- where two replacements are the same at each parameter
pub record SameAtParams (f g : Replacement) : Type 0 where
  pub param : (n : ℕ) → f.param n ≡ g.param n
  pub const_param : (n : ℕ) → f.const_param n ≡ g.const_param n

-- what they do to a type without holes is the same
pub replaced_at_params : (f g : Replacement) → SameAtParams f g → (t : Ty) → ((b : Assignment) → folded b t ≡ t)
    → replaced f t ≡ replaced g t
replaced_at_params f g h t closed =
    ap (replaced f) (sym (closed untyped)) ∙ replaced_twice f (with_holes untyped) t
    ∙ replaced_same (in_turn f (with_holes untyped)) (in_turn g (with_holes untyped)) (record {
      var = λ n. replaced_error f ∙ sym (replaced_error g);
      int_var = λ n. replaced_error f ∙ sym (replaced_error g);
      const_var = λ n. refl;
      param = λ n. replaced_param f n ∙ h.param n ∙ sym (replaced_param g n);
      const_param = λ n. h.const_param n;
    }) t
    ∙ sym (replaced_twice g (with_holes untyped) t) ∙ ap (replaced g) (closed untyped)

-- ---- what an argument comes to

top_type : (t : Ty) → out-GenericArg (arg.Ty t) ≡ GenericArg-F.Ty t
top_type t = ap out-GenericArg (sym (arg.rolls-Ty t)) ∙ out-roll-GenericArg (GenericArg-F.Ty t)

top_const : (c : Const) → out-GenericArg (arg.Const c) ≡ GenericArg-F.Const c
top_const c = ap out-GenericArg (sym (arg.rolls-Const c)) ∙ out-roll-GenericArg (GenericArg-F.Const c)

-- as a type and as a const, what the argument is replaced by is what it was, replaced
abbrev IsReplaced : Replacement → GenericArg → Type 0
IsReplaced s x =
    (replaced s (type_of (Some x)) ≡ type_of (Some (arg_replaced s x)))
    × (const_replaced s (const_of (Some x)) ≡ const_of (Some (arg_replaced s x)))

type_is_replaced : (s : Replacement) (t : Ty) → IsReplaced s (arg.Ty t)
type_is_replaced s t =
    let now : out-GenericArg (arg_replaced s (arg.Ty t)) ≡ GenericArg-F.Ty (replaced s t) =
    ap out-GenericArg (arg_replaced_type s t) ∙ top_type (replaced s t) in (
      ap (λ y. replaced s (arg_as_type y)) (top_type t) ∙ sym (ap arg_as_type now),
      ap (λ y. const_replaced s (const_in y)) (top_type t) ∙ sym (ap const_in now),
    )

const_is_replaced : (s : Replacement) (c : Const) → IsReplaced s (arg.Const c)
const_is_replaced s c =
    let now : out-GenericArg (arg_replaced s (arg.Const c)) ≡ GenericArg-F.Const (const_replaced s c) =
    ap out-GenericArg (arg_replaced_const s c) ∙ top_const (const_replaced s c) in (
      ap (λ y. replaced s (arg_as_type y)) (top_const c) ∙ replaced_error s ∙ sym (ap arg_as_type now),
      ap (λ y. const_replaced s (const_in y)) (top_const c) ∙ sym (ap const_in now),
    )

is_replaced_at : (s : Replacement) (x : GenericArg) (y : GenericArg-F GenericArg Ty AliasBound TraitRef) → roll-GenericArg y ≡ x
    → IsReplaced s x
is_replaced_at s x (GenericArg-F.Ty t) e = subst (IsReplaced s) (sym (arg.rolls-Ty t) ∙ e) (type_is_replaced s t)
is_replaced_at s x (GenericArg-F.Const c) e = subst (IsReplaced s) (sym (arg.rolls-Const c) ∙ e) (const_is_replaced s c)

is_replaced : (s : Replacement) (x : GenericArg) → IsReplaced s x
is_replaced s x = is_replaced_at s x (out-GenericArg x) (roll-out-GenericArg x)

type_of_replaced : (s : Replacement) (o : Option GenericArg) → replaced s (type_of o) ≡ type_of (option_map (arg_replaced s) o)
type_of_replaced s None = replaced_error s
type_of_replaced s (Some x) = (is_replaced s x).0

const_of_replaced : (s : Replacement) (o : Option GenericArg) → const_replaced s (const_of o) ≡ const_of (option_map (arg_replaced s) o)
const_of_replaced s None = refl
const_of_replaced s (Some x) = (is_replaced s x).1

-- ---- instances

-- an instance of a type without holes comes to the instance at what the arguments come to
pub instance_folded : (a : Assignment) (xs : List GenericArg) (t : Ty) → ((b : Assignment) → folded b t ≡ t)
    → folded a (replaced (with_params xs) t) ≡ replaced (with_params (args_replaced (with_holes a) xs)) t
instance_folded a xs t closed =
    replaced_twice (with_holes a) (with_params xs) t
    ∙ replaced_at_params (in_turn (with_holes a) (with_params xs)) (with_params (args_replaced (with_holes a) xs)) (record {
      param = λ n. type_of_replaced (with_holes a) (slice_get xs n) ∙ ap type_of (sym (slice_get-map (arg_replaced (with_holes a)) xs n));
      const_param = λ n. const_of_replaced (with_holes a) (slice_get xs n) ∙ ap const_of
          (sym (slice_get-map (arg_replaced (with_holes a)) xs n));
    }) t closed

-- ---- at types alone

pub types_args_replaced : (s : Replacement) (ts : List Ty) → args_replaced s (map arg.Ty ts) ≡ map arg.Ty (map (replaced s) ts)
types_args_replaced s [] = refl
types_args_replaced s (t ∷ ts) = λ i. arg_replaced_type s t i ∷ types_args_replaced s ts i

pub types_args_folded : (a : Assignment) (ts : List Ty) → args_replaced (with_holes a) (map arg.Ty ts) ≡ map arg.Ty (map (folded a) ts)
types_args_folded a ts = types_args_replaced (with_holes a) ts

pub instance_at_types : (a : Assignment) (ts : List Ty) (t : Ty) → ((b : Assignment) → folded b t ≡ t)
    → folded a (replaced (with_params (map arg.Ty ts)) t) ≡ replaced (with_params (map arg.Ty (map (folded a) ts))) t
instance_at_types a ts t closed =
    instance_folded a (map arg.Ty ts) t closed ∙ ap (λ xs. replaced (with_params xs) t) (types_args_folded a ts)

-- a parameter comes to the type at its number
pub param_at : (ts : List Ty) (n : ℕ) (u : Ty) → slice_get ts n ≡ Some u → replaced (with_params (map arg.Ty ts)) (ty.Param n) ≡ u
param_at ts n u e =
    replaced_param (with_params (map arg.Ty ts)) n
    ∙ ap type_of (slice_get-map arg.Ty ts n ∙ ap (option_map arg.Ty) e)
    ∙ ap arg_as_type (top_type u)

-- ---- what equal arguments and equal function items tell

top_fn_def : (id : CallableDefId) (xs : List GenericArg) → out-Ty (ty.FnDef id xs) ≡ Ty-F.FnDef id xs
top_fn_def id xs = ap out-Ty (sym (ty.rolls-FnDef id xs)) ∙ out-roll-Ty (Ty-F.FnDef id xs)

pub fn_def_tells : (i j : CallableDefId) (xs ys : List GenericArg) → ty.FnDef i xs ≡ ty.FnDef j ys → (i ≡ j) × (xs ≡ ys)
fn_def_tells i j xs ys e = let k : Ty-F.FnDef i xs ≡ Ty-F.FnDef j ys = sym (top_fn_def i xs) ∙ (ap out-Ty e ∙ top_fn_def j ys) in (cc, cc)
