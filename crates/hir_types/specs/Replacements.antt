-- Laws of replacements: what they give at variants, the one that changes nothing, two in turn.
use Rattle.std.proofs.Common.{◌≡◌, ℕ, refl, sym, ap, ◌∙◌, List, map}
use Rattle.hir_types.specs.declared.ids.AdtId.{AdtId}
use Rattle.hir_types.specs.declared.ids.CallableDefId.{CallableDefId}
use Rattle.hir_types.specs.declared.ty.Const.{Const}
use Rattle.hir_types.specs.declared.ty.Const.TheVariants as const
use Rattle.hir_types.specs.declared.ty.IntTy.{IntTy}
use Rattle.hir_types.specs.declared.ty.UintTy.{UintTy}
use Rattle.hir_types.specs.declared.ty.Ty.{Ty, Ty-F, roll-Ty}
use Rattle.hir_types.specs.declared.ty.Ty.TheVariants as ty
use Rattle.hir_types.specs.declared.ty.GenericArg.{GenericArg, GenericArg-F, roll-GenericArg}
use Rattle.hir_types.specs.declared.ty.GenericArg.TheVariants as arg
use Rattle.hir_types.specs.declared.ty.TraitRef.{TraitRef, roll-TraitRef}
use Rattle.hir_types.specs.declared.ty.AliasBound.{AliasBound, roll-AliasBound}
use Rattle.hir_types.specs.Folds.{map_twice, map_itself, Steps, Maps, folds, folds_follow, GoBySteps, SameMaps, unique, maps_after, itself, in_arg, in_ty, in_ty_twice, in_ty_itself, in_bound_itself, in_trait_itself}
use Rattle.hir_types.specs.Subst.{Replacement, const_replaced, ty_layer, arg_layer, replaced, arg_replaced, bound_replaced, trait_replaced, args_replaced, Assignment, with_holes, each_itself, folded, const_folded, arg_folded, trait_folded, composed}
use Rattle.hir_types.specs.declared.ids.TypeAliasId.{TypeAliasId}

abbrev pub layers : Replacement → Steps GenericArg Ty AliasBound TraitRef
layers s = record { arg = arg_layer s; ty = ty_layer s; bound = roll-AliasBound; trait = roll-TraitRef }

abbrev pub replacing : Replacement → Maps GenericArg Ty AliasBound TraitRef
replacing s = folds (layers s)

-- ---- at variants

pub at_ty : (s : Replacement) (x : Ty-F GenericArg Ty AliasBound TraitRef) → replaced s (roll-Ty x) ≡ ty_layer s (in_ty (replacing s) x)
at_ty s = (folds_follow (layers s)).ty

pub at_arg : (s : Replacement) (x : GenericArg-F GenericArg Ty AliasBound TraitRef)
    → arg_replaced s (roll-GenericArg x) ≡ arg_layer s (in_arg (replacing s) x)
at_arg s = (folds_follow (layers s)).arg

pub replaced_bool : (s : Replacement) → replaced s ty.Bool ≡ ty.Bool
replaced_bool s = ap (replaced s) (sym ty.rolls-Bool) ∙ at_ty s Ty-F.Bool ∙ ty.rolls-Bool

pub replaced_char : (s : Replacement) → replaced s ty.Char ≡ ty.Char
replaced_char s = ap (replaced s) (sym ty.rolls-Char) ∙ at_ty s Ty-F.Char ∙ ty.rolls-Char

pub replaced_int : (s : Replacement) (i : IntTy) → replaced s (ty.Int i) ≡ ty.Int i
replaced_int s i = ap (replaced s) (sym (ty.rolls-Int i)) ∙ at_ty s (Ty-F.Int i) ∙ ty.rolls-Int i

pub replaced_uint : (s : Replacement) (i : UintTy) → replaced s (ty.Uint i) ≡ ty.Uint i
replaced_uint s i = ap (replaced s) (sym (ty.rolls-Uint i)) ∙ at_ty s (Ty-F.Uint i) ∙ ty.rolls-Uint i

pub replaced_tuple : (s : Replacement) (ts : List Ty) → replaced s (ty.Tuple ts) ≡ ty.Tuple (map (replaced s) ts)
replaced_tuple s ts = ap (replaced s) (sym (ty.rolls-Tuple ts)) ∙ at_ty s (Ty-F.Tuple ts) ∙ ty.rolls-Tuple (map (replaced s) ts)

pub replaced_array : (s : Replacement) (t : Ty) (c : Const) → replaced s (ty.Array t c) ≡ ty.Array (replaced s t) (const_replaced s c)
replaced_array s t c = ap (replaced s) (sym (ty.rolls-Array t c)) ∙ at_ty s (Ty-F.Array t c)

pub replaced_adt : (s : Replacement) (id : AdtId) (xs : List GenericArg) → replaced s (ty.Adt id xs) ≡ ty.Adt id (args_replaced s xs)
replaced_adt s id xs = ap (replaced s) (sym (ty.rolls-Adt id xs)) ∙ at_ty s (Ty-F.Adt id xs) ∙ ty.rolls-Adt id (args_replaced s xs)

pub replaced_associated_type : (s : Replacement) (id : TypeAliasId) (xs : List GenericArg)
    → replaced s (ty.AssociatedType id xs) ≡ ty.AssociatedType id (args_replaced s xs)
replaced_associated_type s id xs =
    ap (replaced s) (sym (ty.rolls-AssociatedType id xs)) ∙ at_ty s (Ty-F.AssociatedType id xs) ∙ ty.rolls-AssociatedType id
    (args_replaced s xs)

pub replaced_fn_def : (s : Replacement) (id : CallableDefId) (xs : List GenericArg)
    → replaced s (ty.FnDef id xs) ≡ ty.FnDef id (args_replaced s xs)
replaced_fn_def s id xs = ap (replaced s) (sym (ty.rolls-FnDef id xs)) ∙ at_ty s (Ty-F.FnDef id xs) ∙ ty.rolls-FnDef id (args_replaced s xs)

pub replaced_param : (s : Replacement) (n : ℕ) → replaced s (ty.Param n) ≡ s.param n
replaced_param s n = ap (replaced s) (sym (ty.rolls-Param n)) ∙ at_ty s (Ty-F.Param n)

pub replaced_error : (s : Replacement) → replaced s ty.Error ≡ ty.Error
replaced_error s = ap (replaced s) (sym ty.rolls-Error) ∙ at_ty s Ty-F.Error ∙ ty.rolls-Error

pub replaced_var : (s : Replacement) (n : ℕ) → replaced s (ty.Var n) ≡ s.var n
replaced_var s n = ap (replaced s) (sym (ty.rolls-Var n)) ∙ at_ty s (Ty-F.Var n)

pub replaced_int_var : (s : Replacement) (n : ℕ) → replaced s (ty.IntVar n) ≡ s.int_var n
replaced_int_var s n = ap (replaced s) (sym (ty.rolls-IntVar n)) ∙ at_ty s (Ty-F.IntVar n)

pub arg_replaced_type : (s : Replacement) (t : Ty) → arg_replaced s (arg.Ty t) ≡ arg.Ty (replaced s t)
arg_replaced_type s t = ap (arg_replaced s) (sym (arg.rolls-Ty t)) ∙ at_arg s (GenericArg-F.Ty t) ∙ arg.rolls-Ty (replaced s t)

pub arg_replaced_const : (s : Replacement) (c : Const) → arg_replaced s (arg.Const c) ≡ arg.Const (const_replaced s c)
arg_replaced_const s c = ap (arg_replaced s) (sym (arg.rolls-Const c)) ∙ at_arg s (GenericArg-F.Const c)

pub trait_replaced_is : (s : Replacement) (r : TraitRef) → trait_replaced s r ≡ record { id = r.id; args = args_replaced s r.args }
trait_replaced_is s r = (folds_follow (layers s)).trait (record { id = r.id; args = r.args })

pub bound_replaced_is : (s : Replacement) (b : AliasBound) → bound_replaced s b ≡ record { alias = b.alias; ty = replaced s b.ty }
bound_replaced_is s b = (folds_follow (layers s)).bound (record { alias = b.alias; ty = b.ty })

-- ---- where two replacements are the same at each hole and parameter

pub record SameReplacements (f g : Replacement) : Type 0 where
  pub var : (n : ℕ) → f.var n ≡ g.var n
  pub int_var : (n : ℕ) → f.int_var n ≡ g.int_var n
  pub const_var : (n : ℕ) → f.const_var n ≡ g.const_var n
  pub param : (n : ℕ) → f.param n ≡ g.param n
  pub const_param : (n : ℕ) → f.const_param n ≡ g.const_param n

pub same_replacements : (f g : Replacement) → SameReplacements f g → f ≡ g
same_replacements f g h = λ i. record {
  var = λ n. h.var n i;
  int_var = λ n. h.int_var n i;
  const_var = λ n. h.const_var n i;
  param = λ n. h.param n i;
  const_param = λ n. h.const_param n i;
}

pub replaced_same : (f g : Replacement) → SameReplacements f g → (t : Ty) → replaced f t ≡ replaced g t
replaced_same f g h t = ap (λ s. replaced s t) (same_replacements f g h)

pub record SameAssignments (f g : Assignment) : Type 0 where
  pub var : (n : ℕ) → f.var n ≡ g.var n
  pub int_var : (n : ℕ) → f.int_var n ≡ g.int_var n
  pub const_var : (n : ℕ) → f.const_var n ≡ g.const_var n

pub same_assignments : (f g : Assignment) → SameAssignments f g → f ≡ g
same_assignments f g h = λ i. record { var = λ n. h.var n i; int_var = λ n. h.int_var n i; const_var = λ n. h.const_var n i }

-- ---- where each hole and parameter stands for itself

const_itself : (c : Const) → const_folded each_itself c ≡ c
const_itself (const.Value n) = refl
const_itself (const.Param n) = refl
const_itself const.Unknown = refl
const_itself (const.Var n) = refl
const_itself const.Hole = refl

arg_layer_itself : (x : GenericArg-F GenericArg Ty AliasBound TraitRef)
    → roll-GenericArg x ≡ arg_layer (with_holes each_itself) (in_arg itself x)
arg_layer_itself (GenericArg-F.Ty t) = refl
arg_layer_itself (GenericArg-F.Const c) = arg.rolls-Const c ∙ ap arg.Const (sym (const_itself c))

ty_layer_itself : (x : Ty-F GenericArg Ty AliasBound TraitRef) → roll-Ty x ≡ ty_layer (with_holes each_itself) (in_ty itself x)
ty_layer_itself (Ty-F.Var n) = ty.rolls-Var n
ty_layer_itself (Ty-F.IntVar n) = ty.rolls-IntVar n
ty_layer_itself (Ty-F.Param n) = ty.rolls-Param n
ty_layer_itself (Ty-F.Array t c) = ty.rolls-Array t c ∙ ap (ty.Array t) (sym (const_itself c))
ty_layer_itself x = ap roll-Ty (sym (in_ty_itself x))

itself_follows : GoBySteps (layers (with_holes each_itself)) itself
itself_follows = record {
  arg = arg_layer_itself;
  ty = ty_layer_itself;
  bound = λ x. ap roll-AliasBound (sym (in_bound_itself x));
  trait = λ x. ap roll-TraitRef (sym (in_trait_itself x));
}

-- all four at once
folds_itself : SameMaps (replacing (with_holes each_itself)) itself
folds_itself = unique (layers (with_holes each_itself)) (replacing (with_holes each_itself)) itself
    (folds_follow (layers (with_holes each_itself))) itself_follows

pub folded_itself : (t : Ty) → folded each_itself t ≡ t
folded_itself = folds_itself.ty

pub const_folded_itself : (c : Const) → const_folded each_itself c ≡ c
const_folded_itself = const_itself

pub arg_folded_itself : (x : GenericArg) → arg_folded each_itself x ≡ x
arg_folded_itself = folds_itself.arg

pub trait_folded_itself : (r : TraitRef) → trait_folded each_itself r ≡ r
trait_folded_itself = folds_itself.trait

pub each_same : {X : Type 0} (f g : X → X) → ((x : X) → f x ≡ g x) → (xs : List X) → map f xs ≡ map g xs
each_same f g h xs = ap (λ k. map k xs) (λ i x. h x i)

pub args_folded_itself : (xs : List GenericArg) → args_replaced (with_holes each_itself) xs ≡ xs
args_folded_itself xs = each_same (arg_folded each_itself) (λ x. x) arg_folded_itself xs ∙ map_itself xs

-- ---- two replacements in turn

-- first `g`, then `f`
abbrev pub in_turn : Replacement → Replacement → Replacement
in_turn f g = record {
  var = λ n. replaced f (g.var n);
  int_var = λ n. replaced f (g.int_var n);
  const_var = λ n. const_replaced f (g.const_var n);
  param = λ n. replaced f (g.param n);
  const_param = λ n. const_replaced f (g.const_param n);
}

pub const_replaced_twice : (f g : Replacement) (c : Const) → const_replaced f (const_replaced g c) ≡ const_replaced (in_turn f g) c
const_replaced_twice f g (const.Value n) = refl
const_replaced_twice f g (const.Param n) = refl
const_replaced_twice f g const.Unknown = refl
const_replaced_twice f g (const.Var n) = refl
const_replaced_twice f g const.Hole = refl

abbrev both : Replacement → Replacement → Maps GenericArg Ty AliasBound TraitRef
both f g = maps_after (replacing f) (replacing g)

arg_layer_twice : (f g : Replacement) (x : GenericArg-F GenericArg Ty AliasBound TraitRef)
    → arg_replaced f (arg_layer g (in_arg (replacing g) x)) ≡ arg_layer (in_turn f g) (in_arg (both f g) x)
arg_layer_twice f g (GenericArg-F.Ty t) = at_arg f (GenericArg-F.Ty (replaced g t))
arg_layer_twice f g (GenericArg-F.Const c) = arg_replaced_const f (const_replaced g c) ∙ ap arg.Const (const_replaced_twice f g c)

ty_layer_twice : (f g : Replacement) (x : Ty-F GenericArg Ty AliasBound TraitRef)
    → replaced f (ty_layer g (in_ty (replacing g) x)) ≡ ty_layer (in_turn f g) (in_ty (both f g) x)
ty_layer_twice f g (Ty-F.Var n) = refl
ty_layer_twice f g (Ty-F.IntVar n) = refl
ty_layer_twice f g (Ty-F.Param n) = refl
ty_layer_twice f g (Ty-F.Array t c) =
    replaced_array f (replaced g t) (const_replaced g c) ∙ ap (ty.Array (replaced f (replaced g t))) (const_replaced_twice f g c)
ty_layer_twice f g x = at_ty f (in_ty (replacing g) x) ∙ ap roll-Ty (in_ty_twice (replacing f) (replacing g) x)

both_follow : (f g : Replacement) → GoBySteps (layers (in_turn f g)) (both f g)
both_follow f g = record {
  arg = λ x. ap (arg_replaced f) (at_arg g x) ∙ arg_layer_twice f g x;
  ty = λ x. ap (replaced f) (at_ty g x) ∙ ty_layer_twice f g x;
  bound = λ x. bound_twice_at f g (roll-AliasBound x);
  trait = λ x. trait_twice_at f g (roll-TraitRef x);
}
  where
    bound_twice_at : (f g : Replacement) (b : AliasBound)
        → bound_replaced f (bound_replaced g b) ≡ record { alias = b.alias; ty = replaced f (replaced g b.ty) }
    bound_twice_at f g b = ap (bound_replaced f) (bound_replaced_is g b) ∙ bound_replaced_is f
        (record { alias = b.alias; ty = replaced g b.ty })

    trait_twice_at : (f g : Replacement) (r : TraitRef)
        → trait_replaced f (trait_replaced g r) ≡ record { id = r.id; args = map (λ x. arg_replaced f (arg_replaced g x)) r.args }
    trait_twice_at f g r =
        ap (trait_replaced f) (trait_replaced_is g r) ∙ trait_replaced_is f (record { id = r.id; args = args_replaced g r.args }) ∙
        (λ i. record { id = r.id; args = map_twice (arg_replaced f) (arg_replaced g) r.args i })

folds_twice : (f g : Replacement) → SameMaps (both f g) (replacing (in_turn f g))
folds_twice f g = unique (layers (in_turn f g)) (both f g) (replacing (in_turn f g)) (both_follow f g) (folds_follow (layers (in_turn f g)))

pub replaced_twice : (f g : Replacement) (t : Ty) → replaced f (replaced g t) ≡ replaced (in_turn f g) t
replaced_twice f g = (folds_twice f g).ty

pub arg_replaced_twice : (f g : Replacement) (x : GenericArg) → arg_replaced f (arg_replaced g x) ≡ arg_replaced (in_turn f g) x
arg_replaced_twice f g = (folds_twice f g).arg

pub trait_replaced_twice : (f g : Replacement) (r : TraitRef) → trait_replaced f (trait_replaced g r) ≡ trait_replaced (in_turn f g) r
trait_replaced_twice f g = (folds_twice f g).trait

pub args_replaced_twice : (f g : Replacement) (xs : List GenericArg) → args_replaced f (args_replaced g xs) ≡ args_replaced (in_turn f g) xs
args_replaced_twice f g xs = map_twice (arg_replaced f) (arg_replaced g) xs ∙ each_same (λ x. arg_replaced f (arg_replaced g x))
    (arg_replaced (in_turn f g)) (arg_replaced_twice f g) xs

-- a composed assignment leaves parameters as they are, as two in turn do
pub with_holes_composed : (f g : Assignment) → in_turn (with_holes f) (with_holes g) ≡ with_holes (composed f g)
with_holes_composed f g = same_replacements (in_turn (with_holes f) (with_holes g)) (with_holes (composed f g)) (record {
  var = λ n. refl;
  int_var = λ n. refl;
  const_var = λ n. refl;
  param = λ n. replaced_param (with_holes f) n;
  const_param = λ n. refl;
})

pub folded_twice : (f g : Assignment) (t : Ty) → folded f (folded g t) ≡ folded (composed f g) t
folded_twice f g t = replaced_twice (with_holes f) (with_holes g) t ∙ ap (λ s. replaced s t) (with_holes_composed f g)

pub const_folded_twice : (f g : Assignment) (c : Const) → const_folded f (const_folded g c) ≡ const_folded (composed f g) c
const_folded_twice f g c = const_replaced_twice (with_holes f) (with_holes g) c ∙ ap (λ s. const_replaced s c) (with_holes_composed f g)

pub arg_folded_twice : (f g : Assignment) (x : GenericArg) → arg_folded f (arg_folded g x) ≡ arg_folded (composed f g) x
arg_folded_twice f g x = arg_replaced_twice (with_holes f) (with_holes g) x ∙ ap (λ s. arg_replaced s x) (with_holes_composed f g)

pub trait_folded_twice : (f g : Assignment) (r : TraitRef) → trait_folded f (trait_folded g r) ≡ trait_folded (composed f g) r
trait_folded_twice f g r = trait_replaced_twice (with_holes f) (with_holes g) r ∙ ap (λ s. trait_replaced s r) (with_holes_composed f g)

pub args_folded_twice : (f g : Assignment) (xs : List GenericArg)
    → args_replaced (with_holes f) (args_replaced (with_holes g) xs) ≡ args_replaced (with_holes (composed f g)) xs
args_folded_twice f g xs = args_replaced_twice (with_holes f) (with_holes g) xs ∙ ap (λ s. args_replaced s xs) (with_holes_composed f g)
