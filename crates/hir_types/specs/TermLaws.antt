-- Laws of terms: what stands at each variant; a replacement acts on the term, and only by the holes that are in it.
use Rattle.std.proofs.Common.{◌≡◌, ℕ, ◌++◌, refl, sym, ap, ◌∙◌, List, [], ◌∷◌, map, Option, Some, None, option_map}
use Rattle.std.specs.List.{flat_map}
use Rattle.hir_types.specs.declared.ids.AdtId.{AdtId}
use Rattle.hir_types.specs.declared.ids.CallableDefId.{CallableDefId}
use Rattle.hir_types.specs.declared.ids.ClosureId.{ClosureId}
use Rattle.hir_types.specs.declared.ids.OpaqueId.{OpaqueId}
use Rattle.hir_types.specs.declared.ids.TraitId.{TraitId}
use Rattle.hir_types.specs.declared.ids.TypeAliasId.{TypeAliasId}
use Rattle.hir_types.specs.declared.head.Head.{Head}
use Rattle.hir_types.specs.declared.head.Head.TheVariants as head
use Rattle.hir_types.specs.declared.head.Hole.{Hole}
use Rattle.hir_types.specs.declared.head.Hole.TheVariants as hole_of
use Rattle.hir_types.specs.declared.ty.Const.{Const}
use Rattle.hir_types.specs.declared.ty.Const.TheVariants as const
use Rattle.hir_types.specs.declared.ty.IntTy.{IntTy}
use Rattle.hir_types.specs.declared.ty.UintTy.{UintTy}
use Rattle.hir_types.specs.declared.ty.FloatTy.{FloatTy}
use Rattle.hir_types.specs.declared.ty.Mutability.{Mutability}
use Rattle.hir_types.specs.declared.ty.Safety.{Safety}
use Rattle.hir_types.specs.declared.ty.Region.{Region}
use Rattle.hir_types.specs.declared.ty.Ty.{Ty, Ty-F, roll-Ty}
use Rattle.hir_types.specs.declared.ty.Ty.TheVariants as ty
use Rattle.hir_types.specs.declared.ty.GenericArg.{GenericArg, GenericArg-F, roll-GenericArg}
use Rattle.hir_types.specs.declared.ty.GenericArg.TheVariants as arg
use Rattle.hir_types.specs.declared.ty.TraitRef.{TraitRef, roll-TraitRef}
use Rattle.hir_types.specs.declared.ty.AliasBound.{AliasBound, roll-AliasBound}
use Rattle.hir_types.specs.Folds.{map_twice, Steps, Maps, folds, folds_follow, GoBySteps, SameMaps, unique, maps_after, in_arg, in_ty, in_ty_twice}
use Rattle.hir_types.specs.Replacements.{replacing, at_ty, at_arg, trait_replaced_is, bound_replaced_is}
use Rattle.hir_types.specs.Subst.{ty_layer, arg_layer, bound_replaced, Assignment, with_holes, folded, const_folded, arg_folded, trait_folded}
use Rattle.hir_types.specs.Terms.{Term, hole, leaf, pair, apply, chain, node, const_term, type_part, const_part, arg_step, bound_step, trait_step, principal_parts, auto_parts, ty_step, term, arg_term, trait_parts, bound_parts, terms_of}

abbrev pub term_steps : Steps Term Term (List Term) (List Term)
term_steps = record { arg = arg_step; ty = ty_step; bound = bound_step; trait = trait_step }

-- `term`, `arg_term`, `bound_parts` and `trait_parts`
abbrev pub terms : Maps Term Term (List Term) (List Term)
terms = folds term_steps

-- ---- at each variant

abbrev pub parts_of_types : List Ty → List Term
parts_of_types = map (λ t. type_part (term t))

flat_map_map : {X : Type 0} (f : X → List Term) (xs : List X) → flat_map (λ us. us) (map f xs) ≡ flat_map f xs
flat_map_map f [] = refl
flat_map_map f (x ∷ xs) = ap (◌++◌ (f x)) (flat_map_map f xs)

pub term_at : (x : Ty-F GenericArg Ty AliasBound TraitRef) → term (roll-Ty x) ≡ ty_step (in_ty terms x)
term_at = (folds_follow term_steps).ty

pub arg_term_at : (x : GenericArg-F GenericArg Ty AliasBound TraitRef) → arg_term (roll-GenericArg x) ≡ arg_step (in_arg terms x)
arg_term_at = (folds_follow term_steps).arg

pub term_bool : term ty.Bool ≡ node head.Bool []
term_bool = ap term (sym ty.rolls-Bool) ∙ term_at Ty-F.Bool

pub term_char : term ty.Char ≡ node head.Char []
term_char = ap term (sym ty.rolls-Char) ∙ term_at Ty-F.Char

pub term_int : (i : IntTy) → term (ty.Int i) ≡ node (head.Int i) []
term_int i = ap term (sym (ty.rolls-Int i)) ∙ term_at (Ty-F.Int i)

pub term_uint : (i : UintTy) → term (ty.Uint i) ≡ node (head.Uint i) []
term_uint i = ap term (sym (ty.rolls-Uint i)) ∙ term_at (Ty-F.Uint i)

pub term_float : (i : FloatTy) → term (ty.Float i) ≡ node (head.Float i) []
term_float i = ap term (sym (ty.rolls-Float i)) ∙ term_at (Ty-F.Float i)

pub term_str : term ty.Str ≡ node head.Str []
term_str = ap term (sym ty.rolls-Str) ∙ term_at Ty-F.Str

pub term_never : term ty.Never ≡ node head.Never []
term_never = ap term (sym ty.rolls-Never) ∙ term_at Ty-F.Never

pub term_tuple : (ts : List Ty) → term (ty.Tuple ts) ≡ node head.Tuple (parts_of_types ts)
term_tuple ts = ap term (sym (ty.rolls-Tuple ts)) ∙ term_at (Ty-F.Tuple ts) ∙ ap (node head.Tuple) (map_twice type_part term ts)

pub term_array : (t : Ty) (c : Const) → term (ty.Array t c) ≡ node head.Array (type_part (term t) ∷ const_part c ∷ [])
term_array t c = ap term (sym (ty.rolls-Array t c)) ∙ term_at (Ty-F.Array t c)

pub term_slice : (t : Ty) → term (ty.Slice t) ≡ node head.Slice (type_part (term t) ∷ [])
term_slice t = ap term (sym (ty.rolls-Slice t)) ∙ term_at (Ty-F.Slice t)

pub term_ref : (m : Mutability) (r : Region) (t : Ty) → term (ty.Ref m r t) ≡ node (head.Ref m) (type_part (term t) ∷ [])
term_ref m r t = ap term (sym (ty.rolls-Ref m r t)) ∙ term_at (Ty-F.Ref m r t)

pub term_raw_ptr : (m : Mutability) (t : Ty) → term (ty.RawPtr m t) ≡ node (head.RawPtr m) (type_part (term t) ∷ [])
term_raw_ptr m t = ap term (sym (ty.rolls-RawPtr m t)) ∙ term_at (Ty-F.RawPtr m t)

pub term_adt : (id : AdtId) (xs : List GenericArg) → term (ty.Adt id xs) ≡ node (head.Adt id) (map arg_term xs)
term_adt id xs = ap term (sym (ty.rolls-Adt id xs)) ∙ term_at (Ty-F.Adt id xs)

pub term_fn_def : (id : CallableDefId) (xs : List GenericArg) → term (ty.FnDef id xs) ≡ node (head.FnDef id) (map arg_term xs)
term_fn_def id xs = ap term (sym (ty.rolls-FnDef id xs)) ∙ term_at (Ty-F.FnDef id xs)

pub term_fn_ptr : (u : Safety) (ts : List Ty) (t : Ty)
    → term (ty.FnPtr u ts t) ≡ node (head.FnPtr u) (parts_of_types ts ++ type_part (term t) ∷ [])
term_fn_ptr u ts t = ap term (sym (ty.rolls-FnPtr u ts t)) ∙ term_at (Ty-F.FnPtr u ts t) ∙ ap
    (λ us. node (head.FnPtr u) (us ++ type_part (term t) ∷ [])) (map_twice type_part term ts)

pub term_closure : (id : ClosureId) (ts : List Ty) (t : Ty)
    → term (ty.Closure id ts t) ≡ node (head.Closure id) (parts_of_types ts ++ type_part (term t) ∷ [])
term_closure id ts t = ap term (sym (ty.rolls-Closure id ts t)) ∙ term_at (Ty-F.Closure id ts t) ∙ ap
    (λ us. node (head.Closure id) (us ++ type_part (term t) ∷ [])) (map_twice type_part term ts)

pub term_dynamic : (p : Option TraitRef) (bs : List AliasBound) (ids : List TraitId)
    → term (ty.Dynamic p bs ids) ≡ node head.Dynamic
    (principal_parts (option_map trait_parts p) ++ flat_map bound_parts bs ++ auto_parts ids)
term_dynamic None bs ids =
    ap term (sym (ty.rolls-Dynamic None bs ids)) ∙ term_at (Ty-F.Dynamic None bs ids) ∙ ap
    (λ us. node head.Dynamic ((leaf head.NoPrincipal ∷ []) ++ us ++ auto_parts ids)) (flat_map_map bound_parts bs)
term_dynamic (Some r) bs ids =
    ap term (sym (ty.rolls-Dynamic (Some r) bs ids)) ∙ term_at (Ty-F.Dynamic (Some r) bs ids) ∙ ap
    (λ us. node head.Dynamic ((trait_parts r) ++ us ++ auto_parts ids)) (flat_map_map bound_parts bs)

pub term_param : (n : ℕ) → term (ty.Param n) ≡ node (head.Param n) []
term_param n = ap term (sym (ty.rolls-Param n)) ∙ term_at (Ty-F.Param n)

pub term_projection : (id : TypeAliasId) (xs : List GenericArg) → term (ty.Projection id xs) ≡ node (head.Projection id) (map arg_term xs)
term_projection id xs = ap term (sym (ty.rolls-Projection id xs)) ∙ term_at (Ty-F.Projection id xs)

pub term_associated_type : (id : TypeAliasId) (xs : List GenericArg)
    → term (ty.AssociatedType id xs) ≡ node (head.AssociatedType id) (map arg_term xs)
term_associated_type id xs = ap term (sym (ty.rolls-AssociatedType id xs)) ∙ term_at (Ty-F.AssociatedType id xs)

pub term_opaque : (id : OpaqueId) (xs : List GenericArg) → term (ty.Opaque id xs) ≡ node (head.Opaque id) (map arg_term xs)
term_opaque id xs = ap term (sym (ty.rolls-Opaque id xs)) ∙ term_at (Ty-F.Opaque id xs)

pub term_error : term ty.Error ≡ node head.Error []
term_error = ap term (sym ty.rolls-Error) ∙ term_at Ty-F.Error

pub term_var : (n : ℕ) → term (ty.Var n) ≡ hole (hole_of.Ty n)
term_var n = ap term (sym (ty.rolls-Var n)) ∙ term_at (Ty-F.Var n)

pub term_int_var : (n : ℕ) → term (ty.IntVar n) ≡ hole (hole_of.Int n)
term_int_var n = ap term (sym (ty.rolls-IntVar n)) ∙ term_at (Ty-F.IntVar n)

pub term_hole : term ty.Hole ≡ node head.Hole []
term_hole = ap term (sym ty.rolls-Hole) ∙ term_at Ty-F.Hole

pub arg_term_type : (t : Ty) → arg_term (arg.Ty t) ≡ type_part (term t)
arg_term_type t = ap arg_term (sym (arg.rolls-Ty t)) ∙ arg_term_at (GenericArg-F.Ty t)

pub arg_term_const : (c : Const) → arg_term (arg.Const c) ≡ const_part c
arg_term_const c = ap arg_term (sym (arg.rolls-Const c)) ∙ arg_term_at (GenericArg-F.Const c)

pub args_terms : (ts : List Ty) → map arg_term (map arg.Ty ts) ≡ parts_of_types ts
args_terms [] = refl
args_terms (t ∷ ts) = λ i. arg_term_type t i ∷ args_terms ts i

pub term_adt_types : (id : AdtId) (ts : List Ty) → term (ty.Adt id (map arg.Ty ts)) ≡ node (head.Adt id) (parts_of_types ts)
term_adt_types id ts = term_adt id (map arg.Ty ts) ∙ ap (node (head.Adt id)) (args_terms ts)

pub term_associated_types : (id : TypeAliasId) (ts : List Ty)
    → term (ty.AssociatedType id (map arg.Ty ts)) ≡ node (head.AssociatedType id) (parts_of_types ts)
term_associated_types id ts = term_associated_type id (map arg.Ty ts) ∙ ap (node (head.AssociatedType id)) (args_terms ts)

pub term_fn_def_types : (id : CallableDefId) (ts : List Ty) → term (ty.FnDef id (map arg.Ty ts)) ≡ node (head.FnDef id) (parts_of_types ts)
term_fn_def_types id ts = term_fn_def id (map arg.Ty ts) ∙ ap (node (head.FnDef id)) (args_terms ts)

pub trait_parts_is : (r : TraitRef) → trait_parts r ≡ leaf (head.Principal r.id) ∷ map arg_term r.args
trait_parts_is r = (folds_follow term_steps).trait (record { id = r.id; args = r.args })

pub bound_parts_is : (b : AliasBound) → bound_parts b ≡ leaf (head.Bound b.alias) ∷ type_part (term b.ty) ∷ []
bound_parts_is b = (folds_follow term_steps).bound (record { alias = b.alias; ty = b.ty })

pub ruleset term_is = (
  term_bool,
  term_char,
  term_int,
  term_uint,
  term_float,
  term_str,
  term_never,
  term_tuple,
  term_array,
  term_slice,
  term_ref,
  term_raw_ptr,
  term_adt,
  term_fn_def,
  term_fn_ptr,
  term_closure,
  term_dynamic,
  term_param,
  term_projection,
  term_associated_type,
  term_opaque,
  term_error,
  term_var,
  term_int_var,
  term_hole,
  arg_term_type,
  arg_term_const,
  trait_parts_is,
  bound_parts_is,
)

-- ---- a replacement acts on the term

map_appended : {X Y : Type 0} (f : X → Y) (xs ys : List X) → map f (xs ++ ys) ≡ map f xs ++ map f ys
map_appended f [] ys = refl
map_appended f (x ∷ xs) ys = ap (◌∷◌ (f x)) (map_appended f xs ys)

apply_chain : (s : Hole → Term) (us : List Term) → apply s (chain us) ≡ chain (map (apply s) us)
apply_chain s [] = refl
apply_chain s (u ∷ us) = ap (pair (apply s u)) (apply_chain s us)

pub apply_node : (s : Hole → Term) (h : Head) (us : List Term) → apply s (node h us) ≡ node h (map (apply s) us)
apply_node s h us = ap (pair (leaf h)) (apply_chain s us)

pub const_term_folded : (s : Assignment) (c : Const) → const_term (const_folded s c) ≡ apply (terms_of s) (const_term c)
const_term_folded s (const.Value n) = refl
const_term_folded s (const.Param n) = refl
const_term_folded s const.Unknown = refl
const_term_folded s (const.Var n) = refl
const_term_folded s const.Hole = refl

-- the steps of a term under an assignment
abbrev assigned_arg : Assignment → GenericArg-F Term Term (List Term) (List Term) → Term
assigned_arg s (GenericArg-F.Ty t) = type_part t
assigned_arg s (GenericArg-F.Const c) = const_part (const_folded s c)

abbrev assigned_ty : Assignment → Ty-F Term Term (List Term) (List Term) → Term
assigned_ty s (Ty-F.Var n) = term (s.var n)
assigned_ty s (Ty-F.IntVar n) = term (s.int_var n)
assigned_ty s (Ty-F.Array t c) = node head.Array (type_part t ∷ const_part (const_folded s c) ∷ [])
assigned_ty s x = ty_step x

abbrev assigned : Assignment → Steps Term Term (List Term) (List Term)
assigned s = record { arg = assigned_arg s; ty = assigned_ty s; bound = bound_step; trait = trait_step }

-- first the replacement
abbrev replaced_first : Assignment → Maps Term Term (List Term) (List Term)
replaced_first s = maps_after terms (replacing (with_holes s))

replaced_arg_layer : (s : Assignment) (x : GenericArg-F GenericArg Ty AliasBound TraitRef)
    → arg_term (arg_layer (with_holes s) (in_arg (replacing (with_holes s)) x)) ≡ assigned_arg s (in_arg (replaced_first s) x)
replaced_arg_layer s (GenericArg-F.Ty t) = arg_term_at (GenericArg-F.Ty (folded s t))
replaced_arg_layer s (GenericArg-F.Const c) = arg_term_const (const_folded s c)

replaced_ty_layer : (s : Assignment) (x : Ty-F GenericArg Ty AliasBound TraitRef)
    → term (ty_layer (with_holes s) (in_ty (replacing (with_holes s)) x)) ≡ assigned_ty s (in_ty (replaced_first s) x)
replaced_ty_layer s (Ty-F.Var n) = refl
replaced_ty_layer s (Ty-F.IntVar n) = refl
replaced_ty_layer s (Ty-F.Param n) = term_param n
replaced_ty_layer s (Ty-F.Array t c) = term_array (folded s t) (const_folded s c)
replaced_ty_layer s x = term_at (in_ty (replacing (with_holes s)) x) ∙ ap ty_step (in_ty_twice terms (replacing (with_holes s)) x)

replaced_trait : (s : Assignment) (r : TraitRef)
    → trait_parts (trait_folded s r) ≡ leaf (head.Principal r.id) ∷ map (λ x. arg_term (arg_folded s x)) r.args
replaced_trait s r = ap trait_parts (trait_replaced_is (with_holes s) r) ∙ trait_parts_is
    (record { id = r.id; args = map (arg_folded s) r.args }) ∙ ap (◌∷◌ (leaf (head.Principal r.id)))
    (map_twice arg_term (arg_folded s) r.args)

replaced_bound : (s : Assignment) (b : AliasBound)
    → bound_parts (bound_replaced (with_holes s) b) ≡ leaf (head.Bound b.alias) ∷ type_part (term (folded s b.ty)) ∷ []
replaced_bound s b = ap bound_parts (bound_replaced_is (with_holes s) b) ∙ bound_parts_is (record { alias = b.alias; ty = folded s b.ty })

replaced_first_follows : (s : Assignment) → GoBySteps (assigned s) (replaced_first s)
replaced_first_follows s = record {
  arg = λ x. ap arg_term (at_arg (with_holes s) x) ∙ replaced_arg_layer s x;
  ty = λ x. ap term (at_ty (with_holes s) x) ∙ replaced_ty_layer s x;
  bound = λ x. replaced_bound s (roll-AliasBound x);
  trait = λ x. replaced_trait s (roll-TraitRef x);
}

-- first the term
abbrev term_first : (Hole → Term) → Maps Term Term (List Term) (List Term)
term_first s = record {
  arg = λ x. apply s (arg_term x);
  ty = λ t. apply s (term t);
  bound = λ b. map (apply s) (bound_parts b);
  trait = λ r. map (apply s) (trait_parts r);
}

-- a map on terms that leaves the mark before each part
type_parts_under : (f g : Term → Term) → ((u : Term) → f (type_part u) ≡ type_part (g u)) → (h : Ty → Term) (ts : List Ty)
    → map f (map type_part (map h ts)) ≡ map type_part (map (λ t. g (h t)) ts)
type_parts_under f g e h [] = refl
type_parts_under f g e h (t ∷ ts) = λ i. e (h t) i ∷ type_parts_under f g e h ts i

flat_under : {X : Type 0} (f : Term → Term) (h : X → List Term) (xs : List X)
    → map f (flat_map (λ us. us) (map h xs)) ≡ flat_map (λ us. us) (map (λ x. map f (h x)) xs)
flat_under f h [] = refl
flat_under f h (x ∷ xs) = map_appended f (h x) (flat_map (λ us. us) (map h xs)) ∙ ap (◌++◌ (map f (h x))) (flat_under f h xs)

auto_under : (s : Hole → Term) (ids : List TraitId) → map (apply s) (auto_parts ids) ≡ auto_parts ids
auto_under s [] = refl
auto_under s (id ∷ ids) = ap (◌∷◌ (leaf (head.AutoTrait id))) (auto_under s ids)

inputs_under : (s : Hole → Term) (ts : List Ty) (t : Ty)
    → map (apply s) (map type_part (map term ts) ++ type_part (term t) ∷ []) ≡ map type_part (map (λ x. apply s (term x)) ts)
    ++ type_part (apply s (term t)) ∷ []
inputs_under s ts t =
    map_appended (apply s) (map type_part (map term ts)) (type_part (term t) ∷ []) ∙ ap (λ us. us ++ type_part (apply s (term t)) ∷ [])
    (type_parts_under (apply s) (apply s) (λ u. refl) term ts)

dynamic_under : (s : Hole → Term) (us : List Term) (bs : List AliasBound) (ids : List TraitId)
    → apply s (node head.Dynamic (us ++ flat_map (λ us. us) (map bound_parts bs) ++ auto_parts ids))
    ≡ node head.Dynamic (map (apply s) us ++ flat_map (λ us. us) (map (λ b. map (apply s) (bound_parts b)) bs) ++ auto_parts ids)
dynamic_under s us bs ids =
    apply_node s head.Dynamic (us ++ flat_map (λ us. us) (map bound_parts bs) ++ auto_parts ids)
    ∙ ap (node head.Dynamic) (map_appended (apply s) (us ++ flat_map (λ us. us) (map bound_parts bs)) (auto_parts ids)
    ∙ (λ i. (map_appended (apply s) us (flat_map (λ us. us) (map bound_parts bs)) ∙ ap (◌++◌ (map (apply s) us))
    (flat_under (apply s) bound_parts bs)) i ++ auto_under s ids i))

args_under : (s : Hole → Term) (h : Head) (xs : List GenericArg)
    → apply s (node h (map arg_term xs)) ≡ node h (map (λ x. apply s (arg_term x)) xs)
args_under s h xs = apply_node s h (map arg_term xs) ∙ ap (node h) (map_twice (apply s) arg_term xs)

term_arg_layer : (s : Assignment) (x : GenericArg-F GenericArg Ty AliasBound TraitRef)
    → apply (terms_of s) (arg_step (in_arg terms x)) ≡ assigned_arg s (in_arg (term_first (terms_of s)) x)
term_arg_layer s (GenericArg-F.Ty t) = refl
term_arg_layer s (GenericArg-F.Const c) = ap (pair (leaf head.ConstPart)) (sym (const_term_folded s c))

term_ty_layer : (s : Assignment) (x : Ty-F GenericArg Ty AliasBound TraitRef)
    → apply (terms_of s) (ty_step (in_ty terms x)) ≡ assigned_ty s (in_ty (term_first (terms_of s)) x)
term_ty_layer s (Ty-F.Tuple ts) =
    apply_node (terms_of s) head.Tuple (map type_part (map term ts)) ∙ ap (node head.Tuple)
    (type_parts_under (apply (terms_of s)) (apply (terms_of s)) (λ u. refl) term ts)
term_ty_layer s (Ty-F.Array t c) =
    ap (λ u. node head.Array (type_part (apply (terms_of s) (term t)) ∷ pair (leaf head.ConstPart) u ∷ [])) (sym (const_term_folded s c))
term_ty_layer s (Ty-F.Adt id xs) = args_under (terms_of s) (head.Adt id) xs
term_ty_layer s (Ty-F.FnDef id xs) = args_under (terms_of s) (head.FnDef id) xs
term_ty_layer s (Ty-F.FnPtr u ts t) =
    apply_node (terms_of s) (head.FnPtr u) (map type_part (map term ts) ++ type_part (term t) ∷ []) ∙ ap (node (head.FnPtr u))
    (inputs_under (terms_of s) ts t)
term_ty_layer s (Ty-F.Closure id ts t) =
    apply_node (terms_of s) (head.Closure id) (map type_part (map term ts) ++ type_part (term t) ∷ []) ∙ ap (node (head.Closure id))
    (inputs_under (terms_of s) ts t)
term_ty_layer s (Ty-F.Dynamic None bs ids) = dynamic_under (terms_of s) (leaf head.NoPrincipal ∷ []) bs ids
term_ty_layer s (Ty-F.Dynamic (Some r) bs ids) = dynamic_under (terms_of s) (trait_parts r) bs ids
term_ty_layer s (Ty-F.Projection id xs) = args_under (terms_of s) (head.Projection id) xs
term_ty_layer s (Ty-F.AssociatedType id xs) = args_under (terms_of s) (head.AssociatedType id) xs
term_ty_layer s (Ty-F.Opaque id xs) = args_under (terms_of s) (head.Opaque id) xs
term_ty_layer s _ = refl

term_trait : (s : Hole → Term) (r : TraitRef)
    → map (apply s) (trait_parts r) ≡ leaf (head.Principal r.id) ∷ map (λ x. apply s (arg_term x)) r.args
term_trait s r = ap (map (apply s)) (trait_parts_is r) ∙ ap (◌∷◌ (leaf (head.Principal r.id))) (map_twice (apply s) arg_term r.args)

term_bound : (s : Hole → Term) (b : AliasBound)
    → map (apply s) (bound_parts b) ≡ leaf (head.Bound b.alias) ∷ type_part (apply s (term b.ty)) ∷ []
term_bound s b = ap (map (apply s)) (bound_parts_is b)

term_first_follows : (s : Assignment) → GoBySteps (assigned s) (term_first (terms_of s))
term_first_follows s = record {
  arg = λ x. ap (apply (terms_of s)) (arg_term_at x) ∙ term_arg_layer s x;
  ty = λ x. ap (apply (terms_of s)) (term_at x) ∙ term_ty_layer s x;
  bound = λ x. term_bound (terms_of s) (roll-AliasBound x);
  trait = λ x. term_trait (terms_of s) (roll-TraitRef x);
}

terms_folded : (s : Assignment) → SameMaps (replaced_first s) (term_first (terms_of s))
terms_folded s = unique (assigned s) (replaced_first s) (term_first (terms_of s)) (replaced_first_follows s) (term_first_follows s)

pub term_folded : (s : Assignment) (t : Ty) → term (folded s t) ≡ apply (terms_of s) (term t)
term_folded s = (terms_folded s).ty
