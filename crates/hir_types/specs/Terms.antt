-- Types as terms: a head over the terms of the parts, without lifetimes.
use Rattle.std.specs.Prelude.{ℕ, Bool, false, ◌||◌, ◌++◌, nat_eq, List, [], ◌∷◌, Option, Some, None, map}
use Rattle.std.specs.List.{flat_map}
use Rattle.hir_types.specs.declared.ids.TraitId.{TraitId}
use Rattle.hir_types.specs.declared.head.Head.{Head}
use Rattle.hir_types.specs.declared.head.Head.TheVariants as head
use Rattle.hir_types.specs.declared.head.Hole.{Hole}
use Rattle.hir_types.specs.declared.head.Hole.TheVariants as hole_of
use Rattle.hir_types.specs.declared.ty.Const.{Const}
use Rattle.hir_types.specs.declared.ty.Const.TheVariants as const
use Rattle.hir_types.specs.declared.ty.Ty.{Ty, Ty-F, fold-Ty}
use Rattle.hir_types.specs.declared.ty.GenericArg.{GenericArg, GenericArg-F, fold-GenericArg}
use Rattle.hir_types.specs.declared.ty.TraitRef.{TraitRef, TraitRef-F, fold-TraitRef}
use Rattle.hir_types.specs.declared.ty.AliasBound.{AliasBound, AliasBound-F, fold-AliasBound}
use Rattle.hir_types.specs.Subst.{Assignment}

-- a hole; what has no part; two parts
pub data Term : Type 0 where
  hole : Hole → Term
  leaf : Head → Term
  pair : Term → Term → Term

-- a term under what stands for each hole
abbrev pub apply : (Hole → Term) → Term → Term
apply s (hole k) = s k
apply s (leaf h) = leaf h
apply s (pair a b) = pair (apply s a) (apply s b)

-- ---- types as terms

abbrev pub chain : List Term → Term
chain [] = leaf head.End
chain (t ∷ ts) = pair t (chain ts)

-- a head over parts
abbrev pub node : Head → List Term → Term
node h ts = pair (leaf h) (chain ts)

abbrev pub const_term : Const → Term
const_term (const.Value n) = node (head.Value n) []
const_term (const.Param n) = node (head.ConstParam n) []
const_term const.Unknown = node head.UnknownConst []
const_term (const.Var n) = hole (hole_of.Const n)
const_term const.Hole = node head.ConstHole []

abbrev pub type_part : Term → Term
type_part t = pair (leaf head.TypePart) t

abbrev pub const_part : Const → Term
const_part c = pair (leaf head.ConstPart) (const_term c)

abbrev pub arg_step : GenericArg-F Term Term (List Term) (List Term) → Term
arg_step (GenericArg-F.Ty t) = type_part t
arg_step (GenericArg-F.Const c) = const_part c

-- the parts of a bound, of a principal trait and of the auto traits
abbrev pub bound_step : AliasBound-F Term Term (List Term) (List Term) → List Term
bound_step b = leaf (head.Bound b.alias) ∷ type_part b.ty ∷ []

abbrev pub trait_step : TraitRef-F Term Term (List Term) (List Term) → List Term
trait_step r = leaf (head.Principal r.id) ∷ r.args

abbrev pub principal_parts : Option (List Term) → List Term
principal_parts None = leaf head.NoPrincipal ∷ []
principal_parts (Some ts) = ts

abbrev pub auto_parts : List TraitId → List Term
auto_parts = map (λ t. leaf (head.AutoTrait t))

abbrev pub ty_step : Ty-F Term Term (List Term) (List Term) → Term
ty_step Ty-F.Bool = node head.Bool []
ty_step Ty-F.Char = node head.Char []
ty_step (Ty-F.Int i) = node (head.Int i) []
ty_step (Ty-F.Uint i) = node (head.Uint i) []
ty_step (Ty-F.Float i) = node (head.Float i) []
ty_step Ty-F.Str = node head.Str []
ty_step Ty-F.Never = node head.Never []
ty_step (Ty-F.Tuple ts) = node head.Tuple (map type_part ts)
ty_step (Ty-F.Array t c) = node head.Array (type_part t ∷ const_part c ∷ [])
ty_step (Ty-F.Slice t) = node head.Slice (type_part t ∷ [])
ty_step (Ty-F.Ref m r t) = node (head.Ref m) (type_part t ∷ [])
ty_step (Ty-F.RawPtr m t) = node (head.RawPtr m) (type_part t ∷ [])
ty_step (Ty-F.Adt id xs) = node (head.Adt id) xs
ty_step (Ty-F.FnDef id xs) = node (head.FnDef id) xs
ty_step (Ty-F.FnPtr s ts t) = node (head.FnPtr s) (map type_part ts ++ type_part t ∷ [])
ty_step (Ty-F.Closure id ts t) = node (head.Closure id) (map type_part ts ++ type_part t ∷ [])
ty_step (Ty-F.Dynamic p bs ids) = node head.Dynamic (principal_parts p ++ flat_map (λ b. b) bs ++ auto_parts ids)
ty_step (Ty-F.Param n) = node (head.Param n) []
ty_step (Ty-F.Projection id xs) = node (head.Projection id) xs
ty_step (Ty-F.AssociatedType id xs) = node (head.AssociatedType id) xs
ty_step (Ty-F.Opaque id xs) = node (head.Opaque id) xs
ty_step Ty-F.Error = node head.Error []
ty_step (Ty-F.Var n) = hole (hole_of.Ty n)
ty_step (Ty-F.IntVar n) = hole (hole_of.Int n)
ty_step Ty-F.Hole = node head.Hole []

abbrev pub term : Ty → Term
term = fold-Ty Term Term (List Term) (List Term) arg_step ty_step bound_step trait_step

-- an argument, as a part
abbrev pub arg_term : GenericArg → Term
arg_term = fold-GenericArg Term Term (List Term) (List Term) arg_step ty_step bound_step trait_step

abbrev pub trait_parts : TraitRef → List Term
trait_parts = fold-TraitRef Term Term (List Term) (List Term) arg_step ty_step bound_step trait_step

abbrev pub bound_parts : AliasBound → List Term
bound_parts = fold-AliasBound Term Term (List Term) (List Term) arg_step ty_step bound_step trait_step

-- what an assignment sends each hole to, as terms
abbrev pub terms_of : Assignment → Hole → Term
terms_of s (hole_of.Ty n) = term (s.var n)
terms_of s (hole_of.Int n) = term (s.int_var n)
terms_of s (hole_of.Const n) = const_term (s.const_var n)

-- ---- holes

abbrev pub hole_eq : Hole → Hole → Bool
hole_eq (hole_of.Ty m) (hole_of.Ty n) = nat_eq m n
hole_eq (hole_of.Int m) (hole_of.Int n) = nat_eq m n
hole_eq (hole_of.Const m) (hole_of.Const n) = nat_eq m n
hole_eq _ _ = false

abbrev pub hole_number : Hole → ℕ
hole_number (hole_of.Ty n) = n
hole_number (hole_of.Int n) = n
hole_number (hole_of.Const n) = n

abbrev pub occurs : Hole → Term → Bool
occurs x (hole k) = hole_eq x k
occurs x (leaf h) = false
occurs x (pair a b) = occurs x a || occurs x b

-- ---- kinds

abbrev pub IsInt : Term → Type 0
IsInt (hole (hole_of.Int n)) = Unit {0}
IsInt (pair (leaf (head.Int i)) t) = Unit {0}
IsInt (pair (leaf (head.Uint i)) t) = Unit {0}
IsInt _ = ⊥
