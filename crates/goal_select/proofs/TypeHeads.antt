-- What stands first in each pair is known in types, and so in the predicates of impls.
use Rattle.std.proofs.Common.{◌≡◌, refl, sym, subst, List, [], ◌∷◌, ◌++◌, map, Some, None}
use Rattle.std.specs.List.{flat_map}
use Rattle.goal_select.specs.Words.{TraitId, Head, Const, Ty, Ty-F, roll-Ty, map-Ty, ind-Ty, GenericArg, GenericArg-F, roll-GenericArg, map-GenericArg, ind-GenericArg, TraitRef, TraitRef-F, roll-TraitRef, map-TraitRef, AliasBound, AliasBound-F, roll-AliasBound, map-AliasBound, in_arg, in_ty, Term, leaf, chain, node, const_term, type_part, const_part, arg_step, auto_parts, ty_step, term, arg_term, trait_parts, bound_parts, terms, term_at, arg_term_at, trait_parts_is, bound_parts_is, RawFacts, RawGoal, Each, IsHead, HasHeads, instance, instances, goal_types, goal_at}
use Rattle.hir_types.specs.declared.head.Head.TheVariants as head
use Rattle.hir_types.specs.declared.ty.Const.TheVariants as const
use Rattle.goal_select.specs.Words.hir_raw.declared.raw.RawGoal.TheVariants as goal
use Rattle.goal_select.proofs.Words.{list_is_head}

-- ---- lists of parts

abbrev pub IsPart : Term → Type 0
IsPart u = IsHead u × HasHeads u

abbrev pub AreParts : List Term → Type 0
AreParts = Each IsPart

chain_heads : (us : List Term) → AreParts us → HasHeads (chain us)
chain_heads [] h = tt
chain_heads (u ∷ us) h = (h.0.0, h.0.1, chain_heads us h.1)

node_heads : (x : Head) (us : List Term) → AreParts us → HasHeads (node x us)
node_heads x us h = (tt, tt, chain_heads us h)

both_parts : (us vs : List Term) → AreParts us → AreParts vs → AreParts (us ++ vs)
both_parts [] vs h g = g
both_parts (u ∷ us) vs h g = (h.0, both_parts us vs h.1 g)

type_is_part : (t : Ty) → HasHeads (term t) → IsPart (type_part (term t))
type_is_part t h = (refl, (tt, tt, h))

const_heads : (c : Const) → HasHeads (const_term c)
const_heads (const.Value n) = (tt, tt, tt)
const_heads (const.Param n) = (tt, tt, tt)
const_heads const.Unknown = (tt, tt, tt)
const_heads (const.Var n) = tt
const_heads const.Hole = (tt, tt, tt)

const_is_part : (c : Const) → IsPart (const_part c)
const_is_part c = (refl, (tt, tt, const_heads c))

autos_are_parts : (ids : List TraitId) → AreParts (auto_parts ids)
autos_are_parts [] = tt
autos_are_parts (id ∷ ids) = ((tt, tt), autos_are_parts ids)

-- ---- types

abbrev ArgHas : GenericArg → Type 0
ArgHas x = IsPart (arg_term x)

abbrev TyHas : Ty → Type 0
TyHas t = HasHeads (term t)

abbrev BoundHas : AliasBound → Type 0
BoundHas b = AreParts (bound_parts b)

abbrev TraitHas : TraitRef → Type 0
TraitHas r = AreParts (trait_parts r)

abbrev ArgTold : Type 0
ArgTold = (x : GenericArg) × ArgHas x

abbrev TyTold : Type 0
TyTold = (t : Ty) × TyHas t

abbrev BoundTold : Type 0
BoundTold = (b : AliasBound) × BoundHas b

abbrev TraitTold : Type 0
TraitTold = (r : TraitRef) × TraitHas r

abbrev arg_values : GenericArg-F ArgTold TyTold BoundTold TraitTold → GenericArg-F GenericArg Ty AliasBound TraitRef
arg_values = map-GenericArg ArgTold TyTold BoundTold TraitTold GenericArg Ty AliasBound TraitRef (λ e. e.0) (λ e. e.0) (λ e. e.0) (λ e. e.0)

abbrev ty_values : Ty-F ArgTold TyTold BoundTold TraitTold → Ty-F GenericArg Ty AliasBound TraitRef
ty_values = map-Ty ArgTold TyTold BoundTold TraitTold GenericArg Ty AliasBound TraitRef (λ e. e.0) (λ e. e.0) (λ e. e.0) (λ e. e.0)

abbrev bound_values : AliasBound-F ArgTold TyTold BoundTold TraitTold → AliasBound-F GenericArg Ty AliasBound TraitRef
bound_values = map-AliasBound ArgTold TyTold BoundTold TraitTold GenericArg Ty AliasBound TraitRef (λ e. e.0) (λ e. e.0) (λ e. e.0) (λ e. e.0)

abbrev trait_values : TraitRef-F ArgTold TyTold BoundTold TraitTold → TraitRef-F GenericArg Ty AliasBound TraitRef
trait_values = map-TraitRef ArgTold TyTold BoundTold TraitTold GenericArg Ty AliasBound TraitRef (λ e. e.0) (λ e. e.0) (λ e. e.0) (λ e. e.0)

args_are_parts : (xs : List ArgTold) → AreParts (map arg_term (map (λ e. e.0) xs))
args_are_parts [] = tt
args_are_parts (x ∷ xs) = (x.1, args_are_parts xs)

types_are_parts : (ts : List TyTold) → AreParts (map type_part (map term (map (λ e. e.0) ts)))
types_are_parts [] = tt
types_are_parts (t ∷ ts) = (type_is_part t.0 t.1, types_are_parts ts)

bounds_are_parts : (bs : List BoundTold) → AreParts (flat_map (λ us. us) (map bound_parts (map (λ e. e.0) bs)))
bounds_are_parts [] = tt
bounds_are_parts (b ∷ bs) = both_parts (bound_parts b.0) (flat_map (λ us. us) (map bound_parts (map (λ e. e.0) bs))) b.1 (bounds_are_parts bs)

inputs_are_parts : (ts : List TyTold) (t : TyTold) → AreParts (map type_part (map term (map (λ e. e.0) ts)) ++ type_part (term t.0) ∷ [])
inputs_are_parts ts t = both_parts (map type_part (map term (map (λ e. e.0) ts))) (type_part (term t.0) ∷ []) (types_are_parts ts) (type_is_part t.0 t.1, tt)

layer_heads : (y : Ty-F ArgTold TyTold BoundTold TraitTold) → HasHeads (ty_step (in_ty terms (ty_values y)))
layer_heads (Ty-F.Tuple ts) = node_heads head.Tuple (map type_part (map term (map (λ e. e.0) ts))) (types_are_parts ts)
layer_heads (Ty-F.Array t c) = node_heads head.Array (type_part (term t.0) ∷ const_part c ∷ []) (type_is_part t.0 t.1, (const_is_part c, tt))
layer_heads (Ty-F.Slice t) = node_heads head.Slice (type_part (term t.0) ∷ []) (type_is_part t.0 t.1, tt)
layer_heads (Ty-F.Ref m r t) = node_heads (head.Ref m) (type_part (term t.0) ∷ []) (type_is_part t.0 t.1, tt)
layer_heads (Ty-F.RawPtr m t) = node_heads (head.RawPtr m) (type_part (term t.0) ∷ []) (type_is_part t.0 t.1, tt)
layer_heads (Ty-F.Adt id xs) = node_heads (head.Adt id) (map arg_term (map (λ e. e.0) xs)) (args_are_parts xs)
layer_heads (Ty-F.FnDef id xs) = node_heads (head.FnDef id) (map arg_term (map (λ e. e.0) xs)) (args_are_parts xs)
layer_heads (Ty-F.FnPtr u ts t) = node_heads (head.FnPtr u) (map type_part (map term (map (λ e. e.0) ts)) ++ type_part (term t.0) ∷ []) (inputs_are_parts ts t)
layer_heads (Ty-F.Closure id ts t) = node_heads (head.Closure id) (map type_part (map term (map (λ e. e.0) ts)) ++ type_part (term t.0) ∷ []) (inputs_are_parts ts t)
layer_heads (Ty-F.Dynamic None bs ids) =
    let bounds : List Term = flat_map (λ us. us) (map bound_parts (map (λ e. e.0) bs)) in
    node_heads head.Dynamic ((leaf head.NoPrincipal ∷ []) ++ bounds ++ auto_parts ids)
    (both_parts ((leaf head.NoPrincipal ∷ []) ++ bounds) (auto_parts ids) (both_parts (leaf head.NoPrincipal ∷ []) bounds ((tt, tt), tt) (bounds_are_parts bs)) (autos_are_parts ids))
layer_heads (Ty-F.Dynamic (Some r) bs ids) =
    let bounds : List Term = flat_map (λ us. us) (map bound_parts (map (λ e. e.0) bs)) in
    node_heads head.Dynamic (trait_parts r.0 ++ bounds ++ auto_parts ids)
    (both_parts (trait_parts r.0 ++ bounds) (auto_parts ids) (both_parts (trait_parts r.0) bounds r.1 (bounds_are_parts bs)) (autos_are_parts ids))
layer_heads (Ty-F.Projection id xs) = node_heads (head.Projection id) (map arg_term (map (λ e. e.0) xs)) (args_are_parts xs)
layer_heads (Ty-F.AssociatedType id xs) = node_heads (head.AssociatedType id) (map arg_term (map (λ e. e.0) xs)) (args_are_parts xs)
layer_heads (Ty-F.Opaque id xs) = node_heads (head.Opaque id) (map arg_term (map (λ e. e.0) xs)) (args_are_parts xs)
layer_heads (Ty-F.Var n) = tt
layer_heads (Ty-F.IntVar n) = tt
layer_heads _ = (tt, tt, tt)

arg_layer : (y : GenericArg-F ArgTold TyTold BoundTold TraitTold) → IsPart (arg_step (in_arg terms (arg_values y)))
arg_layer (GenericArg-F.Ty t) = type_is_part t.0 t.1
arg_layer (GenericArg-F.Const c) = const_is_part c

arg_at : (x : GenericArg-F GenericArg Ty AliasBound TraitRef) (y : GenericArg-F ArgTold TyTold BoundTold TraitTold) → arg_values y ≡ x → ArgHas (roll-GenericArg x)
arg_at x y is = subst (λ z. ArgHas (roll-GenericArg z)) is (subst IsPart (sym (arg_term_at (arg_values y))) (arg_layer y))

ty_at : (x : Ty-F GenericArg Ty AliasBound TraitRef) (y : Ty-F ArgTold TyTold BoundTold TraitTold) → ty_values y ≡ x → TyHas (roll-Ty x)
ty_at x y is = subst (λ z. TyHas (roll-Ty z)) is (subst HasHeads (sym (term_at (ty_values y))) (layer_heads y))

bound_at : (x : AliasBound-F GenericArg Ty AliasBound TraitRef) (y : AliasBound-F ArgTold TyTold BoundTold TraitTold) → bound_values y ≡ x → BoundHas (roll-AliasBound x)
bound_at x y is = subst (λ z. BoundHas (roll-AliasBound z)) is (subst AreParts (sym (bound_parts_is (roll-AliasBound (bound_values y)))) ((tt, tt), (type_is_part y.ty.0 y.ty.1, tt)))

trait_at : (x : TraitRef-F GenericArg Ty AliasBound TraitRef) (y : TraitRef-F ArgTold TyTold BoundTold TraitTold) → trait_values y ≡ x → TraitHas (roll-TraitRef x)
trait_at x y is = subst (λ z. TraitHas (roll-TraitRef z)) is (subst AreParts (sym (trait_parts_is (roll-TraitRef (trait_values y)))) ((tt, tt), args_are_parts y.args))

pub type_heads : (t : Ty) → HasHeads (term t)
type_heads = ind-Ty ArgHas TyHas BoundHas TraitHas arg_at ty_at bound_at trait_at

arg_is_part : (x : GenericArg) → IsPart (arg_term x)
arg_is_part = ind-GenericArg ArgHas TyHas BoundHas TraitHas arg_at ty_at bound_at trait_at

-- ---- written goals

all_are_parts : (xs : List GenericArg) → AreParts (map arg_term xs)
all_are_parts [] = tt
all_are_parts (x ∷ xs) = (arg_is_part x, all_are_parts xs)

args_heads : (xs : List GenericArg) → HasHeads (chain (map arg_term xs))
args_heads xs = chain_heads (map arg_term xs) (all_are_parts xs)

pub goal_heads : (raw : RawFacts) (xs : List GenericArg) (g : RawGoal) → HasHeads (goal_at raw xs g).parts
goal_heads raw xs (goal.Trait r) = args_heads (instances raw xs (goal_types (goal.Trait r)))
goal_heads raw xs (goal.Projection k ws w) =
    let own = instances raw xs (goal_types (goal.Projection k ws w)) in
    (list_is_head own, args_heads own, type_heads (instance raw xs w))
