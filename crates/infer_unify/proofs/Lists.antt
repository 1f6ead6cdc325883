-- In the terms of types, what makes an associated type that is to be read stands first, and behind it a list.
use Rattle.std.proofs.Common.{◌≡◌, ◌++◌, refl, sym, subst, List, [], ◌∷◌, map, Some, None}
use Rattle.std.specs.List.{flat_map}
use Rattle.infer_unify.specs.Words.{TraitId, Head, Const, Ty, Ty-F, roll-Ty, map-Ty, ind-Ty, GenericArg, GenericArg-F, roll-GenericArg, map-GenericArg, TraitRef, TraitRef-F, roll-TraitRef, map-TraitRef, AliasBound, AliasBound-F, roll-AliasBound, map-AliasBound, in_arg, in_ty, Term, hole, leaf, pair, chain, node, const_term, type_part, const_part, arg_step, auto_parts, ty_step, term, arg_term, trait_parts, bound_parts, terms, term_at, arg_term_at, trait_parts_is, bound_parts_is, plain, alias, role, IsReadLeaf, IsRead, Each, IsHead}
use Rattle.hir_types.specs.declared.head.Head.TheVariants as head
use Rattle.hir_types.specs.declared.ty.Const.TheVariants as const
use Rattle.infer_unify.specs.Words.goal_answers.Reading.{Role}
use Rattle.infer_unify.proofs.Words.{list_is_head, each_append}

-- behind the mark of an associated type that is to be read stands a list
abbrev pub IsListBehind : Role → Term → Type 0
IsListBehind plain b = Unit {0}
IsListBehind (alias k) b = IsHead b

-- and such a mark stands nowhere else
abbrev pub HasLists : Term → Type 0
HasLists (hole k) = Unit {0}
HasLists (leaf h) = IsReadLeaf (role (leaf h))
HasLists (pair (hole k) b) = HasLists b
HasLists (pair (leaf h) b) = IsListBehind (role (leaf h)) b × HasLists b
HasLists (pair (pair m a) b) = IsRead m × HasLists a × HasLists b

-- ---- parts of a list

abbrev IsPart : Term → Type 0
IsPart u = (b : Term) → HasLists b → HasLists (pair u b)

abbrev AreParts : List Term → Type 0
AreParts = Each IsPart

chain_lists : (us : List Term) → AreParts us → HasLists (chain us)
chain_lists [] h = tt
chain_lists (u ∷ us) h = h.0 (chain us) (chain_lists us h.1)

node_lists : (h : Head) (us : List Term) → role (leaf h) ≡ plain → AreParts us → HasLists (node h us)
node_lists h us e p = (subst (λ r. IsListBehind r (chain us)) (sym e) tt, chain_lists us p)

const_lists : (c : Const) → HasLists (const_term c)
const_lists (const.Value n) = (tt, tt)
const_lists (const.Param n) = (tt, tt)
const_lists const.Unknown = (tt, tt)
const_lists (const.Var n) = tt
const_lists const.Hole = (tt, tt)

type_part_is : (u : Term) → HasLists u → IsPart (type_part u)
type_part_is u h = λ b k. (tt, h, k)

const_part_is : (c : Const) → IsPart (const_part c)
const_part_is c = λ b k. (tt, const_lists c, k)

both_parts : (us vs : List Term) → AreParts us → AreParts vs → AreParts (us ++ vs)
both_parts us vs h g = each_append IsPart us vs h g

-- ---- types

abbrev ArgHas : GenericArg → Type 0
ArgHas x = IsPart (arg_term x)

abbrev TyHas : Ty → Type 0
TyHas t = HasLists (term t)

abbrev BoundHas : AliasBound → Type 0
BoundHas b = AreParts (bound_parts b)

abbrev TraitHas : TraitRef → Type 0
TraitHas r = AreParts (trait_parts r)

abbrev ArgTold : Type 0
ArgTold = (x : GenericArg) × ArgHas x

abbrev TyTold : Type 0
TyTold = (t : Ty) × TyHas t

abbrev BoundTold : Type 0
BoundTold = (b : AliasBound) × BoundHas b

abbrev TraitTold : Type 0
TraitTold = (r : TraitRef) × TraitHas r

abbrev arg_values : GenericArg-F ArgTold TyTold BoundTold TraitTold → GenericArg-F GenericArg Ty AliasBound TraitRef
arg_values = map-GenericArg ArgTold TyTold BoundTold TraitTold GenericArg Ty AliasBound TraitRef (λ e. e.0) (λ e. e.0) (λ e. e.0) (λ e. e.0)

abbrev ty_values : Ty-F ArgTold TyTold BoundTold TraitTold → Ty-F GenericArg Ty AliasBound TraitRef
ty_values = map-Ty ArgTold TyTold BoundTold TraitTold GenericArg Ty AliasBound TraitRef (λ e. e.0) (λ e. e.0) (λ e. e.0) (λ e. e.0)

abbrev bound_values : AliasBound-F ArgTold TyTold BoundTold TraitTold → AliasBound-F GenericArg Ty AliasBound TraitRef
bound_values = map-AliasBound ArgTold TyTold BoundTold TraitTold GenericArg Ty AliasBound TraitRef (λ e. e.0) (λ e. e.0) (λ e. e.0) (λ e. e.0)

abbrev trait_values : TraitRef-F ArgTold TyTold BoundTold TraitTold → TraitRef-F GenericArg Ty AliasBound TraitRef
trait_values = map-TraitRef ArgTold TyTold BoundTold TraitTold GenericArg Ty AliasBound TraitRef (λ e. e.0) (λ e. e.0) (λ e. e.0) (λ e. e.0)

types_have : (ts : List TyTold) → AreParts (map type_part (map term (map (λ e. e.0) ts)))
types_have [] = tt
types_have (t ∷ ts) = (type_part_is (term t.0) t.1, types_have ts)

args_have : (xs : List ArgTold) → AreParts (map arg_term (map (λ e. e.0) xs))
args_have [] = tt
args_have (x ∷ xs) = (x.1, args_have xs)

bounds_have : (bs : List BoundTold) → AreParts (flat_map (λ us. us) (map bound_parts (map (λ e. e.0) bs)))
bounds_have [] = tt
bounds_have (b ∷ bs) = both_parts (bound_parts b.0) (flat_map (λ us. us) (map bound_parts (map (λ e. e.0) bs))) b.1 (bounds_have bs)

autos_have : (ids : List TraitId) → AreParts (auto_parts ids)
autos_have [] = tt
autos_have (id ∷ ids) = ((λ b k. (tt, k)), autos_have ids)

one_has : (h : Head) (t : TyTold) → role (leaf h) ≡ plain → HasLists (node h (type_part (term t.0) ∷ []))
one_has h t e = node_lists h (type_part (term t.0) ∷ []) e (type_part_is (term t.0) t.1, tt)

inputs_have : (h : Head) (ts : List TyTold) (t : TyTold) → role (leaf h) ≡ plain → HasLists (node h (map type_part (map term (map (λ e. e.0) ts)) ++ type_part (term t.0) ∷ []))
inputs_have h ts t e =
    let us = map type_part (map term (map (λ e. e.0) ts)) in
    node_lists h (us ++ type_part (term t.0) ∷ []) e (both_parts us (type_part (term t.0) ∷ []) (types_have ts) (type_part_is (term t.0) t.1, tt))

dynamic_has : (us : List Term) (bs : List BoundTold) (ids : List TraitId) → AreParts us → HasLists (node head.Dynamic (us ++ flat_map (λ vs. vs) (map bound_parts (map (λ e. e.0) bs)) ++ auto_parts ids))
dynamic_has us bs ids h =
    let vs = flat_map (λ vs. vs) (map bound_parts (map (λ e. e.0) bs)) in
    node_lists head.Dynamic ((us ++ vs) ++ auto_parts ids) refl (both_parts (us ++ vs) (auto_parts ids) (both_parts us vs h (bounds_have bs)) (autos_have ids))

arg_layer_has : (y : GenericArg-F ArgTold TyTold BoundTold TraitTold) → IsPart (arg_step (in_arg terms (arg_values y)))
arg_layer_has (GenericArg-F.Ty t) = type_part_is (term t.0) t.1
arg_layer_has (GenericArg-F.Const c) = const_part_is c

ty_layer_has : (y : Ty-F ArgTold TyTold BoundTold TraitTold) → HasLists (ty_step (in_ty terms (ty_values y)))
ty_layer_has (Ty-F.Var n) = tt
ty_layer_has (Ty-F.IntVar n) = tt
ty_layer_has (Ty-F.Tuple ts) = node_lists head.Tuple (map type_part (map term (map (λ e. e.0) ts))) refl (types_have ts)
ty_layer_has (Ty-F.Array t c) = node_lists head.Array (type_part (term t.0) ∷ const_part c ∷ []) refl (type_part_is (term t.0) t.1, (const_part_is c, tt))
ty_layer_has (Ty-F.Slice t) = one_has head.Slice t refl
ty_layer_has (Ty-F.Ref m r t) = one_has (head.Ref m) t refl
ty_layer_has (Ty-F.RawPtr m t) = one_has (head.RawPtr m) t refl
ty_layer_has (Ty-F.Adt id xs) = node_lists (head.Adt id) (map arg_term (map (λ e. e.0) xs)) refl (args_have xs)
ty_layer_has (Ty-F.FnDef id xs) = node_lists (head.FnDef id) (map arg_term (map (λ e. e.0) xs)) refl (args_have xs)
ty_layer_has (Ty-F.FnPtr u ts t) = inputs_have (head.FnPtr u) ts t refl
ty_layer_has (Ty-F.Closure id ts t) = inputs_have (head.Closure id) ts t refl
ty_layer_has (Ty-F.Dynamic None bs ids) = dynamic_has (leaf head.NoPrincipal ∷ []) bs ids ((λ b k. (tt, k)), tt)
ty_layer_has (Ty-F.Dynamic (Some r) bs ids) = dynamic_has (trait_parts r.0) bs ids r.1
ty_layer_has (Ty-F.Projection id xs) = (list_is_head (map (λ e. e.0) xs), chain_lists (map arg_term (map (λ e. e.0) xs)) (args_have xs))
ty_layer_has (Ty-F.AssociatedType id xs) = node_lists (head.AssociatedType id) (map arg_term (map (λ e. e.0) xs)) refl (args_have xs)
ty_layer_has (Ty-F.Opaque id xs) = node_lists (head.Opaque id) (map arg_term (map (λ e. e.0) xs)) refl (args_have xs)
ty_layer_has _ = (tt, tt)

bound_layer_has : (y : AliasBound-F ArgTold TyTold BoundTold TraitTold) → BoundHas (roll-AliasBound (bound_values y))
bound_layer_has y = subst AreParts (sym (bound_parts_is (roll-AliasBound (bound_values y)))) ((λ b k. (tt, k)), (type_part_is (term y.ty.0) y.ty.1, tt))

trait_layer_has : (y : TraitRef-F ArgTold TyTold BoundTold TraitTold) → TraitHas (roll-TraitRef (trait_values y))
trait_layer_has y = subst AreParts (sym (trait_parts_is (roll-TraitRef (trait_values y)))) ((λ b k. (tt, k)), args_have y.args)

arg_has_at : (x : GenericArg-F GenericArg Ty AliasBound TraitRef) (y : GenericArg-F ArgTold TyTold BoundTold TraitTold) → arg_values y ≡ x → ArgHas (roll-GenericArg x)
arg_has_at x y is = subst IsPart (sym (arg_term_at x)) (subst (λ z. IsPart (arg_step (in_arg terms z))) is (arg_layer_has y))

ty_has_at : (x : Ty-F GenericArg Ty AliasBound TraitRef) (y : Ty-F ArgTold TyTold BoundTold TraitTold) → ty_values y ≡ x → TyHas (roll-Ty x)
ty_has_at x y is = subst HasLists (sym (term_at x)) (subst (λ z. HasLists (ty_step (in_ty terms z))) is (ty_layer_has y))

bound_has_at : (x : AliasBound-F GenericArg Ty AliasBound TraitRef) (y : AliasBound-F ArgTold TyTold BoundTold TraitTold) → bound_values y ≡ x → BoundHas (roll-AliasBound x)
bound_has_at x y is = subst (λ z. BoundHas (roll-AliasBound z)) is (bound_layer_has y)

trait_has_at : (x : TraitRef-F GenericArg Ty AliasBound TraitRef) (y : TraitRef-F ArgTold TyTold BoundTold TraitTold) → trait_values y ≡ x → TraitHas (roll-TraitRef x)
trait_has_at x y is = subst (λ z. TraitHas (roll-TraitRef z)) is (trait_layer_has y)

pub type_lists : (t : Ty) → HasLists (term t)
type_lists = ind-Ty ArgHas TyHas BoundHas TraitHas arg_has_at ty_has_at bound_has_at trait_has_at
