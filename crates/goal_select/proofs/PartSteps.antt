-- A goal that is selected by the parts of its self type.
use Rattle.std.proofs.Common.{◌≡◌, refl, sym, ap, ap₂, ◌∙◌, subst, List, [], ◌∷◌, map, Some, Option, None, slice_get}
use Rattle.goal_select.specs.Words.{TraitId, HoleKind, AliasBound, Const, GenericArg, TraitRef, out-TraitRef, Ty, Ty-F, out-Ty, roll-out-Ty, in_ty, Term, hole, leaf, pair, chain, apply, type_part, const_term, const_part, arg_term, ty_step, term, terms, term_at, arg_term_type, arg_term_const, AreOf, are_of_leaf, are_of_pair, are_of_parts, Fill, Kind, implements, Asked, System, IsKnown, self_type, only, Each, with_part, types_of, with_parts, copied, CopiesParts, trait_goal, asked_goal, filled_goal}
use Rattle.hir_types.specs.declared.head.Head.TheVariants as head
use Rattle.hir_types.specs.declared.ty.Const.TheVariants as const
use Rattle.hir_types.specs.declared.ty.GenericArg.TheVariants as arg
use Rattle.hir_types.specs.declared.ty.Mutability.TheVariants as mutability
use Rattle.goal_select.specs.Own.{only_goal, part_types, goals_of_first, self_part_goals}

-- ---- the parts of a type

-- its parts are these types, at a filling
pub record HasParts (s : Fill) (t : Term) (ts : List Ty) : Type 0 where
  pub parts : Term
  pub copied : copied (apply s t) ≡ with_parts parts
  pub types : types_of parts ≡ Some (map (λ u. apply s (term u)) ts)

no_types : (s : Fill) (t : Term) → copied (apply s t) ≡ with_parts (leaf head.End) → HasParts s t []
no_types s t e = record { parts = leaf head.End; copied = e; types = refl }

tuple_types : (s : Fill) (ts : List Ty) → types_of (apply s (chain (map type_part (map term ts)))) ≡ Some (map (λ u. apply s (term u)) ts)
tuple_types s [] = refl
tuple_types s (t ∷ ts) = ap (with_part (pair (leaf head.TypePart) (apply s (term t)))) (tuple_types s ts)

step_parts : (s : Fill) (x : Ty-F GenericArg Ty AliasBound TraitRef) (p : Term) → copied (ty_step (in_ty terms x)) ≡ with_parts p → HasParts s (ty_step (in_ty terms x)) (part_types x)
step_parts s Ty-F.Never p e = no_types s (ty_step (in_ty terms Ty-F.Never)) refl
step_parts s (Ty-F.FnDef id xs) p e = no_types s (ty_step (in_ty terms (Ty-F.FnDef id xs))) refl
step_parts s (Ty-F.FnPtr u ts t) p e = no_types s (ty_step (in_ty terms (Ty-F.FnPtr u ts t))) refl
step_parts s (Ty-F.RawPtr m t) p e = no_types s (ty_step (in_ty terms (Ty-F.RawPtr m t))) refl
step_parts s (Ty-F.Ref mutability.Not r t) p e = no_types s (ty_step (in_ty terms (Ty-F.Ref mutability.Not r t))) refl
step_parts s (Ty-F.Tuple ts) p e = record { parts = apply s (chain (map type_part (map term ts))); copied = refl; types = tuple_types s ts }
step_parts s (Ty-F.Array t c) p e = record { parts = apply s (chain (type_part (term t) ∷ const_part c ∷ [])); copied = refl; types = refl }
step_parts s _ p e = cc

pub type_is : (t : Ty) → term t ≡ ty_step (in_ty terms (out-Ty t))
type_is t = ap term (sym (roll-out-Ty t)) ∙ term_at (out-Ty t)

pub type_parts : (s : Fill) (t : Ty) (p : Term) → copied (term t) ≡ with_parts p → HasParts s (term t) (part_types (out-Ty t))
type_parts s t p e =
    subst (λ u. HasParts s u (part_types (out-Ty t))) (sym (type_is t)) (step_parts s (out-Ty t) p (ap copied (sym (type_is t)) ∙ e))

-- ---- those of the self type

abbrev pub first_types : Option GenericArg → List Ty
first_types (Some (arg.Ty t)) = part_types (out-Ty t)
first_types _ = []

no_const : (c : Const) (p : Term) → copied (const_term c) ≡ with_parts p → ⊥
no_const (const.Value n) p e = cc
no_const (const.Param n) p e = cc
no_const const.Unknown p e = cc
no_const (const.Var n) p e = cc
no_const const.Hole p e = cc

first_parts : (s : Fill) (x : GenericArg) (b p : Term) → copied (self_type (pair (arg_term x) b)) ≡ with_parts p → HasParts s (self_type (pair (arg_term x) b)) (first_types (Some x))
first_parts s (arg.Ty t) b p e =
    let is = ap (λ a. self_type (pair a b)) (arg_term_type t) in
    subst (λ u. HasParts s u (part_types (out-Ty t))) (sym is) (type_parts s t p (ap copied (sym is) ∙ e))
first_parts s (arg.Const c) b p e = absurd (no_const c p (ap (λ a. copied (self_type (pair a b))) (sym (arg_term_const c)) ∙ e))

pub args_parts : (s : Fill) (xs : List GenericArg) (p : Term) → copied (self_type (chain (map arg_term xs))) ≡ with_parts p → HasParts s (self_type (chain (map arg_term xs))) (first_types (slice_get xs 0))
args_parts s [] p e = cc
args_parts s (x ∷ xs) p e = first_parts s x (chain (map arg_term xs)) p e

-- the self type where it is known
self_at : (s : Fill) (w : Term) → IsKnown w → self_type (apply s w) ≡ apply s (self_type w)
self_at s (hole k) h = absurd h
self_at s (leaf x) h = absurd h
self_at s (pair (hole k) b) h = absurd h
self_at s (pair (leaf x) b) h = absurd h
self_at s (pair (pair m t) b) h = refl

abbrev pub types_at : Fill → TraitRef → List Term
types_at s k = map (λ u. apply s (term u)) (first_types (slice_get (out-TraitRef k).args 0))

-- they are copied at a filling
pub parts_at : (f : System) (s : Fill) (k : TraitRef) (c : Kind) (ts : List Term) → IsKnown (trait_goal k).parts → CopiesParts f c (trait_goal k).parts ts → CopiesParts f c (apply s (trait_goal k).parts) (types_at s k)
parts_at f s k c ts known h =
    let at = args_parts s (out-TraitRef k).args h.parts h.copied in
    record {
      among = h.among;
      parts = at.parts;
      copied = ap copied (self_at s (trait_goal k).parts known) ∙ at.copied;
      types = at.types;
    }

-- ---- what is asked for

pub goals_are : (id : TraitId) (o : Option GenericArg) → goals_of_first id o ≡ map (only_goal id) (first_types o)
goals_are id None = refl
goals_are id (Some (arg.Ty t)) = refl
goals_are id (Some (arg.Const c)) = refl

goal_at : (s : Fill) (id : TraitId) (t : Ty) → filled_goal s (only_goal id t) ≡ record { kind = implements id; parts = only (apply s (term t)) }
goal_at s id t = ap (λ u. let g : Asked = record { kind = implements id; parts = apply s (pair u (leaf head.End)) } in g) (arg_term_type t)

goals_at : (s : Fill) (id : TraitId) (ts : List Ty) → map (filled_goal s) (map (only_goal id) ts) ≡ map (λ t. record { kind = implements id; parts = only t }) (map (λ u. apply s (term u)) ts)
goals_at s id [] = refl
goals_at s id (t ∷ ts) = ap₂ (λ x xs. x ∷ xs) (goal_at s id t) (goals_at s id ts)

pub part_goals_at : (s : Fill) (k : TraitRef) → map (filled_goal s) (self_part_goals k) ≡ map (λ t. record { kind = (trait_goal k).kind; parts = only t }) (types_at s k)
part_goals_at s k =
    let id = (out-TraitRef k).id in
    let first = slice_get (out-TraitRef k).args 0 in
    ap (map (filled_goal s)) (goals_are id first) ∙ goals_at s id (first_types first)

-- ---- their holes

abbrev AreAllOf : List HoleKind → List Ty → Type 0
AreAllOf kinds = Each (λ t. AreOf kinds (term t))

chain_of : (kinds : List HoleKind) (ts : List Ty) → AreOf kinds (chain (map type_part (map term ts))) → AreAllOf kinds ts
chain_of kinds [] h = tt
chain_of kinds (t ∷ ts) h =
    let both = are_of_parts kinds (type_part (term t)) (chain (map type_part (map term ts))) h in
    ((are_of_parts kinds (leaf head.TypePart) (term t) both.0).1, chain_of kinds ts both.1)

step_of : (kinds : List HoleKind) (x : Ty-F GenericArg Ty AliasBound TraitRef) → AreOf kinds (ty_step (in_ty terms x)) → AreAllOf kinds (part_types x)
step_of kinds (Ty-F.Tuple ts) h = chain_of kinds ts (are_of_parts kinds (leaf head.Tuple) (chain (map type_part (map term ts))) h).1
step_of kinds (Ty-F.Array t c) h =
    let parts = (are_of_parts kinds (leaf head.Array) (chain (type_part (term t) ∷ const_part c ∷ [])) h).1 in
    let first = (are_of_parts kinds (type_part (term t)) (chain (const_part c ∷ [])) parts).0 in
    ((are_of_parts kinds (leaf head.TypePart) (term t) first).1, tt)
step_of kinds _ h = tt

first_of_table : (kinds : List HoleKind) (x : GenericArg) → AreOf kinds (arg_term x) → AreAllOf kinds (first_types (Some x))
first_of_table kinds (arg.Ty t) h =
    let part = subst (AreOf kinds) (arg_term_type t) h in
    step_of kinds (out-Ty t) (subst (AreOf kinds) (type_is t) (are_of_parts kinds (leaf head.TypePart) (term t) part).1)
first_of_table kinds (arg.Const c) h = tt

args_of_table : (kinds : List HoleKind) (xs : List GenericArg) → AreOf kinds (chain (map arg_term xs)) → AreAllOf kinds (first_types (slice_get xs 0))
args_of_table kinds [] h = tt
args_of_table kinds (x ∷ xs) h = first_of_table kinds x (are_of_parts kinds (arg_term x) (chain (map arg_term xs)) h).0

goal_of_table : (kinds : List HoleKind) (id : TraitId) (t : Ty) → AreOf kinds (term t) → AreOf kinds (asked_goal (only_goal id t)).parts
goal_of_table kinds id t h =
    let part = subst (AreOf kinds) (sym (arg_term_type t)) (are_of_pair kinds (leaf head.TypePart) (term t) (are_of_leaf kinds head.TypePart) h) in
    are_of_pair kinds (arg_term (arg.Ty t)) (leaf head.End) part (are_of_leaf kinds head.End)

goals_of_table : (kinds : List HoleKind) (id : TraitId) (ts : List Ty) → AreAllOf kinds ts → Each (λ q. AreOf kinds (asked_goal q).parts) (map (only_goal id) ts)
goals_of_table kinds id [] h = tt
goals_of_table kinds id (t ∷ ts) h = (goal_of_table kinds id t h.0, goals_of_table kinds id ts h.1)

pub part_goals_of : (kinds : List HoleKind) (k : TraitRef) → AreOf kinds (trait_goal k).parts → Each (λ q. AreOf kinds (asked_goal q).parts) (self_part_goals k)
part_goals_of kinds k h =
    let id = (out-TraitRef k).id in
    let first = slice_get (out-TraitRef k).args 0 in
    subst (Each (λ q. AreOf kinds (asked_goal q).parts)) (sym (goals_are id first)) (goals_of_table kinds id (first_types first) (args_of_table kinds (out-TraitRef k).args h))
