-- What a term with such a head is, where it is that of a type.
use Rattle.std.specs.Prelude.{◌≡◌, ℕ, List, [], ◌∷◌, map, slice_get, Some, refl}
use Rattle.std.specs.List.{range_with_len}
use Rattle.std.proofs.Common.{sym, ap, ◌∙◌}
use Rattle.goal_prove.specs.Words.{AdtId, TypeAliasId, TypeRefId, Head, AliasBound, GenericArg, GenericArg-F, out-GenericArg, out-roll-GenericArg, TraitRef, Ty, Ty-F, out-Ty, in_ty, map_twice, Term, leaf, pair, chain, type_part, ty_step, term, arg_term, terms, arg_term_type, arg_term_const, args_terms, RawFacts, pair_right, plain, role, holes, args_at}
use Rattle.hir_types.specs.declared.head.Head.TheVariants as head
use Rattle.hir_types.specs.declared.ty.GenericArg.TheVariants as arg
use Rattle.hir_types.specs.declared.ty.Ty.TheVariants as ty
use Rattle.goal_prove.proofs.Words.{get_in_map, IsTypeTerm, type_is}

-- ---- types

-- the parts of a tuple or of an adt are arguments
abbrev pub AreArgs : Term → Type 0
AreArgs c = (xs : List GenericArg) × (c ≡ chain (map arg_term xs))

tuple_step : (x : Ty-F GenericArg Ty AliasBound TraitRef) (c : Term) → ty_step (in_ty terms x) ≡ pair (leaf head.Tuple) c → AreArgs c
tuple_step (Ty-F.Tuple ts) c e = (map arg.Ty ts, sym (pair_right e) ∙ ap chain (map_twice type_part term ts ∙ sym (args_terms ts)))
tuple_step _ c e = cc

pub tuple_args : (u : Ty) (c : Term) → pair (leaf head.Tuple) c ≡ term u → AreArgs c
tuple_args u c e = tuple_step (out-Ty u) c (sym (type_is u) ∙ sym e)

adt_step : (a : AdtId) (x : Ty-F GenericArg Ty AliasBound TraitRef) (c : Term) → ty_step (in_ty terms x) ≡ pair (leaf (head.Adt a)) c → AreArgs c
adt_step a (Ty-F.Adt id xs) c e = (xs, sym (pair_right e))
adt_step a _ c e = cc

pub adt_args : (a : AdtId) (u : Ty) (c : Term) → pair (leaf (head.Adt a)) c ≡ term u → AreArgs c
adt_args a u c e = adt_step a (out-Ty u) c (sym (type_is u) ∙ sym e)

associated_step : (a : TypeAliasId) (x : Ty-F GenericArg Ty AliasBound TraitRef) (c : Term) → ty_step (in_ty terms x) ≡ pair (leaf (head.AssociatedType a)) c → AreArgs c
associated_step a (Ty-F.AssociatedType id xs) c e = (xs, sym (pair_right e))
associated_step a _ c e = cc

pub associated_args : (a : TypeAliasId) (u : Ty) (c : Term) → pair (leaf (head.AssociatedType a)) c ≡ term u → AreArgs c
associated_args a u c e = associated_step a (out-Ty u) c (sym (type_is u) ∙ sym e)

leaf_step : (h : Head) (x : Ty-F GenericArg Ty AliasBound TraitRef) → ty_step (in_ty terms x) ≡ leaf h → ⊥
leaf_step h (Ty-F.Var n) e = cc
leaf_step h _ e = cc

-- no type is a leaf
pub no_leaf : (h : Head) (u : Ty) → leaf h ≡ term u → ⊥
no_leaf h u e = leaf_step h (out-Ty u) (sym (type_is u) ∙ sym e)

-- ---- arguments

pub arg_type : (v : Term) (x : GenericArg) → type_part v ≡ arg_term x → IsTypeTerm v
arg_type v (arg.Ty t) e = (t, pair_right (e ∙ arg_term_type t))
arg_type v (arg.Const c) e = let clash = e ∙ arg_term_const c in cc

pub top_type : (t : Ty) → out-GenericArg (arg.Ty t) ≡ GenericArg-F.Ty t
top_type t = ap out-GenericArg (sym (arg.rolls-Ty t)) ∙ out-roll-GenericArg (GenericArg-F.Ty t)

pub hole_at : (n m : ℕ) (x : GenericArg) → slice_get (holes n) m ≡ Some x → (j : ℕ) × (arg.Ty (ty.Var j) ≡ x)
hole_at n m x e = let q = get_in_map (λ k. arg.Ty (ty.Var k)) (range_with_len 0 n) m x e in (q.0, q.2)

-- arguments are no alias
pub args_role : (raw : RawFacts) (n : ℕ) (ws : List TypeRefId) → role (args_at raw (holes n) ws) ≡ plain
args_role raw n [] = refl
args_role raw n (w ∷ ws) = refl
