-- Terms tell types up to the labels of lifetimes.
use Rattle.std.proofs.Common.{◌≡◌, ◌++◌, refl, sym, ap, subst, ◌∙◌, List, [], ◌∷◌, map, Option, Some, None}
use Rattle.std.specs.List.{flat_map}
use Rattle.hir_types.specs.declared.ids.TraitId.{TraitId}
use Rattle.hir_types.specs.declared.head.Head.{Head}
use Rattle.hir_types.specs.declared.head.Head.TheVariants as head
use Rattle.hir_types.specs.declared.head.Hole.{Hole}
use Rattle.hir_types.specs.declared.head.Hole.TheVariants as hole_of
use Rattle.hir_types.specs.declared.ty.Const.{Const}
use Rattle.hir_types.specs.declared.ty.Const.TheVariants as const
use Rattle.hir_types.specs.declared.ty.Ty.{Ty, Ty-F}
use Rattle.hir_types.specs.declared.ty.Ty.TheVariants as ty
use Rattle.hir_types.specs.declared.ty.GenericArg.{GenericArg, GenericArg-F, roll-GenericArg, out-GenericArg, fold_out-GenericArg}
use Rattle.hir_types.specs.declared.ty.GenericArg.TheVariants as arg
use Rattle.hir_types.specs.declared.ty.TraitRef.{TraitRef, roll-TraitRef}
use Rattle.hir_types.specs.declared.ty.AliasBound.{AliasBound, roll-AliasBound}
use Rattle.hir_types.specs.Erasure.{no_label, erased_step, erased}
use Rattle.hir_types.specs.Folds.{Steps, Maps, folds, folds_follow, GoBySteps, SameMaps, unique, maps_after, in_arg, in_ty, in_bound, in_trait, in_arg_twice, in_ty_twice, in_bound_twice, in_trait_twice}
use Rattle.hir_types.specs.Terms.{Term, hole, leaf, pair, chain, node, const_term, type_part, arg_step, bound_step, trait_step, auto_parts, ty_step, term, arg_term, trait_parts, bound_parts}
use Rattle.hir_types.specs.TermLaws.{term_steps, terms, term_at, arg_term_at, trait_parts_is, bound_parts_is, term_ref}

-- ---- types without labels

abbrev pub erased_steps : Steps GenericArg Ty AliasBound TraitRef
erased_steps = record { arg = roll-GenericArg; ty = erased_step; bound = roll-AliasBound; trait = roll-TraitRef }

-- `erased`, `arg_erased`, `bound_erased` and `trait_erased`
abbrev pub erasing : Maps GenericArg Ty AliasBound TraitRef
erasing = folds erased_steps

-- ---- what a term is read back as

-- a mark, a type or a const, or none of them
pub data ReadPart : Type 0 where
  mark : Head → ReadPart
  type_of : Ty → ReadPart
  const_of : Const → ReadPart
  unread : ReadPart

abbrev pub types : List ReadPart → List Ty
types [] = []
types (type_of t ∷ ps) = t ∷ types ps
types (_ ∷ ps) = types ps

abbrev pub first_type : List ReadPart → Ty
first_type (type_of t ∷ ps) = t
first_type _ = ty.Error

abbrev pub first_const : List ReadPart → Const
first_const [] = const.Unknown
first_const (const_of c ∷ ps) = c
first_const (_ ∷ ps) = first_const ps

abbrev pub arg_of : ReadPart → GenericArg
arg_of (type_of t) = arg.Ty t
arg_of (const_of c) = arg.Const c
arg_of _ = arg.Const const.Unknown

-- the arguments before the first mark
abbrev pub leading_args : List ReadPart → List GenericArg
leading_args (type_of t ∷ ps) = arg.Ty t ∷ leading_args ps
leading_args (const_of c ∷ ps) = arg.Const c ∷ leading_args ps
leading_args _ = []

abbrev pub all_but_last : List Ty → List Ty
all_but_last [] = []
all_but_last (t ∷ []) = []
all_but_last (t ∷ u ∷ us) = t ∷ all_but_last (u ∷ us)

abbrev pub last : List Ty → Ty
last [] = ty.Error
last (t ∷ []) = t
last (t ∷ u ∷ us) = last (u ∷ us)

abbrev pub principal_of : List ReadPart → Option TraitRef
principal_of (mark (head.Principal id) ∷ ps) = Some (record { id = id; args = leading_args ps })
principal_of _ = None

-- a part with the parts behind it, before the bounds among these
abbrev pub bound_before : ReadPart → List ReadPart → List AliasBound → List AliasBound
bound_before (mark (head.Bound a)) (type_of t ∷ ps) bs = record { alias = a; ty = t } ∷ bs
bound_before _ ps bs = bs

abbrev pub bounds_of : List ReadPart → List AliasBound
bounds_of [] = []
bounds_of (p ∷ ps) = bound_before p ps (bounds_of ps)

abbrev pub auto_before : ReadPart → List TraitId → List TraitId
auto_before (mark (head.AutoTrait id)) ids = id ∷ ids
auto_before _ ids = ids

abbrev pub autos_of : List ReadPart → List TraitId
autos_of [] = []
autos_of (p ∷ ps) = auto_before p (autos_of ps)

-- a type by its head and the parts behind it
abbrev pub read_type : ReadPart → List ReadPart → Ty
read_type (mark head.Bool) ps = ty.Bool
read_type (mark head.Char) ps = ty.Char
read_type (mark (head.Int i)) ps = ty.Int i
read_type (mark (head.Uint i)) ps = ty.Uint i
read_type (mark (head.Float i)) ps = ty.Float i
read_type (mark head.Str) ps = ty.Str
read_type (mark head.Never) ps = ty.Never
read_type (mark head.Tuple) ps = ty.Tuple (types ps)
read_type (mark head.Array) ps = ty.Array (first_type ps) (first_const ps)
read_type (mark head.Slice) ps = ty.Slice (first_type ps)
read_type (mark (head.Ref m)) ps = ty.Ref m no_label (first_type ps)
read_type (mark (head.RawPtr m)) ps = ty.RawPtr m (first_type ps)
read_type (mark (head.Adt id)) ps = ty.Adt id (leading_args ps)
read_type (mark (head.FnDef id)) ps = ty.FnDef id (leading_args ps)
read_type (mark (head.FnPtr u)) ps = ty.FnPtr u (all_but_last (types ps)) (last (types ps))
read_type (mark (head.Closure id)) ps = ty.Closure id (all_but_last (types ps)) (last (types ps))
read_type (mark head.Dynamic) ps = ty.Dynamic (principal_of ps) (bounds_of ps) (autos_of ps)
read_type (mark (head.Param n)) ps = ty.Param n
read_type (mark (head.Projection id)) ps = ty.Projection id (leading_args ps)
read_type (mark (head.AssociatedType id)) ps = ty.AssociatedType id (leading_args ps)
read_type (mark (head.Opaque id)) ps = ty.Opaque id (leading_args ps)
read_type (mark head.Error) ps = ty.Error
read_type (mark head.Hole) ps = ty.Hole
read_type _ ps = ty.Error

abbrev pub read_const : ReadPart → Const
read_const (mark (head.Value n)) = const.Value n
read_const (mark (head.ConstParam n)) = const.Param n
read_const (mark head.ConstHole) = const.Hole
read_const _ = const.Unknown

abbrev pub read_part : ReadPart → Ty → Const → ReadPart
read_part (mark head.TypePart) t c = type_of t
read_part (mark head.ConstPart) t c = const_of c
read_part _ t c = unread

abbrev pub type_of_hole : Hole → Ty
type_of_hole (hole_of.Ty n) = ty.Var n
type_of_hole (hole_of.Int n) = ty.IntVar n
type_of_hole (hole_of.Const n) = ty.Error

abbrev pub const_of_hole : Hole → Const
const_of_hole (hole_of.Const n) = const.Var n
const_of_hole _ = const.Unknown

-- a term, read as a type, as a const, as one part and as a chain of parts
pub record Reading : Type 0 where
  pub type : Ty
  pub const : Const
  pub part : ReadPart
  pub parts : List ReadPart

abbrev pub read : Term → Reading
read (hole k) = record { type = type_of_hole k; const = const_of_hole k; part = unread; parts = [] }
read (leaf h) = record { type = ty.Error; const = const.Unknown; part = mark h; parts = [] }
read (pair a b) = record {
  type = read_type (read a).part (read b).parts;
  const = read_const (read a).part;
  part = read_part (read a).part (read b).type (read b).const;
  parts = (read a).part ∷ (read b).parts;
}

abbrev pub type_of_term : Term → Ty
type_of_term u = (read u).type

abbrev pub const_of_term : Term → Const
const_of_term u = (read u).const

abbrev parts_of : List Term → List ReadPart
parts_of us = (read (chain us)).parts

-- ---- a type's term is read as the type without labels

pub const_read : (c : Const) → const_of_term (const_term c) ≡ c
const_read (const.Value n) = refl
const_read (const.Param n) = refl
const_read const.Unknown = refl
const_read (const.Var n) = refl
const_read const.Hole = refl

abbrev reading : Maps GenericArg Ty AliasBound TraitRef
reading = record {
  arg = λ x. arg_of (read (arg_term x)).part;
  ty = λ t. (read (term t)).type;
  bound = λ b. record { alias = b.alias; ty = (read (term b.ty)).type };
  trait = λ r. record { id = r.id; args = map (λ x. arg_of (read (arg_term x)).part) r.args };
}

-- a type or a const
abbrev IsArg : ReadPart → Type 0
IsArg (type_of t) = Unit {0}
IsArg (const_of c) = Unit {0}
IsArg _ = ⊥

arg_step_read : (y : GenericArg-F Term Term (List Term) (List Term)) → IsArg (read (arg_step y)).part
arg_step_read (GenericArg-F.Ty t) = tt
arg_step_read (GenericArg-F.Const c) = tt

arg_is : (x : GenericArg) → IsArg (read (arg_term x)).part
arg_is x = subst (λ u. IsArg (read u).part)
    (sym (fold_out-GenericArg Term Term (List Term) (List Term) arg_step ty_step bound_step trait_step x))
    (arg_step_read (in_arg terms (out-GenericArg x)))

arg_leads : (p : ReadPart) (ps : List ReadPart) → IsArg p → leading_args (p ∷ ps) ≡ arg_of p ∷ leading_args ps
arg_leads (type_of t) ps h = refl
arg_leads (const_of c) ps h = refl
arg_leads (mark m) ps h = absurd h
arg_leads unread ps h = absurd h

no_bound_before : (p : ReadPart) (ps : List ReadPart) (bs : List AliasBound) → IsArg p → bound_before p ps bs ≡ bs
no_bound_before (type_of t) ps bs h = refl
no_bound_before (const_of c) ps bs h = refl
no_bound_before (mark m) ps bs h = absurd h
no_bound_before unread ps bs h = refl

no_auto_before : (p : ReadPart) (ids : List TraitId) → IsArg p → auto_before p ids ≡ ids
no_auto_before (type_of t) ids h = refl
no_auto_before (const_of c) ids h = refl
no_auto_before (mark m) ids h = absurd h
no_auto_before unread ids h = refl

types_read : (ts : List Ty) → types (parts_of (map type_part (map term ts))) ≡ map reading.ty ts
types_read [] = refl
types_read (t ∷ ts) = ap (◌∷◌ (reading.ty t)) (types_read ts)

types_read_before : (ts : List Ty) (t : Ty)
    → types (parts_of (map type_part (map term ts) ++ type_part (term t) ∷ [])) ≡ map reading.ty ts ++ reading.ty t ∷ []
types_read_before [] t = refl
types_read_before (u ∷ us) t = ap (◌∷◌ (reading.ty u)) (types_read_before us t)

all_but_last_is : (ts : List Ty) (t : Ty) → all_but_last (ts ++ t ∷ []) ≡ ts
all_but_last_is [] t = refl
all_but_last_is (u ∷ []) t = refl
all_but_last_is (u ∷ v ∷ vs) t = ap (◌∷◌ u) (all_but_last_is (v ∷ vs) t)

last_is : (ts : List Ty) (t : Ty) → last (ts ++ t ∷ []) ≡ t
last_is [] t = refl
last_is (u ∷ []) t = refl
last_is (u ∷ v ∷ vs) t = last_is (v ∷ vs) t

inputs_read : (ts : List Ty) (t : Ty)
    → all_but_last (types (parts_of (map type_part (map term ts) ++ type_part (term t) ∷ []))) ≡ map reading.ty ts
inputs_read ts t = ap all_but_last (types_read_before ts t) ∙ all_but_last_is (map reading.ty ts) (reading.ty t)

output_read : (ts : List Ty) (t : Ty) → last (types (parts_of (map type_part (map term ts) ++ type_part (term t) ∷ []))) ≡ reading.ty t
output_read ts t = ap last (types_read_before ts t) ∙ last_is (map reading.ty ts) (reading.ty t)

args_read : (xs : List GenericArg) → leading_args (parts_of (map arg_term xs)) ≡ map reading.arg xs
args_read [] = refl
args_read (x ∷ xs) = arg_leads (read (arg_term x)).part (parts_of (map arg_term xs)) (arg_is x) ∙ ap (◌∷◌ (reading.arg x)) (args_read xs)

-- the parts of a bound and of a trait, written out
abbrev plain_bound : AliasBound → List Term
plain_bound b = leaf (head.Bound b.alias) ∷ type_part (term b.ty) ∷ []

abbrev plain_bounds : List AliasBound → List Term
plain_bounds bs = flat_map (λ us. us) (map plain_bound bs)

plain : (bs : List AliasBound) → flat_map (λ us. us) (map bound_parts bs) ≡ plain_bounds bs
plain bs = ap (λ h. flat_map (λ us. us) (map h bs)) (λ i b. bound_parts_is b i)

autos_lead_none : (ids : List TraitId) → leading_args (parts_of (auto_parts ids)) ≡ []
autos_lead_none [] = refl
autos_lead_none (id ∷ ids) = refl

bounds_lead_none : (bs : List AliasBound) (ids : List TraitId) → leading_args (parts_of (plain_bounds bs ++ auto_parts ids)) ≡ []
bounds_lead_none [] ids = autos_lead_none ids
bounds_lead_none (b ∷ bs) ids = refl

no_bounds : (ids : List TraitId) → bounds_of (parts_of (auto_parts ids)) ≡ []
no_bounds [] = refl
no_bounds (id ∷ ids) = no_bounds ids

bounds_read : (bs : List AliasBound) (ids : List TraitId) → bounds_of (parts_of (plain_bounds bs ++ auto_parts ids)) ≡ map reading.bound bs
bounds_read [] ids = no_bounds ids
bounds_read (b ∷ bs) ids = ap (◌∷◌ (reading.bound b)) (bounds_read bs ids)

autos_read_alone : (ids : List TraitId) → autos_of (parts_of (auto_parts ids)) ≡ ids
autos_read_alone [] = refl
autos_read_alone (id ∷ ids) = ap (◌∷◌ id) (autos_read_alone ids)

autos_read : (bs : List AliasBound) (ids : List TraitId) → autos_of (parts_of (plain_bounds bs ++ auto_parts ids)) ≡ ids
autos_read [] ids = autos_read_alone ids
autos_read (b ∷ bs) ids = autos_read bs ids

args_read_before : (xs : List GenericArg) (us vs : List Term) → leading_args (parts_of (us ++ vs)) ≡ []
    → leading_args (parts_of (map arg_term xs ++ us ++ vs)) ≡ map reading.arg xs
args_read_before [] us vs e = e
args_read_before (x ∷ xs) us vs e =
    arg_leads (read (arg_term x)).part (parts_of (map arg_term xs ++ us ++ vs)) (arg_is x) ∙ ap (◌∷◌ (reading.arg x))
    (args_read_before xs us vs e)

bounds_behind_args : (xs : List GenericArg) (us vs : List Term)
    → bounds_of (parts_of (map arg_term xs ++ us ++ vs)) ≡ bounds_of (parts_of (us ++ vs))
bounds_behind_args [] us vs = refl
bounds_behind_args (x ∷ xs) us vs =
    no_bound_before (read (arg_term x)).part (parts_of (map arg_term xs ++ us ++ vs)) (bounds_of (parts_of (map arg_term xs ++ us ++ vs)))
    (arg_is x) ∙ bounds_behind_args xs us vs

autos_behind_args : (xs : List GenericArg) (us vs : List Term)
    → autos_of (parts_of (map arg_term xs ++ us ++ vs)) ≡ autos_of (parts_of (us ++ vs))
autos_behind_args [] us vs = refl
autos_behind_args (x ∷ xs) us vs =
    no_auto_before (read (arg_term x)).part (autos_of (parts_of (map arg_term xs ++ us ++ vs))) (arg_is x) ∙ autos_behind_args xs us vs

abbrev dynamic_term : List Term → List Term → List TraitId → Term
dynamic_term us vs ids = node head.Dynamic (us ++ vs ++ auto_parts ids)

dynamic_read_none : (bs : List AliasBound) (ids : List TraitId)
    → type_of_term (dynamic_term (leaf head.NoPrincipal ∷ []) (flat_map (λ us. us) (map bound_parts bs)) ids)
    ≡ ty.Dynamic None (map reading.bound bs) ids
dynamic_read_none bs ids = ap (λ vs. type_of_term (dynamic_term (leaf head.NoPrincipal ∷ []) vs ids)) (plain bs) ∙
    (λ i. ty.Dynamic None (bounds_read bs ids i) (autos_read bs ids i))

dynamic_read_some : (r : TraitRef) (bs : List AliasBound) (ids : List TraitId)
    → type_of_term (dynamic_term (trait_parts r) (flat_map (λ us. us) (map bound_parts bs)) ids)
    ≡ ty.Dynamic (Some (reading.trait r)) (map reading.bound bs) ids
dynamic_read_some r bs ids =
    (λ i. type_of_term (dynamic_term (trait_parts_is r i) (plain bs i) ids))
    ∙ (λ i. ty.Dynamic (Some (record
    { id = r.id; args = args_read_before r.args (plain_bounds bs) (auto_parts ids) (bounds_lead_none bs ids) i }))
    ((bounds_behind_args r.args (plain_bounds bs) (auto_parts ids) ∙ bounds_read bs ids) i)
    ((autos_behind_args r.args (plain_bounds bs) (auto_parts ids) ∙ autos_read bs ids) i))

arg_read_at : (x : GenericArg-F GenericArg Ty AliasBound TraitRef)
    → arg_of (read (arg_step (in_arg terms x))).part ≡ roll-GenericArg (in_arg reading x)
arg_read_at (GenericArg-F.Ty t) = sym (arg.rolls-Ty (reading.ty t))
arg_read_at (GenericArg-F.Const c) = ap arg.Const (const_read c) ∙ sym (arg.rolls-Const c)

ty_read_at : (x : Ty-F GenericArg Ty AliasBound TraitRef) → type_of_term (ty_step (in_ty terms x)) ≡ erased_step (in_ty reading x)
ty_read_at Ty-F.Bool = sym ty.rolls-Bool
ty_read_at Ty-F.Char = sym ty.rolls-Char
ty_read_at (Ty-F.Int i) = sym (ty.rolls-Int i)
ty_read_at (Ty-F.Uint i) = sym (ty.rolls-Uint i)
ty_read_at (Ty-F.Float i) = sym (ty.rolls-Float i)
ty_read_at Ty-F.Str = sym ty.rolls-Str
ty_read_at Ty-F.Never = sym ty.rolls-Never
ty_read_at (Ty-F.Tuple ts) = ap ty.Tuple (types_read ts) ∙ sym (ty.rolls-Tuple (map reading.ty ts))
ty_read_at (Ty-F.Array t c) = ap (ty.Array (reading.ty t)) (const_read c) ∙ sym (ty.rolls-Array (reading.ty t) c)
ty_read_at (Ty-F.Slice t) = sym (ty.rolls-Slice (reading.ty t))
ty_read_at (Ty-F.Ref m r t) = refl
ty_read_at (Ty-F.RawPtr m t) = sym (ty.rolls-RawPtr m (reading.ty t))
ty_read_at (Ty-F.Adt id xs) = ap (ty.Adt id) (args_read xs) ∙ sym (ty.rolls-Adt id (map reading.arg xs))
ty_read_at (Ty-F.FnDef id xs) = ap (ty.FnDef id) (args_read xs) ∙ sym (ty.rolls-FnDef id (map reading.arg xs))
ty_read_at (Ty-F.FnPtr u ts t) =
    (λ i. ty.FnPtr u (inputs_read ts t i) (output_read ts t i)) ∙ sym (ty.rolls-FnPtr u (map reading.ty ts) (reading.ty t))
ty_read_at (Ty-F.Closure id ts t) =
    (λ i. ty.Closure id (inputs_read ts t i) (output_read ts t i)) ∙ sym (ty.rolls-Closure id (map reading.ty ts) (reading.ty t))
ty_read_at (Ty-F.Dynamic None bs ids) = dynamic_read_none bs ids ∙ sym (ty.rolls-Dynamic None (map reading.bound bs) ids)
ty_read_at (Ty-F.Dynamic (Some r) bs ids) =
    dynamic_read_some r bs ids ∙ sym (ty.rolls-Dynamic (Some (reading.trait r)) (map reading.bound bs) ids)
ty_read_at (Ty-F.Param n) = sym (ty.rolls-Param n)
ty_read_at (Ty-F.Projection id xs) = ap (ty.Projection id) (args_read xs) ∙ sym (ty.rolls-Projection id (map reading.arg xs))
ty_read_at (Ty-F.AssociatedType id xs) = ap (ty.AssociatedType id) (args_read xs) ∙ sym (ty.rolls-AssociatedType id (map reading.arg xs))
ty_read_at (Ty-F.Opaque id xs) = ap (ty.Opaque id) (args_read xs) ∙ sym (ty.rolls-Opaque id (map reading.arg xs))
ty_read_at Ty-F.Error = sym ty.rolls-Error
ty_read_at (Ty-F.Var n) = sym (ty.rolls-Var n)
ty_read_at (Ty-F.IntVar n) = sym (ty.rolls-IntVar n)
ty_read_at Ty-F.Hole = sym ty.rolls-Hole

reading_follows : GoBySteps erased_steps reading
reading_follows = record {
  arg = λ x. ap (λ u. arg_of (read u).part) (arg_term_at x) ∙ arg_read_at x;
  ty = λ x. ap type_of_term (term_at x) ∙ ty_read_at x;
  bound = λ x. refl;
  trait = λ x. refl;
}

reading_same : SameMaps reading erasing
reading_same = unique erased_steps reading erasing reading_follows (folds_follow erased_steps)

-- `type_of_term` gives back the type without labels
pub term_read : (t : Ty) → type_of_term (term t) ≡ erased t
term_read = reading_same.ty

-- ---- labels do not show in terms

abbrev erased_first : Maps Term Term (List Term) (List Term)
erased_first = maps_after terms erasing

erased_ty_layer : (x : Ty-F GenericArg Ty AliasBound TraitRef) → term (erased_step (in_ty erasing x)) ≡ ty_step (in_ty erased_first x)
erased_ty_layer (Ty-F.Ref m r t) = term_ref m no_label (erased t)
erased_ty_layer x = term_at (in_ty erasing x) ∙ ap ty_step (in_ty_twice terms erasing x)

erased_first_follows : GoBySteps term_steps erased_first
erased_first_follows = record {
  arg = λ x. ap arg_term ((folds_follow erased_steps).arg x) ∙ arg_term_at (in_arg erasing x) ∙ ap arg_step (in_arg_twice terms erasing x);
  ty = λ x. ap term ((folds_follow erased_steps).ty x) ∙ erased_ty_layer x;
  bound = λ x. ap bound_parts ((folds_follow erased_steps).bound x) ∙ (folds_follow term_steps).bound (in_bound erasing x) ∙ ap bound_step
      (in_bound_twice terms erasing x);
  trait = λ x. ap trait_parts ((folds_follow erased_steps).trait x) ∙ (folds_follow term_steps).trait (in_trait erasing x) ∙ ap trait_step
      (in_trait_twice terms erasing x);
}

erased_first_same : SameMaps erased_first terms
erased_first_same = unique term_steps erased_first terms erased_first_follows (folds_follow term_steps)

pub term_erased : (t : Ty) → term (erased t) ≡ term t
term_erased = erased_first_same.ty

-- ---- both ways

pub term_tells : (a b : Ty) → term a ≡ term b → erased a ≡ erased b
term_tells a b e = sym (term_read a) ∙ ap type_of_term e ∙ term_read b

pub erased_tells : (a b : Ty) → erased a ≡ erased b → term a ≡ term b
erased_tells a b e = sym (term_erased a) ∙ ap term e ∙ term_erased b

pub const_term_tells : (a b : Const) → const_term a ≡ const_term b → a ≡ b
const_term_tells a b e = sym (const_read a) ∙ ap const_of_term e ∙ const_read b
