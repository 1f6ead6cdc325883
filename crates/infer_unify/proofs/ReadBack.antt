-- What stands for holes, read back as types: what terms make the same, types do.
use Rattle.std.proofs.Common.{◌≡◌, ◌++◌, refl, sym, ap, subst, ◌∙◌, List, [], ◌∷◌, map, Some, None}
use Rattle.std.specs.List.{flat_map}
use Rattle.infer_unify.specs.Words.{TraitId, Head, Hole, Const, Ty, Ty-F, GenericArg, GenericArg-F, roll-GenericArg, out-GenericArg, fold_out-GenericArg, TraitRef, roll-TraitRef, AliasBound, roll-AliasBound, no_label, erased_step, erased, Same, map_twice, Steps, Maps, folds_follow, GoBySteps, unique, maps_after, in_arg, in_ty, in_bound, in_trait, in_arg_twice, in_ty_twice, erased_steps, erasing, ReadPart, mark, const_of, unread, types, arg_of, leading_args, all_but_last, bound_before, bounds_of, auto_before, autos_of, read, type_of_term, const_of_term, term_erased, term_tells, replacing, at_ty, at_arg, trait_replaced_is, bound_replaced_is, ty_layer, arg_layer, Assignment, with_holes, folded, const_folded, arg_folded, bound_replaced, trait_folded, Term, hole, leaf, pair, apply, chain, node, const_term, type_part, arg_step, auto_parts, ty_step, bound_step, trait_step, term, arg_term, trait_parts, bound_parts, terms_of, IsInt, terms, term_at, arg_term_at, trait_parts_is, bound_parts_is, term_folded, term_int, term_uint, term_int_var, Respects}
use Rattle.hir_types.specs.declared.head.Head.TheVariants as head
use Rattle.hir_types.specs.declared.head.Hole.TheVariants as hole_of
use Rattle.hir_types.specs.declared.ty.Const.TheVariants as const
use Rattle.hir_types.specs.declared.ty.Ty.TheVariants as ty
use Rattle.hir_types.specs.declared.ty.GenericArg.TheVariants as arg
use Rattle.hir_types.specs.Faithful.{type_of, last}

-- ---- parts that are read

-- a type or a const
abbrev IsArg : ReadPart → Type 0
IsArg (type_of t) = Unit {0}
IsArg (const_of c) = Unit {0}
IsArg _ = ⊥

arg_leads : (p : ReadPart) (ps : List ReadPart) → IsArg p → leading_args (p ∷ ps) ≡ arg_of p ∷ leading_args ps
arg_leads (type_of t) ps h = refl
arg_leads (const_of c) ps h = refl
arg_leads (mark m) ps h = absurd h
arg_leads unread ps h = absurd h

no_bound_before : (p : ReadPart) (ps : List ReadPart) (bs : List AliasBound) → IsArg p → bound_before p ps bs ≡ bs
no_bound_before (type_of t) ps bs h = refl
no_bound_before (const_of c) ps bs h = refl
no_bound_before (mark m) ps bs h = absurd h
no_bound_before unread ps bs h = refl

no_auto_before : (p : ReadPart) (ids : List TraitId) → IsArg p → auto_before p ids ≡ ids
no_auto_before (type_of t) ids h = refl
no_auto_before (const_of c) ids h = refl
no_auto_before (mark m) ids h = absurd h
no_auto_before unread ids h = refl

all_but_last_is : (ts : List Ty) (t : Ty) → all_but_last (ts ++ t ∷ []) ≡ ts
all_but_last_is [] t = refl
all_but_last_is (u ∷ []) t = refl
all_but_last_is (u ∷ v ∷ vs) t = ap (◌∷◌ u) (all_but_last_is (v ∷ vs) t)

last_is : (ts : List Ty) (t : Ty) → last (ts ++ t ∷ []) ≡ t
last_is [] t = refl
last_is (u ∷ []) t = refl
last_is (u ∷ v ∷ vs) t = last_is (v ∷ vs) t

-- the parts of a bound and of a trait, written out
abbrev plain_bound : AliasBound → List Term
plain_bound b = leaf (head.Bound b.alias) ∷ type_part (term b.ty) ∷ []

abbrev plain_bounds : List AliasBound → List Term
plain_bounds bs = flat_map (λ us. us) (map plain_bound bs)

plain : (bs : List AliasBound) → flat_map (λ us. us) (map bound_parts bs) ≡ plain_bounds bs
plain bs = ap (λ h. flat_map (λ us. us) (map h bs)) (λ i b. bound_parts_is b i)

-- ---- what stands for the holes of a type, read back

module _ (s : Hole → Term) where
  abbrev pub back : Assignment
  back = record { var = λ n. type_of_term (s (hole_of.Ty n)); int_var = λ n. type_of_term (s (hole_of.Int n)); const_var = λ n. const_of_term (s (hole_of.Const n)) }

  abbrev parts_of : List Term → List ReadPart
  parts_of us = (read (apply s (chain us))).parts

  abbrev reading : Maps GenericArg Ty AliasBound TraitRef
  reading = record {
    arg = λ x. arg_of (read (apply s (arg_term x))).part;
    ty = λ t. (read (apply s (term t))).type;
    bound = λ b. record { alias = b.alias; ty = (read (apply s (term b.ty))).type };
    trait = λ r. record { id = r.id; args = map (λ x. arg_of (read (apply s (arg_term x))).part) r.args };
  }

  const_read : (c : Const) → const_of_term (apply s (const_term c)) ≡ const_folded back c
  const_read (const.Value n) = refl
  const_read (const.Param n) = refl
  const_read const.Unknown = refl
  const_read (const.Var n) = refl
  const_read const.Hole = refl

  arg_step_read : (y : GenericArg-F Term Term (List Term) (List Term)) → IsArg (read (apply s (arg_step y))).part
  arg_step_read (GenericArg-F.Ty t) = tt
  arg_step_read (GenericArg-F.Const c) = tt

  arg_is : (x : GenericArg) → IsArg (read (apply s (arg_term x))).part
  arg_is x = subst (λ u. IsArg (read (apply s u)).part) (sym (fold_out-GenericArg Term Term (List Term) (List Term) arg_step ty_step bound_step trait_step x)) (arg_step_read (in_arg terms (out-GenericArg x)))

  types_read : (ts : List Ty) → types (parts_of (map type_part (map term ts))) ≡ map reading.ty ts
  types_read [] = refl
  types_read (t ∷ ts) = ap (◌∷◌ (reading.ty t)) (types_read ts)

  types_read_before : (ts : List Ty) (t : Ty) → types (parts_of (map type_part (map term ts) ++ type_part (term t) ∷ [])) ≡ map reading.ty ts ++ reading.ty t ∷ []
  types_read_before [] t = refl
  types_read_before (u ∷ us) t = ap (◌∷◌ (reading.ty u)) (types_read_before us t)

  inputs_read : (ts : List Ty) (t : Ty) → all_but_last (types (parts_of (map type_part (map term ts) ++ type_part (term t) ∷ []))) ≡ map reading.ty ts
  inputs_read ts t = ap all_but_last (types_read_before ts t) ∙ all_but_last_is (map reading.ty ts) (reading.ty t)

  output_read : (ts : List Ty) (t : Ty) → last (types (parts_of (map type_part (map term ts) ++ type_part (term t) ∷ []))) ≡ reading.ty t
  output_read ts t = ap last (types_read_before ts t) ∙ last_is (map reading.ty ts) (reading.ty t)

  args_read : (xs : List GenericArg) → leading_args (parts_of (map arg_term xs)) ≡ map reading.arg xs
  args_read [] = refl
  args_read (x ∷ xs) = arg_leads (read (apply s (arg_term x))).part (parts_of (map arg_term xs)) (arg_is x) ∙ ap (◌∷◌ (reading.arg x)) (args_read xs)

  autos_lead_none : (ids : List TraitId) → leading_args (parts_of (auto_parts ids)) ≡ []
  autos_lead_none [] = refl
  autos_lead_none (id ∷ ids) = refl

  bounds_lead_none : (bs : List AliasBound) (ids : List TraitId) → leading_args (parts_of (plain_bounds bs ++ auto_parts ids)) ≡ []
  bounds_lead_none [] ids = autos_lead_none ids
  bounds_lead_none (b ∷ bs) ids = refl

  no_bounds : (ids : List TraitId) → bounds_of (parts_of (auto_parts ids)) ≡ []
  no_bounds [] = refl
  no_bounds (id ∷ ids) = no_bounds ids

  bounds_read : (bs : List AliasBound) (ids : List TraitId) → bounds_of (parts_of (plain_bounds bs ++ auto_parts ids)) ≡ map reading.bound bs
  bounds_read [] ids = no_bounds ids
  bounds_read (b ∷ bs) ids = ap (◌∷◌ (reading.bound b)) (bounds_read bs ids)

  autos_read_alone : (ids : List TraitId) → autos_of (parts_of (auto_parts ids)) ≡ ids
  autos_read_alone [] = refl
  autos_read_alone (id ∷ ids) = ap (◌∷◌ id) (autos_read_alone ids)

  autos_read : (bs : List AliasBound) (ids : List TraitId) → autos_of (parts_of (plain_bounds bs ++ auto_parts ids)) ≡ ids
  autos_read [] ids = autos_read_alone ids
  autos_read (b ∷ bs) ids = autos_read bs ids

  args_read_before : (xs : List GenericArg) (us vs : List Term) → leading_args (parts_of (us ++ vs)) ≡ [] → leading_args (parts_of (map arg_term xs ++ us ++ vs)) ≡ map reading.arg xs
  args_read_before [] us vs e = e
  args_read_before (x ∷ xs) us vs e = arg_leads (read (apply s (arg_term x))).part (parts_of (map arg_term xs ++ us ++ vs)) (arg_is x) ∙ ap (◌∷◌ (reading.arg x)) (args_read_before xs us vs e)

  bounds_behind_args : (xs : List GenericArg) (us vs : List Term) → bounds_of (parts_of (map arg_term xs ++ us ++ vs)) ≡ bounds_of (parts_of (us ++ vs))
  bounds_behind_args [] us vs = refl
  bounds_behind_args (x ∷ xs) us vs = no_bound_before (read (apply s (arg_term x))).part (parts_of (map arg_term xs ++ us ++ vs)) (bounds_of (parts_of (map arg_term xs ++ us ++ vs))) (arg_is x) ∙ bounds_behind_args xs us vs

  autos_behind_args : (xs : List GenericArg) (us vs : List Term) → autos_of (parts_of (map arg_term xs ++ us ++ vs)) ≡ autos_of (parts_of (us ++ vs))
  autos_behind_args [] us vs = refl
  autos_behind_args (x ∷ xs) us vs = no_auto_before (read (apply s (arg_term x))).part (autos_of (parts_of (map arg_term xs ++ us ++ vs))) (arg_is x) ∙ autos_behind_args xs us vs

  abbrev dynamic_term : List Term → List Term → List TraitId → Term
  dynamic_term us vs ids = node head.Dynamic (us ++ vs ++ auto_parts ids)

  dynamic_read_none : (bs : List AliasBound) (ids : List TraitId) → type_of_term (apply s (dynamic_term (leaf head.NoPrincipal ∷ []) (flat_map (λ us. us) (map bound_parts bs)) ids)) ≡ ty.Dynamic None (map reading.bound bs) ids
  dynamic_read_none bs ids = ap (λ vs. type_of_term (apply s (dynamic_term (leaf head.NoPrincipal ∷ []) vs ids))) (plain bs) ∙ (λ i. ty.Dynamic None (bounds_read bs ids i) (autos_read bs ids i))

  dynamic_read_some : (r : TraitRef) (bs : List AliasBound) (ids : List TraitId) → type_of_term (apply s (dynamic_term (trait_parts r) (flat_map (λ us. us) (map bound_parts bs)) ids)) ≡ ty.Dynamic (Some (reading.trait r)) (map reading.bound bs) ids
  dynamic_read_some r bs ids =
      (λ i. type_of_term (apply s (dynamic_term (trait_parts_is r i) (plain bs i) ids)))
      ∙ (λ i. ty.Dynamic (Some (record { id = r.id; args = args_read_before r.args (plain_bounds bs) (auto_parts ids) (bounds_lead_none bs ids) i }))
      ((bounds_behind_args r.args (plain_bounds bs) (auto_parts ids) ∙ bounds_read bs ids) i)
      ((autos_behind_args r.args (plain_bounds bs) (auto_parts ids) ∙ autos_read bs ids) i))

  -- a type by its parts, without the label of its lifetime
  abbrev label_layer : Ty-F GenericArg Ty AliasBound TraitRef → Ty
  label_layer (Ty-F.Ref m r t) = ty.Ref m no_label t
  label_layer x = ty_layer (with_holes back) x

  abbrev back_steps : Steps GenericArg Ty AliasBound TraitRef
  back_steps = record { arg = arg_layer (with_holes back); ty = label_layer; bound = roll-AliasBound; trait = roll-TraitRef }

  arg_read_at : (x : GenericArg-F GenericArg Ty AliasBound TraitRef) → arg_of (read (apply s (arg_step (in_arg terms x)))).part ≡ arg_layer (with_holes back) (in_arg reading x)
  arg_read_at (GenericArg-F.Ty t) = sym (arg.rolls-Ty (reading.ty t))
  arg_read_at (GenericArg-F.Const c) = ap arg.Const (const_read c)

  ty_read_at : (x : Ty-F GenericArg Ty AliasBound TraitRef) → type_of_term (apply s (ty_step (in_ty terms x))) ≡ label_layer (in_ty reading x)
  ty_read_at Ty-F.Bool = sym ty.rolls-Bool
  ty_read_at Ty-F.Char = sym ty.rolls-Char
  ty_read_at (Ty-F.Int i) = sym (ty.rolls-Int i)
  ty_read_at (Ty-F.Uint i) = sym (ty.rolls-Uint i)
  ty_read_at (Ty-F.Float i) = sym (ty.rolls-Float i)
  ty_read_at Ty-F.Str = sym ty.rolls-Str
  ty_read_at Ty-F.Never = sym ty.rolls-Never
  ty_read_at (Ty-F.Tuple ts) = ap ty.Tuple (types_read ts) ∙ sym (ty.rolls-Tuple (map reading.ty ts))
  ty_read_at (Ty-F.Array t c) = ap (ty.Array (reading.ty t)) (const_read c)
  ty_read_at (Ty-F.Slice t) = sym (ty.rolls-Slice (reading.ty t))
  ty_read_at (Ty-F.Ref m r t) = refl
  ty_read_at (Ty-F.RawPtr m t) = sym (ty.rolls-RawPtr m (reading.ty t))
  ty_read_at (Ty-F.Adt id xs) = ap (ty.Adt id) (args_read xs) ∙ sym (ty.rolls-Adt id (map reading.arg xs))
  ty_read_at (Ty-F.FnDef id xs) = ap (ty.FnDef id) (args_read xs) ∙ sym (ty.rolls-FnDef id (map reading.arg xs))
  ty_read_at (Ty-F.FnPtr u ts t) = (λ i. ty.FnPtr u (inputs_read ts t i) (output_read ts t i)) ∙ sym (ty.rolls-FnPtr u (map reading.ty ts) (reading.ty t))
  ty_read_at (Ty-F.Closure id ts t) = (λ i. ty.Closure id (inputs_read ts t i) (output_read ts t i)) ∙ sym (ty.rolls-Closure id (map reading.ty ts) (reading.ty t))
  ty_read_at (Ty-F.Dynamic None bs ids) = dynamic_read_none bs ids ∙ sym (ty.rolls-Dynamic None (map reading.bound bs) ids)
  ty_read_at (Ty-F.Dynamic (Some r) bs ids) = dynamic_read_some r bs ids ∙ sym (ty.rolls-Dynamic (Some (reading.trait r)) (map reading.bound bs) ids)
  ty_read_at (Ty-F.Param n) = refl
  ty_read_at (Ty-F.Projection id xs) = ap (ty.Projection id) (args_read xs) ∙ sym (ty.rolls-Projection id (map reading.arg xs))
  ty_read_at (Ty-F.AssociatedType id xs) = ap (ty.AssociatedType id) (args_read xs) ∙ sym (ty.rolls-AssociatedType id (map reading.arg xs))
  ty_read_at (Ty-F.Opaque id xs) = ap (ty.Opaque id) (args_read xs) ∙ sym (ty.rolls-Opaque id (map reading.arg xs))
  ty_read_at Ty-F.Error = sym ty.rolls-Error
  ty_read_at (Ty-F.Var n) = refl
  ty_read_at (Ty-F.IntVar n) = refl
  ty_read_at Ty-F.Hole = sym ty.rolls-Hole

  reading_follows : GoBySteps back_steps reading
  reading_follows = record {
    arg = λ x. ap (λ u. arg_of (read (apply s u)).part) (arg_term_at x) ∙ arg_read_at x;
    ty = λ x. ap (λ u. type_of_term (apply s u)) (term_at x) ∙ ty_read_at x;
    bound = λ x. refl;
    trait = λ x. refl;
  }

  -- first without labels
  abbrev erased_first : Maps GenericArg Ty AliasBound TraitRef
  erased_first = maps_after (replacing (with_holes back)) erasing

  arg_after : (x : GenericArg-F GenericArg Ty AliasBound TraitRef) → arg_folded back (roll-GenericArg (in_arg erasing x)) ≡ arg_layer (with_holes back) (in_arg erased_first x)
  arg_after x = at_arg (with_holes back) (in_arg erasing x) ∙ ap (arg_layer (with_holes back)) (in_arg_twice (replacing (with_holes back)) erasing x)

  ty_after : (x : Ty-F GenericArg Ty AliasBound TraitRef) → folded back (erased_step (in_ty erasing x)) ≡ label_layer (in_ty erased_first x)
  ty_after (Ty-F.Ref m r t) = ap (folded back) (sym (ty.rolls-Ref m no_label (erased t))) ∙ at_ty (with_holes back) (Ty-F.Ref m no_label (erased t)) ∙ ty.rolls-Ref m no_label (folded back (erased t))
  ty_after x = at_ty (with_holes back) (in_ty erasing x) ∙ ap (ty_layer (with_holes back)) (in_ty_twice (replacing (with_holes back)) erasing x)

  erased_follows : GoBySteps back_steps erased_first
  erased_follows = record {
    arg = λ x. ap (arg_folded back) ((folds_follow erased_steps).arg x) ∙ arg_after x;
    ty = λ x. ap (folded back) ((folds_follow erased_steps).ty x) ∙ ty_after x;
    bound = λ x. ap (bound_replaced (with_holes back)) ((folds_follow erased_steps).bound x) ∙ bound_replaced_is (with_holes back) (roll-AliasBound (in_bound erasing x));
    trait = λ x. ap (trait_folded back) ((folds_follow erased_steps).trait x) ∙ trait_replaced_is (with_holes back) (roll-TraitRef (in_trait erasing x)) ∙ (λ i. record { id = x.id; args = map_twice (arg_folded back) erasing.arg x.args i });
  }

  read_back : (t : Ty) → type_of_term (apply s (term t)) ≡ folded back (erased t)
  read_back = (unique back_steps reading erased_first reading_follows erased_follows).ty

  unlabelled : (t : Ty) → term (folded back t) ≡ term (folded back (erased t))
  unlabelled t = term_folded back t ∙ ap (apply (terms_of back)) (sym (term_erased t)) ∙ sym (term_folded back (erased t))

  -- what makes the terms of two types equal makes the types the same
  pub same_back : (a b : Ty) → apply s (term a) ≡ apply s (term b) → Same (folded back a) (folded back b)
  same_back a b e =
      let same : folded back (erased a) ≡ folded back (erased b) = sym (read_back a) ∙ ap type_of_term e ∙ read_back b in
      term_tells (folded back a) (folded back b) (unlabelled a ∙ ap term same ∙ sym (unlabelled b))

-- ---- integer types

int_leaf : (h : Head) (t : Term) → IsInt (pair (leaf h) t) → IsInt (term (type_of_term (pair (leaf h) t)))
int_leaf (head.Int i) t e = subst IsInt (sym (term_int i)) tt
int_leaf (head.Uint i) t e = subst IsInt (sym (term_uint i)) tt
int_leaf _ t e = absurd e

int_back : (u : Term) → IsInt u → IsInt (term (type_of_term u))
int_back (hole (hole_of.Int n)) e = subst IsInt (sym (term_int_var n)) tt
int_back (hole (hole_of.Ty n)) e = absurd e
int_back (hole (hole_of.Const n)) e = absurd e
int_back (leaf h) e = absurd e
int_back (pair (leaf h) t) e = int_leaf h t e
int_back (pair (hole k) t) e = absurd e
int_back (pair (pair a b) t) e = absurd e

pub back_respects : (s : Hole → Term) → Respects s → Respects (terms_of (back s))
back_respects s r (hole_of.Int n) i = int_back (s (hole_of.Int n)) (r (hole_of.Int n) tt)
back_respects s r (hole_of.Ty n) i = absurd i
back_respects s r (hole_of.Const n) i = absurd i
