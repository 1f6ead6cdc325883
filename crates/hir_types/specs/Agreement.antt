-- Two replacements that send the holes of a type to the same give the same type.
use Rattle.std.proofs.Common.{◌≡◌, Bool, true, false, ◌||◌, ◌++◌, refl, sym, ap, subst, ◌∙◌, true≢false, eqb-true, eq-eqb, List, [], ◌∷◌, map, Some, None}
use Rattle.std.specs.List.{flat_map}
use Rattle.hir_types.specs.declared.head.Head.TheVariants as head
use Rattle.hir_types.specs.declared.head.Hole.{Hole}
use Rattle.hir_types.specs.declared.head.Hole.TheVariants as hole_of
use Rattle.hir_types.specs.declared.ty.Const.{Const}
use Rattle.hir_types.specs.declared.ty.Const.TheVariants as const
use Rattle.hir_types.specs.declared.ty.Ty.{Ty, Ty-F, roll-Ty, map-Ty, ind-Ty}
use Rattle.hir_types.specs.declared.ty.Ty.TheVariants as ty
use Rattle.hir_types.specs.declared.ty.GenericArg.{GenericArg, GenericArg-F, roll-GenericArg, map-GenericArg}
use Rattle.hir_types.specs.declared.ty.GenericArg.TheVariants as arg
use Rattle.hir_types.specs.declared.ty.TraitRef.{TraitRef, TraitRef-F, roll-TraitRef, map-TraitRef}
use Rattle.hir_types.specs.declared.ty.AliasBound.{AliasBound, AliasBound-F, roll-AliasBound, map-AliasBound}
use Rattle.hir_types.specs.Folds.{in_arg, in_ty}
use Rattle.hir_types.specs.Replacements.{replacing, at_ty, at_arg, trait_replaced_is, bound_replaced_is, folded_itself, const_folded_itself}
use Rattle.hir_types.specs.Subst.{ty_layer, arg_layer, bound_replaced, Assignment, with_holes, each_itself, folded, const_folded, arg_folded, trait_folded}
use Rattle.hir_types.specs.Terms.{Term, leaf, pair, chain, const_term, type_part, const_part, arg_step, auto_parts, ty_step, term, arg_term, trait_parts, bound_parts, hole_eq, occurs}
use Rattle.hir_types.specs.TermLaws.{terms, term_at, arg_term_at, trait_parts_is, bound_parts_is}

-- ---- holes

pub hole_eq_itself : (k : Hole) → hole_eq k k ≡ true
hole_eq_itself (hole_of.Ty n) = eq-eqb n n refl
hole_eq_itself (hole_of.Int n) = eq-eqb n n refl
hole_eq_itself (hole_of.Const n) = eq-eqb n n refl

pub hole_eq_tells : (x k : Hole) → hole_eq x k ≡ true → x ≡ k
hole_eq_tells (hole_of.Ty m) (hole_of.Ty n) h = ap hole_of.Ty (eqb-true m n h)
hole_eq_tells (hole_of.Int m) (hole_of.Int n) h = ap hole_of.Int (eqb-true m n h)
hole_eq_tells (hole_of.Const m) (hole_of.Const n) h = ap hole_of.Const (eqb-true m n h)
hole_eq_tells _ _ h = absurd (true≢false (sym h))

-- P of each hole in the term
abbrev pub AtHoles : (Hole → Type 0) → Term → Type 0
AtHoles P u = (k : Hole) → occurs k u ≡ true → P k

or_left : (a b : Bool) → a ≡ true → (a || b) ≡ true
or_left true b h = refl
or_left false b h = absurd (true≢false (sym h))

or_right : (a b : Bool) → b ≡ true → (a || b) ≡ true
or_right true b h = refl
or_right false b h = h

or_case : {X : Type 0} (a b : Bool) → (a || b) ≡ true → (a ≡ true → X) → (b ≡ true → X) → X
or_case true b h f g = f refl
or_case false b h f g = g h

pub at_left : (P : Hole → Type 0) (a b : Term) → AtHoles P (pair a b) → AtHoles P a
at_left P a b h k o = h k (or_left (occurs k a) (occurs k b) o)

pub at_right : (P : Hole → Type 0) (a b : Term) → AtHoles P (pair a b) → AtHoles P b
at_right P a b h k o = h k (or_right (occurs k a) (occurs k b) o)

pub at_pair : (P : Hole → Type 0) (a b : Term) → AtHoles P a → AtHoles P b → AtHoles P (pair a b)
at_pair P a b f g k o = or_case (occurs k a) (occurs k b) o (f k) (g k)

pub at_first : (P : Hole → Type 0) (us vs : List Term) → AtHoles P (chain (us ++ vs)) → AtHoles P (chain us)
at_first P [] vs h = λ k o. absurd (true≢false (sym o))
at_first P (u ∷ us) vs h = at_pair P u (chain us) (at_left P u (chain (us ++ vs)) h) (at_first P us vs (at_right P u (chain (us ++ vs)) h))

pub at_rest : (P : Hole → Type 0) (us vs : List Term) → AtHoles P (chain (us ++ vs)) → AtHoles P (chain vs)
at_rest P [] vs h = h
at_rest P (u ∷ us) vs h = at_rest P us vs (at_right P u (chain (us ++ vs)) h)

-- ---- two assignments

-- both send the hole to the same
abbrev pub SameAt : Assignment → Assignment → Hole → Type 0
SameAt f g (hole_of.Ty n) = f.var n ≡ g.var n
SameAt f g (hole_of.Int n) = f.int_var n ≡ g.int_var n
SameAt f g (hole_of.Const n) = f.const_var n ≡ g.const_var n

-- both send each hole of the term to the same
abbrev pub SameOn : Assignment → Assignment → Term → Type 0
SameOn f g = AtHoles (SameAt f g)

pub const_folded_agree : (f g : Assignment) (c : Const) → SameOn f g (const_term c) → const_folded f c ≡ const_folded g c
const_folded_agree f g (const.Value n) h = refl
const_folded_agree f g (const.Param n) h = refl
const_folded_agree f g const.Unknown h = refl
const_folded_agree f g (const.Var n) h = h (hole_of.Const n) (hole_eq_itself (hole_of.Const n))
const_folded_agree f g const.Hole h = refl

module _ (f g : Assignment) where
  abbrev On : Term → Type 0
  On = SameOn f g

  on_left : (a b : Term) → On (pair a b) → On a
  on_left = at_left (SameAt f g)

  on_right : (a b : Term) → On (pair a b) → On b
  on_right = at_right (SameAt f g)

  on_first : (us vs : List Term) → On (chain (us ++ vs)) → On (chain us)
  on_first = at_first (SameAt f g)

  on_rest : (us vs : List Term) → On (chain (us ++ vs)) → On (chain vs)
  on_rest = at_rest (SameAt f g)

  abbrev ArgAgrees : GenericArg → Type 0
  ArgAgrees x = On (arg_term x) → arg_folded f x ≡ arg_folded g x

  abbrev TyAgrees : Ty → Type 0
  TyAgrees t = On (term t) → folded f t ≡ folded g t

  abbrev BoundAgrees : AliasBound → Type 0
  BoundAgrees b = On (chain (bound_parts b)) → bound_replaced (with_holes f) b ≡ bound_replaced (with_holes g) b

  abbrev TraitAgrees : TraitRef → Type 0
  TraitAgrees r = On (chain (trait_parts r)) → trait_folded f r ≡ trait_folded g r

  abbrev ArgTold : Type 0
  ArgTold = (x : GenericArg) × ArgAgrees x

  abbrev TyTold : Type 0
  TyTold = (t : Ty) × TyAgrees t

  abbrev BoundTold : Type 0
  BoundTold = (b : AliasBound) × BoundAgrees b

  abbrev TraitTold : Type 0
  TraitTold = (r : TraitRef) × TraitAgrees r

  abbrev arg_values : GenericArg-F ArgTold TyTold BoundTold TraitTold → GenericArg-F GenericArg Ty AliasBound TraitRef
  arg_values = map-GenericArg ArgTold TyTold BoundTold TraitTold GenericArg Ty AliasBound TraitRef (λ e. e.0) (λ e. e.0) (λ e. e.0)
      (λ e. e.0)

  abbrev ty_values : Ty-F ArgTold TyTold BoundTold TraitTold → Ty-F GenericArg Ty AliasBound TraitRef
  ty_values = map-Ty ArgTold TyTold BoundTold TraitTold GenericArg Ty AliasBound TraitRef (λ e. e.0) (λ e. e.0) (λ e. e.0) (λ e. e.0)

  abbrev bound_values : AliasBound-F ArgTold TyTold BoundTold TraitTold → AliasBound-F GenericArg Ty AliasBound TraitRef
  bound_values = map-AliasBound ArgTold TyTold BoundTold TraitTold GenericArg Ty AliasBound TraitRef (λ e. e.0) (λ e. e.0) (λ e. e.0)
      (λ e. e.0)

  abbrev trait_values : TraitRef-F ArgTold TyTold BoundTold TraitTold → TraitRef-F GenericArg Ty AliasBound TraitRef
  trait_values = map-TraitRef ArgTold TyTold BoundTold TraitTold GenericArg Ty AliasBound TraitRef (λ e. e.0) (λ e. e.0) (λ e. e.0)
      (λ e. e.0)

  part_agrees : (t : TyTold) → On (type_part (term t.0)) → folded f t.0 ≡ folded g t.0
  part_agrees t h = t.1 (on_right (leaf head.TypePart) (term t.0) h)

  types_agree : (ts : List TyTold) (us : List Term) → On (chain (map type_part (map term (map (λ e. e.0) ts)) ++ us))
      → map (folded f) (map (λ e. e.0) ts) ≡ map (folded g) (map (λ e. e.0) ts)
  types_agree [] us h = refl
  types_agree (t ∷ ts) us h =
      let below : Term = chain (map type_part (map term (map (λ e. e.0) ts)) ++ us) in
      λ i. part_agrees t (on_left (type_part (term t.0)) below h) i ∷ types_agree ts us (on_right (type_part (term t.0)) below h) i

  types_agree_alone : (ts : List TyTold) → On (chain (map type_part (map term (map (λ e. e.0) ts))))
      → map (folded f) (map (λ e. e.0) ts) ≡ map (folded g) (map (λ e. e.0) ts)
  types_agree_alone [] h = refl
  types_agree_alone (t ∷ ts) h =
      let below : Term = chain (map type_part (map term (map (λ e. e.0) ts))) in
      λ i. part_agrees t (on_left (type_part (term t.0)) below h) i ∷ types_agree_alone ts (on_right (type_part (term t.0)) below h) i

  args_agree : (xs : List ArgTold) → On (chain (map arg_term (map (λ e. e.0) xs)))
      → map (arg_folded f) (map (λ e. e.0) xs) ≡ map (arg_folded g) (map (λ e. e.0) xs)
  args_agree [] h = refl
  args_agree (x ∷ xs) h =
      let below : Term = chain (map arg_term (map (λ e. e.0) xs)) in
      λ i. x.1 (on_left (arg_term x.0) below h) i ∷ args_agree xs (on_right (arg_term x.0) below h) i

  bounds_agree : (bs : List BoundTold) → On (chain (flat_map (λ us. us) (map bound_parts (map (λ e. e.0) bs))))
      → map (bound_replaced (with_holes f)) (map (λ e. e.0) bs) ≡ map (bound_replaced (with_holes g)) (map (λ e. e.0) bs)
  bounds_agree [] h = refl
  bounds_agree (b ∷ bs) h =
      let below : List Term = flat_map (λ us. us) (map bound_parts (map (λ e. e.0) bs)) in
      λ i. b.1 (on_first (bound_parts b.0) below h) i ∷ bounds_agree bs (on_rest (bound_parts b.0) below h) i

  -- the last part, behind the inputs
  last_agrees : (us : List Term) (t : TyTold) → On (chain (us ++ type_part (term t.0) ∷ [])) → folded f t.0 ≡ folded g t.0
  last_agrees us t h = part_agrees t (on_left (type_part (term t.0)) (leaf head.End) (on_rest us (type_part (term t.0) ∷ []) h))

  one_agrees : (t : TyTold) → On (chain (type_part (term t.0) ∷ [])) → folded f t.0 ≡ folded g t.0
  one_agrees t h = part_agrees t (on_left (type_part (term t.0)) (leaf head.End) h)

  arg_layer_agrees : (y : GenericArg-F ArgTold TyTold BoundTold TraitTold)
      → On (arg_step (in_arg terms (arg_values y)))
      → arg_layer (with_holes f) (in_arg (replacing (with_holes f)) (arg_values y))
      ≡ arg_layer (with_holes g) (in_arg (replacing (with_holes g)) (arg_values y))
  arg_layer_agrees (GenericArg-F.Ty t) h = λ i. roll-GenericArg (GenericArg-F.Ty (part_agrees t h i))
  arg_layer_agrees (GenericArg-F.Const c) h = ap arg.Const (const_folded_agree f g c (on_right (leaf head.ConstPart) (const_term c) h))

  ty_layer_agrees : (y : Ty-F ArgTold TyTold BoundTold TraitTold)
      → On (ty_step (in_ty terms (ty_values y)))
      → ty_layer (with_holes f) (in_ty (replacing (with_holes f)) (ty_values y))
      ≡ ty_layer (with_holes g) (in_ty (replacing (with_holes g)) (ty_values y))
  ty_layer_agrees (Ty-F.Var n) h = h (hole_of.Ty n) (hole_eq_itself (hole_of.Ty n))
  ty_layer_agrees (Ty-F.IntVar n) h = h (hole_of.Int n) (hole_eq_itself (hole_of.Int n))
  ty_layer_agrees (Ty-F.Tuple ts) h =
      λ i. roll-Ty (Ty-F.Tuple (types_agree_alone ts (on_right (leaf head.Tuple) (chain (map type_part (map term (map (λ e. e.0) ts)))) h)
      i))
  ty_layer_agrees (Ty-F.Array t c) h =
      let parts : On (chain (type_part (term t.0) ∷ const_part c ∷ [])) =
      on_right (leaf head.Array) (chain (type_part (term t.0) ∷ const_part c ∷ [])) h in
      let length : On (const_part c) =
      on_left (const_part c) (leaf head.End) (on_right (type_part (term t.0)) (chain (const_part c ∷ [])) parts) in
      λ i. ty.Array (part_agrees t (on_left (type_part (term t.0)) (chain (const_part c ∷ [])) parts) i)
      (const_folded_agree f g c (on_right (leaf head.ConstPart) (const_term c) length) i)
  ty_layer_agrees (Ty-F.Slice t) h =
      λ i. roll-Ty (Ty-F.Slice (one_agrees t (on_right (leaf head.Slice) (chain (type_part (term t.0) ∷ [])) h) i))
  ty_layer_agrees (Ty-F.Ref m r t) h =
      λ i. roll-Ty (Ty-F.Ref m r (one_agrees t (on_right (leaf (head.Ref m)) (chain (type_part (term t.0) ∷ [])) h) i))
  ty_layer_agrees (Ty-F.RawPtr m t) h =
      λ i. roll-Ty (Ty-F.RawPtr m (one_agrees t (on_right (leaf (head.RawPtr m)) (chain (type_part (term t.0) ∷ [])) h) i))
  ty_layer_agrees (Ty-F.Adt id xs) h =
      λ i. roll-Ty (Ty-F.Adt id (args_agree xs (on_right (leaf (head.Adt id)) (chain (map arg_term (map (λ e. e.0) xs))) h) i))
  ty_layer_agrees (Ty-F.FnDef id xs) h =
      λ i. roll-Ty (Ty-F.FnDef id (args_agree xs (on_right (leaf (head.FnDef id)) (chain (map arg_term (map (λ e. e.0) xs))) h) i))
  ty_layer_agrees (Ty-F.FnPtr u ts t) h =
      let inputs : List Term = map type_part (map term (map (λ e. e.0) ts)) in
      let parts : On (chain (inputs ++ type_part (term t.0) ∷ [])) =
      on_right (leaf (head.FnPtr u)) (chain (inputs ++ type_part (term t.0) ∷ [])) h in
      λ i. roll-Ty (Ty-F.FnPtr u (types_agree ts (type_part (term t.0) ∷ []) parts i) (last_agrees inputs t parts i))
  ty_layer_agrees (Ty-F.Closure id ts t) h =
      let inputs : List Term = map type_part (map term (map (λ e. e.0) ts)) in
      let parts : On (chain (inputs ++ type_part (term t.0) ∷ [])) =
      on_right (leaf (head.Closure id)) (chain (inputs ++ type_part (term t.0) ∷ [])) h in
      λ i. roll-Ty (Ty-F.Closure id (types_agree ts (type_part (term t.0) ∷ []) parts i) (last_agrees inputs t parts i))
  ty_layer_agrees (Ty-F.Dynamic None bs ids) h =
      let bounds : List Term = flat_map (λ us. us) (map bound_parts (map (λ e. e.0) bs)) in
      let front : List Term = (leaf head.NoPrincipal ∷ []) ++ bounds in
      let parts : On (chain front) = on_first front (auto_parts ids) (on_right (leaf head.Dynamic) (chain (front ++ auto_parts ids)) h) in
      λ i. roll-Ty (Ty-F.Dynamic None (bounds_agree bs (on_rest (leaf head.NoPrincipal ∷ []) bounds parts) i) ids)
  ty_layer_agrees (Ty-F.Dynamic (Some r) bs ids) h =
      let bounds : List Term = flat_map (λ us. us) (map bound_parts (map (λ e. e.0) bs)) in
      let front : List Term = trait_parts r.0 ++ bounds in
      let parts : On (chain front) = on_first front (auto_parts ids) (on_right (leaf head.Dynamic) (chain (front ++ auto_parts ids)) h) in
      λ i. roll-Ty (Ty-F.Dynamic (Some (r.1 (on_first (trait_parts r.0) bounds parts) i))
      (bounds_agree bs (on_rest (trait_parts r.0) bounds parts) i) ids)
  ty_layer_agrees (Ty-F.Projection id xs) h =
      λ i. roll-Ty (Ty-F.Projection id
      (args_agree xs (on_right (leaf (head.Projection id)) (chain (map arg_term (map (λ e. e.0) xs))) h) i))
  ty_layer_agrees (Ty-F.AssociatedType id xs) h =
      λ i. roll-Ty (Ty-F.AssociatedType id
      (args_agree xs (on_right (leaf (head.AssociatedType id)) (chain (map arg_term (map (λ e. e.0) xs))) h) i))
  ty_layer_agrees (Ty-F.Opaque id xs) h =
      λ i. roll-Ty (Ty-F.Opaque id (args_agree xs (on_right (leaf (head.Opaque id)) (chain (map arg_term (map (λ e. e.0) xs))) h) i))
  ty_layer_agrees _ h = refl

  bound_layer_agrees : (y : AliasBound-F ArgTold TyTold BoundTold TraitTold)
      → On (chain (leaf (head.Bound y.alias) ∷ type_part (term y.ty.0) ∷ []))
      → bound_replaced (with_holes f) (roll-AliasBound (bound_values y)) ≡ bound_replaced (with_holes g) (roll-AliasBound (bound_values y))
  bound_layer_agrees y h =
      bound_replaced_is (with_holes f) (roll-AliasBound (bound_values y))
      ∙ (λ i. record {
        alias = y.alias;
        ty =
            one_agrees y.ty (on_right (leaf (head.Bound y.alias)) (chain (type_part (term y.ty.0) ∷ [])) h) i;
      })
      ∙ sym (bound_replaced_is (with_holes g) (roll-AliasBound (bound_values y)))

  trait_layer_agrees : (y : TraitRef-F ArgTold TyTold BoundTold TraitTold)
      → On (chain (leaf (head.Principal y.id) ∷ map arg_term (map (λ e. e.0) y.args)))
      → trait_folded f (roll-TraitRef (trait_values y)) ≡ trait_folded g (roll-TraitRef (trait_values y))
  trait_layer_agrees y h =
      trait_replaced_is (with_holes f) (roll-TraitRef (trait_values y))
      ∙ (λ i. record {
        id = y.id;
        args =
            args_agree y.args (on_right (leaf (head.Principal y.id)) (chain (map arg_term (map (λ e. e.0) y.args))) h) i;
      })
      ∙ sym (trait_replaced_is (with_holes g) (roll-TraitRef (trait_values y)))

  arg_agrees_at : (x : GenericArg-F GenericArg Ty AliasBound TraitRef) (y : GenericArg-F ArgTold TyTold BoundTold TraitTold)
      → arg_values y ≡ x → ArgAgrees (roll-GenericArg x)
  arg_agrees_at x y is h =
      let P : GenericArg-F GenericArg Ty AliasBound TraitRef → Type 0 =
      λ z. On (arg_step (in_arg terms z))
      → arg_layer (with_holes f) (in_arg (replacing (with_holes f)) z)
      ≡ arg_layer (with_holes g) (in_arg (replacing (with_holes g)) z) in
      at_arg (with_holes f) x ∙ subst P is (arg_layer_agrees y) (subst On (arg_term_at x) h) ∙ sym (at_arg (with_holes g) x)

  ty_agrees_at : (x : Ty-F GenericArg Ty AliasBound TraitRef) (y : Ty-F ArgTold TyTold BoundTold TraitTold) → ty_values y ≡ x
      → TyAgrees (roll-Ty x)
  ty_agrees_at x y is h =
      let P : Ty-F GenericArg Ty AliasBound TraitRef → Type 0 =
      λ z. On (ty_step (in_ty terms z))
      → ty_layer (with_holes f) (in_ty (replacing (with_holes f)) z) ≡ ty_layer (with_holes g) (in_ty (replacing (with_holes g)) z) in
      at_ty (with_holes f) x ∙ subst P is (ty_layer_agrees y) (subst On (term_at x) h) ∙ sym (at_ty (with_holes g) x)

  bound_agrees_at : (x : AliasBound-F GenericArg Ty AliasBound TraitRef) (y : AliasBound-F ArgTold TyTold BoundTold TraitTold)
      → bound_values y ≡ x → BoundAgrees (roll-AliasBound x)
  bound_agrees_at x y is = subst (λ z. BoundAgrees (roll-AliasBound z)) is
      (λ h. bound_layer_agrees y (subst (λ us. On (chain us)) (bound_parts_is (roll-AliasBound (bound_values y))) h))

  trait_agrees_at : (x : TraitRef-F GenericArg Ty AliasBound TraitRef) (y : TraitRef-F ArgTold TyTold BoundTold TraitTold)
      → trait_values y ≡ x → TraitAgrees (roll-TraitRef x)
  trait_agrees_at x y is = subst (λ z. TraitAgrees (roll-TraitRef z)) is
      (λ h. trait_layer_agrees y (subst (λ us. On (chain us)) (trait_parts_is (roll-TraitRef (trait_values y))) h))

  pub folded_agree : (t : Ty) → SameOn f g (term t) → folded f t ≡ folded g t
  folded_agree = ind-Ty ArgAgrees TyAgrees BoundAgrees TraitAgrees arg_agrees_at ty_agrees_at bound_agrees_at trait_agrees_at

-- ---- an assignment of one hole, at what does not have it

-- every other hole stands for itself
abbrev pub MovesOnly : Hole → Assignment → Type 0
MovesOnly x f = (k : Hole) → hole_eq x k ≡ false → SameAt f each_itself k

absent_case : (b : Bool) {X : Type 0} → (b ≡ true → ⊥) → (b ≡ false → X) → X
absent_case true f g = absurd (f refl)
absent_case false f g = g refl

pub same_where_absent : (x : Hole) (f : Assignment) → MovesOnly x f → (u : Term) → occurs x u ≡ false → SameOn f each_itself u
same_where_absent x f h u none k o =
    absent_case (hole_eq x k) (λ e. true≢false (sym (subst (λ z. occurs z u ≡ true) (sym (hole_eq_tells x k e)) o) ∙ none)) (h k)

pub folded_absent : (x : Hole) (f : Assignment) → MovesOnly x f → (t : Ty) → occurs x (term t) ≡ false → folded f t ≡ t
folded_absent x f h t none = folded_agree f each_itself t (same_where_absent x f h (term t) none) ∙ folded_itself t

pub const_folded_absent : (x : Hole) (f : Assignment) → MovesOnly x f → (c : Const) → occurs x (const_term c) ≡ false → const_folded f c ≡ c
const_folded_absent x f h c none = const_folded_agree f each_itself c (same_where_absent x f h (const_term c) none) ∙ const_folded_itself c
