-- Induction over types of the carried kinds, and what fine types come to under closed types for holes.
use Rattle.std.specs.Prelude.{nat_lt}
use Rattle.std.specs.List.{list_all}
use Rattle.std.specs.Cmp.{first_so, second_so}
use Rattle.std.proofs.Common.{◌≡◌, List, Option, Some, None, refl, [], ◌∷◌, ℕ, length, Bool, true, sym, ap, subst, ◌∙◌, true≢false, map, ◌&&◌}
use Rattle.infer_ctx.specs.Words.{AliasBound, TraitRef, GenericArg, GenericArg-F, map-GenericArg, roll-GenericArg, fold-roll-GenericArg, Ty, Ty-F, map-Ty, ind-Ty, roll-Ty, fold-roll-Ty, AdtId, CallableDefId, IntTy, UintTy, in_ty, Term, chain, type_part, term, arg_term, ty_step, apply, terms_of, IsInt, terms, term_at, arg_term_at, term_adt_types, term_fn_def_types, term_folded, term_int, term_uint, term_bool, term_char, term_tuple, term_param, term_error, term_associated_types, replaced_bool, replaced_char, replaced_int, replaced_uint, replaced_tuple, replaced_adt, replaced_fn_def, replaced_param, replaced_var, replaced_int_var, replaced_error, replaced_associated_type, types_args_folded, Assignment, with_holes, folded, term_tells, IntegerTy, integer_type, type_args, Scope, adt_params, has_params, alias_params, carried_arg, carried_step, carried_bound, carried_trait, is_carried_type, is_carried_arg, IsCarriedType, AreCarriedTypes, AreCarriedArgs, carried_tuple, carried_adt, carried_fn_def, carried_type_arg, carried_param, carried_bool, carried_char, carried_integer, same_carried, carried_associated, whole, part, rest, IsMadeOf, Respects, State, HolesAreOf, TypeAliasId}
use Rattle.hir_types.specs.declared.ty.GenericArg.TheVariants as arg
use Rattle.hir_types.specs.declared.ty.Ty.TheVariants as ty
use Rattle.hir_types.specs.declared.ty.IntegerTy.TheVariants as integer
use Rattle.hir_types.specs.declared.head.Hole.TheVariants as hole_of
use Rattle.hir_types.specs.declared.head.Head.TheVariants as head
use Rattle.infer_ctx.specs.Own.{IsFineExpectation, item_params, is_fine_head, HasFineHeads, IsFine, Every, IsClosing, expected_under, IsCarriedExpectation}
use Rattle.infer_ctx.proofs.FineTypes.{parts_width, all_holes, no_holes}
use Rattle.infer_ctx.proofs.MadeHoles.{node_holes_are_of}

abbrev AnyBound : Type 0
AnyBound = AliasBound × Unit {0}

abbrev AnyTrait : Type 0
AnyTrait = TraitRef × Unit {0}

-- the argument is a type with the property
abbrev IsTypeWith : (Ty → Type 0) → GenericArg → Type 0
IsTypeWith P x = (t : Ty) × (x ≡ arg.Ty t) × P t

-- all of them are
record AreTypesWith (P : Ty → Type 0) (xs : List GenericArg) : Type 0 where
  types : List Ty
  are : xs ≡ type_args types
  each : Every P types

no_types : (P : Ty → Type 0) → AreTypesWith P []
no_types P = record { types = []; are = refl; each = tt }

one_more_type : (P : Ty → Type 0) (x : GenericArg) (xs : List GenericArg) → IsTypeWith P x → AreTypesWith P xs → AreTypesWith P (x ∷ xs)
one_more_type P x xs h k = record { types = h.0 ∷ k.types; are = λ i. h.1 i ∷ k.are i; each = (h.2, k.each) }

-- ---- fine types

-- what a property has to hold of, to hold of each fine type
pub record Cases (sc : Scope) (P : Ty → Type 0) : Type 0 where
  pub bool : P ty.Bool
  pub char : P ty.Char
  pub int : (i : IntTy) → P (ty.Int i)
  pub uint : (i : UintTy) → P (ty.Uint i)
  pub var : (n : ℕ) → P (ty.Var n)
  pub int_var : (n : ℕ) → P (ty.IntVar n)
  pub tuple : (ts : List Ty) → Every P ts → P (ty.Tuple ts)
  pub adt : (id : AdtId) (ts : List Ty) → has_params (adt_params sc.facts id) (length ts) ≡ true → Every P ts → P (ty.Adt id (type_args ts))
  pub fn_def : (id : CallableDefId) (ts : List Ty) → has_params (item_params sc.facts id) (length ts) ≡ true → Every P ts → P (ty.FnDef id (type_args ts))
  pub param : (n : ℕ) → nat_lt n sc.params ≡ true → P (ty.Param n)
  pub associated : (k : TypeAliasId) (ts : List Ty) → (sc.associated && has_params (alias_params sc.facts k) (length ts)) ≡ true → Every P ts → P (ty.AssociatedType k (type_args ts))

module _ (sc : Scope) (P : Ty → Type 0) (cases : Cases sc P) where
  abbrev HoldsIfFine : Type 0
  HoldsIfFine = (t : Ty) × (HasFineHeads sc t → P t)

  abbrev ArgHoldsIfFine : Type 0
  ArgHoldsIfFine = (x : GenericArg) × (IsMadeOf (is_fine_head sc) part (arg_term x) → IsTypeWith P x)

  abbrev layer_of : Ty-F ArgHoldsIfFine HoldsIfFine AnyBound AnyTrait → Ty-F GenericArg Ty AliasBound TraitRef
  layer_of = map-Ty ArgHoldsIfFine HoldsIfFine AnyBound AnyTrait GenericArg Ty AliasBound TraitRef (λ e. e.0) (λ e. e.0) (λ e. e.0) (λ e. e.0)

  abbrev arg_layer_of : GenericArg-F ArgHoldsIfFine HoldsIfFine AnyBound AnyTrait → GenericArg-F GenericArg Ty AliasBound TraitRef
  arg_layer_of = map-GenericArg ArgHoldsIfFine HoldsIfFine AnyBound AnyTrait GenericArg Ty AliasBound TraitRef (λ e. e.0) (λ e. e.0) (λ e. e.0) (λ e. e.0)

  heads_at : (x : Ty-F GenericArg Ty AliasBound TraitRef) → HasFineHeads sc (roll-Ty x) → IsMadeOf (is_fine_head sc) whole (ty_step (in_ty terms x))
  heads_at x h = (let Q : Term → Type 0 = IsMadeOf (is_fine_head sc) whole in subst Q (term_at x) h)

  parts_hold : (ts : List HoldsIfFine) → IsMadeOf (is_fine_head sc) rest (chain (map type_part (map term (map (λ e. e.0) ts)))) → Every P (map (λ e. e.0) ts)
  parts_hold [] h = tt
  parts_hold (t ∷ ts) h = (t.1 h.0.1, parts_hold ts h.1)

  args_hold : (xs : List ArgHoldsIfFine) → IsMadeOf (is_fine_head sc) rest (chain (map arg_term (map (λ e. e.0) xs))) → AreTypesWith P (map (λ e. e.0) xs)
  args_hold [] h = no_types P
  args_hold (x ∷ xs) h = one_more_type P x.0 (map (λ e. e.0) xs) (x.1 h.0) (args_hold xs h.1)

  abbrev Made : Term → Type 0
  Made = IsMadeOf (is_fine_head sc) whole

  adt_told : (id : AdtId) (xs : List GenericArg) → HasFineHeads sc (ty.Adt id xs) → AreTypesWith P xs → P (ty.Adt id xs)
  adt_told id xs h are =
      let made = subst Made (term_adt_types id are.types) (subst (λ ys. HasFineHeads sc (ty.Adt id ys)) are.are h) in
      let arity = ap (has_params (adt_params sc.facts id)) (sym (parts_width are.types)) ∙ made.0 in
      subst (λ ys. P (ty.Adt id ys)) (sym are.are) (cases.adt id are.types arity are.each)

  fn_def_told : (id : CallableDefId) (xs : List GenericArg) → HasFineHeads sc (ty.FnDef id xs) → AreTypesWith P xs → P (ty.FnDef id xs)
  fn_def_told id xs h are =
      let made = subst Made (term_fn_def_types id are.types) (subst (λ ys. HasFineHeads sc (ty.FnDef id ys)) are.are h) in
      let arity = ap (has_params (item_params sc.facts id)) (sym (parts_width are.types)) ∙ made.0 in
      subst (λ ys. P (ty.FnDef id ys)) (sym are.are) (cases.fn_def id are.types arity are.each)

  associated_told : (id : TypeAliasId) (xs : List GenericArg) → HasFineHeads sc (ty.AssociatedType id xs) → AreTypesWith P xs → P (ty.AssociatedType id xs)
  associated_told id xs h are =
      let made = subst Made (term_associated_types id are.types) (subst (λ ys. HasFineHeads sc (ty.AssociatedType id ys)) are.are h) in
      let arity = ap (λ n. sc.associated && has_params (alias_params sc.facts id) n) (sym (parts_width are.types)) ∙ made.0 in
      subst (λ ys. P (ty.AssociatedType id ys)) (sym are.are) (cases.associated id are.types arity are.each)

  layer_told : (y : Ty-F ArgHoldsIfFine HoldsIfFine AnyBound AnyTrait) → HasFineHeads sc (roll-Ty (layer_of y)) → P (roll-Ty (layer_of y))
  layer_told Ty-F.Bool h = subst P (sym ty.rolls-Bool) cases.bool
  layer_told Ty-F.Char h = subst P (sym ty.rolls-Char) cases.char
  layer_told (Ty-F.Int i) h = subst P (sym (ty.rolls-Int i)) (cases.int i)
  layer_told (Ty-F.Uint i) h = subst P (sym (ty.rolls-Uint i)) (cases.uint i)
  layer_told (Ty-F.Var n) h = subst P (sym (ty.rolls-Var n)) (cases.var n)
  layer_told (Ty-F.IntVar n) h = subst P (sym (ty.rolls-IntVar n)) (cases.int_var n)
  layer_told (Ty-F.Tuple ts) h =
      let us : List Ty = map (λ e. e.0) ts in
      subst P (sym (ty.rolls-Tuple us)) (cases.tuple us (parts_hold ts (heads_at (Ty-F.Tuple us) h).1))
  layer_told (Ty-F.Adt id xs) h =
      let us : List GenericArg = map (λ e. e.0) xs in
      subst P (sym (ty.rolls-Adt id us)) (adt_told id us (subst (HasFineHeads sc) (ty.rolls-Adt id us) h) (args_hold xs (heads_at (Ty-F.Adt id us) h).1))
  layer_told (Ty-F.FnDef id xs) h =
      let us : List GenericArg = map (λ e. e.0) xs in
      subst P (sym (ty.rolls-FnDef id us)) (fn_def_told id us (subst (HasFineHeads sc) (ty.rolls-FnDef id us) h) (args_hold xs (heads_at (Ty-F.FnDef id us) h).1))
  layer_told (Ty-F.Param n) h = subst P (sym (ty.rolls-Param n)) (cases.param n (heads_at (Ty-F.Param n) h).0)
  layer_told (Ty-F.AssociatedType id xs) h =
      let us : List GenericArg = map (λ e. e.0) xs in
      subst P (sym (ty.rolls-AssociatedType id us)) (associated_told id us (subst (HasFineHeads sc) (ty.rolls-AssociatedType id us) h) (args_hold xs (heads_at (Ty-F.AssociatedType id us) h).1))
  layer_told y h = absurd (true≢false (sym (heads_at (layer_of y) h).0))

  layer_told_arg : (y : GenericArg-F ArgHoldsIfFine HoldsIfFine AnyBound AnyTrait) → IsMadeOf (is_fine_head sc) part (arg_term (roll-GenericArg (arg_layer_of y))) → IsTypeWith P (roll-GenericArg (arg_layer_of y))
  layer_told_arg (GenericArg-F.Ty t) h =
      let Q : Term → Type 0 = IsMadeOf (is_fine_head sc) part in
      (t.0, arg.rolls-Ty t.0, t.1 (subst Q (arg_term_at (GenericArg-F.Ty t.0)) h).1)
  layer_told_arg (GenericArg-F.Const c) h =
      let Q : Term → Type 0 = IsMadeOf (is_fine_head sc) part in
      absurd (subst Q (arg_term_at (GenericArg-F.Const c)) h).0

  step_told : (x : Ty-F GenericArg Ty AliasBound TraitRef) (y : Ty-F ArgHoldsIfFine HoldsIfFine AnyBound AnyTrait) → layer_of y ≡ x → HasFineHeads sc (roll-Ty x) → P (roll-Ty x)
  step_told x y is = subst (λ z. HasFineHeads sc (roll-Ty z) → P (roll-Ty z)) is (layer_told y)

  step_told_arg : (x : GenericArg-F GenericArg Ty AliasBound TraitRef) (y : GenericArg-F ArgHoldsIfFine HoldsIfFine AnyBound AnyTrait) → arg_layer_of y ≡ x → IsMadeOf (is_fine_head sc) part (arg_term (roll-GenericArg x)) → IsTypeWith P (roll-GenericArg x)
  step_told_arg x y is = subst (λ z. IsMadeOf (is_fine_head sc) part (arg_term (roll-GenericArg z)) → IsTypeWith P (roll-GenericArg z)) is (layer_told_arg y)

  pub over_fine : (t : Ty) → HasFineHeads sc t → P t
  over_fine = ind-Ty (λ x. IsMadeOf (is_fine_head sc) part (arg_term x) → IsTypeWith P x) (λ t. HasFineHeads sc t → P t) (λ _. Unit {0}) (λ _. Unit {0}) step_told_arg step_told (λ x y is. tt) (λ x y is. tt)

-- ---- types of the carried kinds

-- what a property has to hold of, to hold of each carried type
pub record CarriedCases (P : Ty → Type 0) : Type 0 where
  pub bool : P ty.Bool
  pub char : P ty.Char
  pub int : (i : IntTy) → P (ty.Int i)
  pub uint : (i : UintTy) → P (ty.Uint i)
  pub error : P ty.Error
  pub tuple : (ts : List Ty) → Every P ts → P (ty.Tuple ts)
  pub adt : (id : AdtId) (ts : List Ty) → Every P ts → P (ty.Adt id (type_args ts))
  pub fn_def : (id : CallableDefId) (ts : List Ty) → Every P ts → P (ty.FnDef id (type_args ts))
  pub param : (n : ℕ) → P (ty.Param n)
  pub associated : (id : TypeAliasId) (ts : List Ty) → Every P ts → P (ty.AssociatedType id (type_args ts))

module _ (P : Ty → Type 0) (cases : CarriedCases P) where
  abbrev ToldCarried : Type 0
  ToldCarried = (t : Ty) × (IsCarriedType t → P t)

  abbrev ArgCarried : Type 0
  ArgCarried = (x : GenericArg) × (is_carried_arg x ≡ true → IsTypeWith P x)

  abbrev carried_of : Ty-F ArgCarried ToldCarried AnyBound AnyTrait → Ty-F GenericArg Ty AliasBound TraitRef
  carried_of = map-Ty ArgCarried ToldCarried AnyBound AnyTrait GenericArg Ty AliasBound TraitRef (λ e. e.0) (λ e. e.0) (λ e. e.0) (λ e. e.0)

  abbrev carried_of_arg : GenericArg-F ArgCarried ToldCarried AnyBound AnyTrait → GenericArg-F GenericArg Ty AliasBound TraitRef
  carried_of_arg = map-GenericArg ArgCarried ToldCarried AnyBound AnyTrait GenericArg Ty AliasBound TraitRef (λ e. e.0) (λ e. e.0) (λ e. e.0) (λ e. e.0)

  parts_carried : (ts : List ToldCarried) → AreCarriedTypes (map (λ e. e.0) ts) → Every P (map (λ e. e.0) ts)
  parts_carried [] h = tt
  parts_carried (t ∷ ts) h =
      let all = list_all is_carried_type (map (λ e. e.0) ts) in
      (t.1 (first_so (is_carried_type t.0) all h), parts_carried ts (second_so (is_carried_type t.0) all h))

  args_carried : (xs : List ArgCarried) → AreCarriedArgs (map (λ e. e.0) xs) → AreTypesWith P (map (λ e. e.0) xs)
  args_carried [] h = no_types P
  args_carried (x ∷ xs) h =
      let all = list_all is_carried_arg (map (λ e. e.0) xs) in
      one_more_type P x.0 (map (λ e. e.0) xs) (x.1 (first_so (is_carried_arg x.0) all h)) (args_carried xs (second_so (is_carried_arg x.0) all h))

  layer_carried : (y : Ty-F ArgCarried ToldCarried AnyBound AnyTrait) → IsCarriedType (roll-Ty (carried_of y)) → P (roll-Ty (carried_of y))
  layer_carried Ty-F.Bool h = subst P (sym ty.rolls-Bool) cases.bool
  layer_carried Ty-F.Char h = subst P (sym ty.rolls-Char) cases.char
  layer_carried (Ty-F.Int i) h = subst P (sym (ty.rolls-Int i)) (cases.int i)
  layer_carried (Ty-F.Uint i) h = subst P (sym (ty.rolls-Uint i)) (cases.uint i)
  layer_carried Ty-F.Error h = subst P (sym ty.rolls-Error) cases.error
  layer_carried (Ty-F.Tuple ts) h =
      let us : List Ty = map (λ e. e.0) ts in
      subst P (sym (ty.rolls-Tuple us)) (cases.tuple us (parts_carried ts (sym (carried_tuple us) ∙ (ap is_carried_type (sym (ty.rolls-Tuple us)) ∙ h))))
  layer_carried (Ty-F.Adt id xs) h =
      let us : List GenericArg = map (λ e. e.0) xs in
      let are = args_carried xs (sym (carried_adt id us) ∙ (ap is_carried_type (sym (ty.rolls-Adt id us)) ∙ h)) in
      subst P (sym (ty.rolls-Adt id us)) (subst (λ ys. P (ty.Adt id ys)) (sym are.are) (cases.adt id are.types are.each))
  layer_carried (Ty-F.FnDef id xs) h =
      let us : List GenericArg = map (λ e. e.0) xs in
      let are = args_carried xs (sym (carried_fn_def id us) ∙ (ap is_carried_type (sym (ty.rolls-FnDef id us)) ∙ h)) in
      subst P (sym (ty.rolls-FnDef id us)) (subst (λ ys. P (ty.FnDef id ys)) (sym are.are) (cases.fn_def id are.types are.each))
  layer_carried (Ty-F.Param n) h = subst P (sym (ty.rolls-Param n)) (cases.param n)
  layer_carried (Ty-F.AssociatedType id xs) h =
      let us : List GenericArg = map (λ e. e.0) xs in
      let are = args_carried xs (sym (carried_associated id us) ∙ (ap is_carried_type (sym (ty.rolls-AssociatedType id us)) ∙ h)) in
      subst P (sym (ty.rolls-AssociatedType id us)) (subst (λ ys. P (ty.AssociatedType id ys)) (sym are.are) (cases.associated id are.types are.each))
  layer_carried y h = absurd (true≢false (sym h ∙ fold-roll-Ty Bool Bool Bool Bool carried_arg carried_step carried_bound carried_trait (carried_of y)))

  layer_carried_arg : (y : GenericArg-F ArgCarried ToldCarried AnyBound AnyTrait) → is_carried_arg (roll-GenericArg (carried_of_arg y)) ≡ true → IsTypeWith P (roll-GenericArg (carried_of_arg y))
  layer_carried_arg (GenericArg-F.Ty t) h = (t.0, arg.rolls-Ty t.0, t.1 (sym (carried_type_arg t.0) ∙ (ap is_carried_arg (sym (arg.rolls-Ty t.0)) ∙ h)))
  layer_carried_arg (GenericArg-F.Const c) h = absurd (true≢false (sym h ∙ fold-roll-GenericArg Bool Bool Bool Bool carried_arg carried_step carried_bound carried_trait (GenericArg-F.Const c)))

  step_carried : (x : Ty-F GenericArg Ty AliasBound TraitRef) (y : Ty-F ArgCarried ToldCarried AnyBound AnyTrait) → carried_of y ≡ x → IsCarriedType (roll-Ty x) → P (roll-Ty x)
  step_carried x y is = subst (λ z. IsCarriedType (roll-Ty z) → P (roll-Ty z)) is (layer_carried y)

  step_carried_arg : (x : GenericArg-F GenericArg Ty AliasBound TraitRef) (y : GenericArg-F ArgCarried ToldCarried AnyBound AnyTrait) → carried_of_arg y ≡ x → is_carried_arg (roll-GenericArg x) ≡ true → IsTypeWith P (roll-GenericArg x)
  step_carried_arg x y is = subst (λ z. is_carried_arg (roll-GenericArg z) ≡ true → IsTypeWith P (roll-GenericArg z)) is (layer_carried_arg y)

  pub over_carried : (t : Ty) → IsCarriedType t → P t
  over_carried = ind-Ty (λ x. is_carried_arg x ≡ true → IsTypeWith P x) (λ t. IsCarriedType t → P t) (λ _. Unit {0}) (λ _. Unit {0}) step_carried_arg step_carried (λ x y is. tt) (λ x y is. tt)

-- ---- what fine types come to

-- carried types for holes make a carried type
module _ (a : Assignment) where
  abbrev IsCarriedUnder : Ty → Type 0
  IsCarriedUnder t = IsCarriedType (folded a t)

  carried_by : (t u : Ty) → folded a t ≡ u → IsCarriedType u → IsCarriedUnder t
  carried_by t u e h = ap is_carried_type e ∙ h

  pub all_carried : (ts : List Ty) → Every IsCarriedUnder ts → AreCarriedTypes (map (folded a) ts)
  all_carried [] h = refl
  all_carried (t ∷ ts) h = ap (λ (b : Bool). b && list_all is_carried_type (map (folded a) ts)) h.0 ∙ all_carried ts h.1

  pub carried_args : (ts : List Ty) → AreCarriedTypes ts → AreCarriedArgs (type_args ts)
  carried_args [] h = refl
  carried_args (t ∷ ts) h =
      let all = list_all is_carried_type ts in
      ap (λ (b : Bool). b && list_all is_carried_arg (type_args ts)) (carried_type_arg t ∙ first_so (is_carried_type t) all h) ∙ carried_args ts (second_so (is_carried_type t) all h)

  pub adt_closed : (id : AdtId) (ts : List Ty) → folded a (ty.Adt id (type_args ts)) ≡ ty.Adt id (type_args (map (folded a) ts))
  adt_closed id ts = replaced_adt (with_holes a) id (type_args ts) ∙ ap (ty.Adt id) (types_args_folded a ts)

  pub fn_def_closed : (id : CallableDefId) (ts : List Ty) → folded a (ty.FnDef id (type_args ts)) ≡ ty.FnDef id (type_args (map (folded a) ts))
  fn_def_closed id ts = replaced_fn_def (with_holes a) id (type_args ts) ∙ ap (ty.FnDef id) (types_args_folded a ts)

  pub associated_closed : (id : TypeAliasId) (ts : List Ty) → folded a (ty.AssociatedType id (type_args ts)) ≡ ty.AssociatedType id (type_args (map (folded a) ts))
  associated_closed id ts = replaced_associated_type (with_holes a) id (type_args ts) ∙ ap (ty.AssociatedType id) (types_args_folded a ts)

  pub heads_carried : (sc : Scope) → ((n : ℕ) → IsCarriedType (a.var n)) → ((n : ℕ) → IsCarriedType (a.int_var n)) → (t : Ty) → HasFineHeads sc t → IsCarriedType (folded a t)
  heads_carried sc var int_var = over_fine sc IsCarriedUnder (record {
    bool = carried_by ty.Bool ty.Bool (replaced_bool (with_holes a)) carried_bool;
    char = carried_by ty.Char ty.Char (replaced_char (with_holes a)) carried_char;
    int = λ i. carried_by (ty.Int i) (ty.Int i) (replaced_int (with_holes a) i) (carried_integer (integer.Int i));
    uint = λ i. carried_by (ty.Uint i) (ty.Uint i) (replaced_uint (with_holes a) i) (carried_integer (integer.Uint i));
    var = λ n. carried_by (ty.Var n) (a.var n) (replaced_var (with_holes a) n) (var n);
    int_var = λ n. carried_by (ty.IntVar n) (a.int_var n) (replaced_int_var (with_holes a) n) (int_var n);
    tuple = λ ts h. carried_by (ty.Tuple ts) (ty.Tuple (map (folded a) ts)) (replaced_tuple (with_holes a) ts) (carried_tuple (map (folded a) ts) ∙ all_carried ts h);
    adt = λ id ts k h. carried_by (ty.Adt id (type_args ts)) (ty.Adt id (type_args (map (folded a) ts))) (adt_closed id ts) (carried_adt id (type_args (map (folded a) ts)) ∙ carried_args (map (folded a) ts) (all_carried ts h));
    fn_def = λ id ts k h. carried_by (ty.FnDef id (type_args ts)) (ty.FnDef id (type_args (map (folded a) ts))) (fn_def_closed id ts) (carried_fn_def id (type_args (map (folded a) ts)) ∙ carried_args (map (folded a) ts) (all_carried ts h));
    param = λ n k. carried_by (ty.Param n) (ty.Param n) (replaced_param (with_holes a) n) (carried_param n);
    associated = λ id ts k h. carried_by (ty.AssociatedType id (type_args ts)) (ty.AssociatedType id (type_args (map (folded a) ts))) (associated_closed id ts) (carried_associated id (type_args (map (folded a) ts)) ∙ carried_args (map (folded a) ts) (all_carried ts h));
  })

pub fine_closed : (sc : Scope) (a : Assignment) (t : Ty) → IsClosing a → HasFineHeads sc t → IsCarriedType (folded a t)
fine_closed sc a t c h = heads_carried a sc c.var (λ n. (let k = c.int_var n in ap is_carried_type k.1 ∙ carried_integer k.0)) t h

pub apart_closed : (a : Assignment) (t u : Ty) → folded a t ≡ folded a u → apply (terms_of a) (term t) ≡ apply (terms_of a) (term u)
apart_closed a t u e = sym (term_folded a t) ∙ ap term e ∙ term_folded a u

pub same_closed : (sc : Scope) (a : Assignment) (t u : Ty) → IsClosing a → HasFineHeads sc t → HasFineHeads sc u → apply (terms_of a) (term t) ≡ apply (terms_of a) (term u) → folded a t ≡ folded a u
same_closed sc a t u c h k e =
    same_carried (folded a t) (folded a u) (fine_closed sc a t c h) (fine_closed sc a u c k) (
    term_tells (folded a t) (folded a u) (term_folded a t ∙ e ∙ sym (term_folded a u))
    )

integer_is_int : (i : IntegerTy) → IsInt (term (integer_type i))
integer_is_int (integer.Int i) = subst IsInt (sym (term_int i)) tt
integer_is_int (integer.Uint i) = subst IsInt (sym (term_uint i)) tt

pub closing_respects : (a : Assignment) → IsClosing a → Respects (terms_of a)
closing_respects a c (hole_of.Ty n) k = absurd k
closing_respects a c (hole_of.Int n) k = (let i = c.int_var n in subst (λ t. IsInt (term t)) (sym i.1) (integer_is_int i.0))
closing_respects a c (hole_of.Const n) k = absurd k

-- ---- types of the carried kinds have no holes
module _ (state : State) where
  carried_holes : (t : Ty) → IsCarriedType t → HolesAreOf state t
  carried_holes = over_carried (HolesAreOf state) (record {
    bool = no_holes state ty.Bool head.Bool term_bool;
    char = no_holes state ty.Char head.Char term_char;
    int = λ i. no_holes state (ty.Int i) (head.Int i) (term_int i);
    uint = λ i. no_holes state (ty.Uint i) (head.Uint i) (term_uint i);
    error = no_holes state ty.Error head.Error term_error;
    tuple = λ ts h. node_holes_are_of state (ty.Tuple ts) head.Tuple ts (term_tuple ts) (all_holes state ts h);
    adt = λ id ts h. node_holes_are_of state (ty.Adt id (type_args ts)) (head.Adt id) ts (term_adt_types id ts) (all_holes state ts h);
    fn_def = λ id ts h. node_holes_are_of state (ty.FnDef id (type_args ts)) (head.FnDef id) ts (term_fn_def_types id ts) (all_holes state ts h);
    param = λ n. no_holes state (ty.Param n) (head.Param n) (term_param n);
    associated = λ id ts h. node_holes_are_of state (ty.AssociatedType id (type_args ts)) (head.AssociatedType id) ts (term_associated_types id ts) (all_holes state ts h);
  })

  pub carried_fine : (sc : Scope) (t : Ty) → IsCarriedType t → HasFineHeads sc t → IsFine sc state t
  carried_fine sc t h k = record { holes = carried_holes t h; heads = k }

module _ (a : Assignment) where
  all_closed : (ts : List Ty) → Every (λ t. folded a t ≡ t) ts → map (folded a) ts ≡ ts
  all_closed [] h = refl
  all_closed (t ∷ ts) h = λ i. h.0 i ∷ all_closed ts h.1 i

  -- so they come to themselves
  pub carried_closed : (t : Ty) → IsCarriedType t → folded a t ≡ t
  carried_closed = over_carried (λ t. folded a t ≡ t) (record {
    bool = replaced_bool (with_holes a);
    char = replaced_char (with_holes a);
    int = λ i. replaced_int (with_holes a) i;
    uint = λ i. replaced_uint (with_holes a) i;
    error = replaced_error (with_holes a);
    tuple = λ ts h. replaced_tuple (with_holes a) ts ∙ ap ty.Tuple (all_closed ts h);
    adt = λ id ts h. adt_closed a id ts ∙ ap (λ us. ty.Adt id (type_args us)) (all_closed ts h);
    fn_def = λ id ts h. fn_def_closed a id ts ∙ ap (λ us. ty.FnDef id (type_args us)) (all_closed ts h);
    param = λ n. replaced_param (with_holes a) n;
    associated = λ id ts h. associated_closed a id ts ∙ ap (λ us. ty.AssociatedType id (type_args us)) (all_closed ts h);
  })

-- so does what is expected, if anything
pub expected_closed : (a : Assignment) (x : Option Ty) → IsCarriedExpectation x → expected_under a x ≡ x
expected_closed a None h = refl
expected_closed a (Some t) h = ap (λ (u : Ty). Some u) (carried_closed a t h)

-- and it is fine whatever the table
pub fine_later : (sc : Scope) (old new : State) (x : Option Ty) → IsCarriedExpectation x → IsFineExpectation sc old x → IsFineExpectation sc new x
fine_later sc old new None h k = tt
fine_later sc old new (Some t) h k = carried_fine new sc t h k.heads
