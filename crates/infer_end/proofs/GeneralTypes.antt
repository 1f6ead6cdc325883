-- Types in hand as types with holes, and what plain types for their holes make of them.
use Rattle.std.specs.List.{list_all, list_any}
use Rattle.std.proofs.Common.{ℕ, suc, ◌≡◌, refl, List, [], ◌∷◌, Some, slice_get, ap, ◌∙◌, Bool, true, ◌&&◌, sym, subst, false, ◌||◌, map, length, true≢false}
use Rattle.std.proofs.lemmas.Bool.{ltb-true, lt-ltb}
use Rattle.std.proofs.lemmas.List.{length-map}
use Rattle.infer_end.specs.Words.{Ty, Assignment, with_holes, each_itself, composed, folded, replaced_bool, replaced_char, replaced_int, replaced_uint, replaced_var, replaced_int_var, replaced_tuple, replaced_param, is_carried_type, IsCarriedType, carried_bool, carried_char, carried_integer, carried_tuple, carried_adt, carried_param, Scope, has_params, adt_params, alias_params, type_args, IsPlainIn, plain_bool, plain_char, plain_integer, plain_tuple, plain_adt, plain_param, resolution, Triangular, bindings, IsGeneralType, AreGeneralTypes, general_hole, general_integer_hole, general_bool, general_char, general_integer, general_tuple, general_adt, general_item, general_param, GivesPlain, has_unknown, arg_has_unknown, has_unknown_bool, has_unknown_char, has_unknown_int, has_unknown_uint, has_unknown_var, has_unknown_int_var, has_unknown_tuple, has_unknown_adt, has_unknown_fn_def, has_unknown_param, arg_has_unknown_type, has_unknown_associated, InferenceContext, IsClosing, Closes, IsSound, item_params, HasFineHeads, Every}
use Rattle.hir_types.specs.declared.ty.IntegerTy.TheVariants as integer
use Rattle.hir_types.specs.declared.ty.Ty.TheVariants as ty
use Rattle.hir_types.specs.declared.head.Hole.TheVariants as hole_of
use Rattle.infer_end.proofs.Words.{closing_meets, every_at, every_from, heads_bool, heads_char, heads_integer, heads_param, heads_tuple, heads_adt, heads_fn_def, heads_associated, over_fine, adt_closed, fn_def_closed, carried_args, closing_respects, associated_closed, bound_heads, composed_closing}
use Rattle.infer_end.proofs.Words.infer_table.CompletionLaws.{closing_respects as resolved_respects}
use Rattle.infer_end.specs.Words.infer_table.Solutions.{log_of}
use Rattle.infer_end.specs.Words.infer_result.Unknown.{IsKnown}
use Rattle.infer_end.proofs.Fits.{item_counted}
use Rattle.std.specs.Cmp.{first_so}

all_so : (f : Ty → Bool) (ts : List Ty) → ((k : ℕ) (u : Ty) → slice_get ts k ≡ Some u → f u ≡ true) → list_all f ts ≡ true
all_so f [] h = refl
all_so f (t ∷ ts) h = ap (λ (b : Bool). b && list_all f ts) (h 0 t refl) ∙ all_so f ts (λ k u at. h (suc k) u at)

module _ (sc : Scope) where
  -- ---- types in hand

  each_general : (ts : List Ty) → Every (IsGeneralType sc) ts → AreGeneralTypes sc ts
  each_general ts h k u at = every_at (IsGeneralType sc) ts k u h at

  -- where no associated type that stays may be one
  pub fine_general : sc.associated ≡ false → (t : Ty) → HasFineHeads sc t → IsGeneralType sc t
  fine_general none = over_fine sc (IsGeneralType sc) (record {
    bool = general_bool;
    char = general_char;
    int = λ i. general_integer (integer.Int i);
    uint = λ i. general_integer (integer.Uint i);
    var = λ n. general_hole n;
    int_var = λ n. general_integer_hole n;
    tuple = λ ts h. general_tuple ts (each_general ts h);
    adt = λ id ts k h. general_adt id ts k (each_general ts h);
    fn_def = λ id ts k h. general_item id ts (item_counted sc.facts id (length ts) k) (each_general ts h);
    param = λ n k. general_param n (ltb-true n sc.params k);
    associated = λ id ts k h. absurd (true≢false (sym (first_so sc.associated (has_params (alias_params sc.facts id) (length ts)) k) ∙ none));
  })

  none_unknown : (ts : List Ty) → Every IsKnown ts → list_any has_unknown ts ≡ false
  none_unknown [] h = refl
  none_unknown (t ∷ ts) h = ap (λ (b : Bool). b || list_any has_unknown ts) h.0 ∙ none_unknown ts h.1

  as_types : (ts : List Ty) → list_any arg_has_unknown (type_args ts) ≡ list_any has_unknown ts
  as_types [] = refl
  as_types (t ∷ ts) = λ i. arg_has_unknown_type t i || as_types ts i

  pub fine_known : (t : Ty) → HasFineHeads sc t → IsKnown t
  fine_known = over_fine sc IsKnown (record {
    bool = has_unknown_bool;
    char = has_unknown_char;
    int = has_unknown_int;
    uint = has_unknown_uint;
    var = has_unknown_var;
    int_var = has_unknown_int_var;
    tuple = λ ts h. has_unknown_tuple ts ∙ none_unknown ts h;
    adt = λ id ts k h. has_unknown_adt id (type_args ts) ∙ (as_types ts ∙ none_unknown ts h);
    fn_def = λ id ts k h. has_unknown_fn_def id (type_args ts) ∙ (as_types ts ∙ none_unknown ts h);
    param = λ n k. has_unknown_param n;
    associated = λ id ts k h. has_unknown_associated id (type_args ts) ∙ (as_types ts ∙ none_unknown ts h);
  })

  -- ---- under an assignment of types in hand

  module _ (a : Assignment) (var : (n : ℕ) → HasFineHeads sc (a.var n)) (int_var : (n : ℕ) → HasFineHeads sc (a.int_var n)) where
    by_heads : (t u : Ty) → folded a t ≡ u → HasFineHeads sc u → HasFineHeads sc (folded a t)
    by_heads t u e h = subst (λ x. HasFineHeads sc x) (sym e) h

    every_under : (ts : List Ty) → Every (λ t. HasFineHeads sc (folded a t)) ts → Every (HasFineHeads sc) (map (folded a) ts)
    every_under [] h = tt
    every_under (t ∷ ts) h = (h.0, every_under ts h.1)

    pub heads_under : (t : Ty) → HasFineHeads sc t → HasFineHeads sc (folded a t)
    heads_under = over_fine sc (λ t. HasFineHeads sc (folded a t)) (record {
      bool = by_heads ty.Bool ty.Bool (replaced_bool (with_holes a)) (heads_bool sc);
      char = by_heads ty.Char ty.Char (replaced_char (with_holes a)) (heads_char sc);
      int = λ i. by_heads (ty.Int i) (ty.Int i) (replaced_int (with_holes a) i) (heads_integer sc (integer.Int i));
      uint = λ i. by_heads (ty.Uint i) (ty.Uint i) (replaced_uint (with_holes a) i) (heads_integer sc (integer.Uint i));
      var = λ n. by_heads (ty.Var n) (a.var n) (replaced_var (with_holes a) n) (var n);
      int_var = λ n. by_heads (ty.IntVar n) (a.int_var n) (replaced_int_var (with_holes a) n) (int_var n);
      tuple = λ ts h. by_heads (ty.Tuple ts) (ty.Tuple (map (folded a) ts)) (replaced_tuple (with_holes a) ts) (heads_tuple sc (map (folded a) ts) (every_under ts h));
      adt = λ id ts k h. by_heads (ty.Adt id (type_args ts)) (ty.Adt id (type_args (map (folded a) ts))) (adt_closed a id ts) (heads_adt sc id (map (folded a) ts) (ap (has_params (adt_params sc.facts id)) (length-map ts (folded a)) ∙ k) (every_under ts h));
      fn_def = λ id ts k h. by_heads (ty.FnDef id (type_args ts)) (ty.FnDef id (type_args (map (folded a) ts))) (fn_def_closed a id ts) (heads_fn_def sc id (map (folded a) ts) (ap (has_params (item_params sc.facts id)) (length-map ts (folded a)) ∙ k) (every_under ts h));
      param = λ n k. by_heads (ty.Param n) (ty.Param n) (replaced_param (with_holes a) n) (heads_param sc n k);
      associated = λ id ts k h. by_heads (ty.AssociatedType id (type_args ts)) (ty.AssociatedType id (type_args (map (folded a) ts))) (associated_closed a id ts) (heads_associated sc id (map (folded a) ts) (ap (λ n. sc.associated && has_params (alias_params sc.facts id) n) (length-map ts (folded a)) ∙ k) (every_under ts h));
    })

  -- ---- plain types

  pub plain_heads : (t : Ty) → IsPlainIn sc t → HasFineHeads sc t
  plain_heads _ plain_bool = heads_bool sc
  plain_heads _ plain_char = heads_char sc
  plain_heads _ (plain_integer i) = heads_integer sc i
  plain_heads _ (plain_tuple ts each) = heads_tuple sc ts (every_from (HasFineHeads sc) ts (λ k u at. plain_heads u (each k u at)))
  plain_heads _ (plain_adt a ts adt count each) = heads_adt sc a ts count (every_from (HasFineHeads sc) ts (λ k u at. plain_heads u (each k u at)))
  plain_heads _ (plain_param n within) = heads_param sc n (lt-ltb n sc.params within)

  pub plain_carried : (t : Ty) → IsPlainIn sc t → IsCarriedType t
  plain_carried _ plain_bool = carried_bool
  plain_carried _ plain_char = carried_char
  plain_carried _ (plain_integer i) = carried_integer i
  plain_carried _ (plain_tuple ts each) = carried_tuple ts ∙ all_so is_carried_type ts (λ k u at. plain_carried u (each k u at))
  plain_carried _ (plain_adt a ts adt count each) = carried_adt a (type_args ts) ∙ carried_args each_itself ts (all_so is_carried_type ts (λ k u at. plain_carried u (each k u at)))
  plain_carried _ (plain_param n within) = carried_param n

  -- ---- plain types for the holes that are open

  module _ (a : Assignment) (gives : GivesPlain sc a) where
    plain_var : (n : ℕ) → HasFineHeads sc (a.var n)
    plain_var n = plain_heads (a.var n) (gives.var n)

    plain_int_var : (n : ℕ) → HasFineHeads sc (a.int_var n)
    plain_int_var n = (let i = gives.int_var n in subst (λ t. HasFineHeads sc t) (sym i.1) (heads_integer sc i.0))

    plain_closing : IsClosing a
    plain_closing = record { var = λ n. plain_carried (a.var n) (gives.var n); int_var = gives.int_var }

    module _ (c : InferenceContext) (s : IsSound sc c) where
      -- what is known of each hole, with these types put in
      abbrev pub chosen : Assignment
      chosen = composed a (resolution (bindings c.goals.table))

      chosen_var : (n : ℕ) → HasFineHeads sc (chosen.var n)
      chosen_var n = heads_under a plain_var plain_int_var ((resolution (bindings c.goals.table)).var n) (bound_heads sc c.goals.table s.bound (hole_of.Ty n))

      chosen_int_var : (n : ℕ) → HasFineHeads sc (chosen.int_var n)
      chosen_int_var n = heads_under a plain_var plain_int_var ((resolution (bindings c.goals.table)).int_var n) (bound_heads sc c.goals.table s.bound (hole_of.Int n))

      pub chosen_heads : (t : Ty) → HasFineHeads sc t → HasFineHeads sc (folded chosen t)
      chosen_heads = heads_under chosen chosen_var chosen_int_var

      pub chosen_closes : Triangular (log_of (bindings c.goals.table)) → Closes chosen c
      chosen_closes acyclic = record {
        closing = composed_closing sc c.goals.table s.bound a plain_closing (resolved_respects a c.goals.table acyclic (closing_respects a plain_closing));
        meets = closing_meets a c.goals.table acyclic;
      }

  -- ---- what is known of the holes put in

  module _ (c : InferenceContext) (s : IsSound sc c) where
    pub known_heads : (t : Ty) → HasFineHeads sc t → HasFineHeads sc (folded (resolution (bindings c.goals.table)) t)
    known_heads = heads_under (resolution (bindings c.goals.table)) (λ n. bound_heads sc c.goals.table s.bound (hole_of.Ty n)) (λ n. bound_heads sc c.goals.table s.bound (hole_of.Int n))
