-- `{unknown}` stands in no type with holes: what an open hole falls back to is none.
use Rattle.std.proofs.Common.{ℕ, suc, ◌≡◌, true, false, List, [], ◌∷◌, refl, sym, subst, ◌∙◌, Some, slice_get}
use Rattle.std.specs.Prelude.{◌||◌}
use Rattle.std.specs.List.{list_any}
use Rattle.hir_types.specs.declared.ty.IntTy.TheVariants as int
use Rattle.hir_types.specs.declared.ty.IntegerTy.TheVariants as integer
use Rattle.infer_result.specs.Words.{Ty, replaced_var, replaced_int_var, with_holes, folded, Scope, type_args, fallback}
use Rattle.hir_types.specs.declared.ty.Ty.TheVariants as ty
use Rattle.infer_result.specs.Own.{IsGeneralType, general_hole, general_integer_hole, general_bool, general_char, general_integer, general_tuple, general_adt, general_item, general_param, has_unknown, arg_has_unknown, IsKnown, has_unknown_bool, has_unknown_char, has_unknown_tuple, has_unknown_adt, has_unknown_fn_def, has_unknown_param, has_unknown_error, has_unknown_var, has_unknown_int_var, arg_has_unknown_type}
use Rattle.infer_result.proofs.Samples.Holes.{known_integer}

none_unknown : (ts : List Ty) → ((k : ℕ) (u : Ty) → slice_get ts k ≡ Some u → IsKnown u) → list_any has_unknown ts ≡ false
none_unknown [] h = refl
none_unknown (t ∷ ts) h = rw (h 0 t refl, none_unknown ts (λ k u found. h (suc k) u found)) refl

args_unknown : (ts : List Ty) → list_any arg_has_unknown (type_args ts) ≡ list_any has_unknown ts
args_unknown [] = refl
args_unknown (t ∷ ts) = λ i. arg_has_unknown_type t i || args_unknown ts i

pub general_is_known : (sc : Scope) (t : Ty) → IsGeneralType sc t → IsKnown t
general_is_known sc _ (general_hole n) = has_unknown_var n
general_is_known sc _ (general_integer_hole n) = has_unknown_int_var n
general_is_known sc _ general_bool = has_unknown_bool
general_is_known sc _ general_char = has_unknown_char
general_is_known sc _ (general_integer i) = known_integer i
general_is_known sc _ (general_tuple ts parts) = has_unknown_tuple ts ∙ none_unknown ts (λ k u found. general_is_known sc u (parts k u found))
general_is_known sc _ (general_adt a ts count parts) = has_unknown_adt a (type_args ts) ∙ (args_unknown ts ∙ none_unknown ts (λ k u found. general_is_known sc u (parts k u found)))
general_is_known sc _ (general_item i ts count parts) = has_unknown_fn_def i (type_args ts) ∙ (args_unknown ts ∙ none_unknown ts (λ k u found. general_is_known sc u (parts k u found)))
general_is_known sc _ (general_param n below) = has_unknown_param n

-- `{unknown}` is none
pub unknown_is_not_general : (sc : Scope) → IsGeneralType sc ty.Error → ⊥
unknown_is_not_general sc h = let told : true ≡ false = sym has_unknown_error ∙ general_is_known sc ty.Error h in absurd (cc)

-- nor is `({unknown}, bool)`
abbrev pair : Ty
pair = ty.Tuple (ty.Error ∷ ty.Bool ∷ [])

pair_unknown : has_unknown pair ≡ true
pair_unknown = has_unknown_tuple (ty.Error ∷ ty.Bool ∷ []) ∙ rw has_unknown_error refl

pub pair_is_not_general : (sc : Scope) → IsGeneralType sc pair → ⊥
pair_is_not_general sc h = let told : true ≡ false = sym pair_unknown ∙ general_is_known sc pair h in absurd (cc)

-- what an open hole falls back to is none
pub fallen_back_is_not_general : (sc : Scope) (n : ℕ) → IsGeneralType sc (folded fallback (ty.Var n)) → ⊥
fallen_back_is_not_general sc n h = unknown_is_not_general sc (subst (IsGeneralType sc) (replaced_var (with_holes fallback) n) h)

-- but what one of integer types falls back to is
pub fallen_back_integer_is_general : (sc : Scope) (n : ℕ) → IsGeneralType sc (folded fallback (ty.IntVar n))
fallen_back_integer_is_general sc n = subst (IsGeneralType sc) (sym (replaced_int_var (with_holes fallback) n)) (general_integer (integer.Int int.I32))
