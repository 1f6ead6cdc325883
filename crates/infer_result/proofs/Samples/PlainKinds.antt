-- What the samples use of plain types and of types with holes: they name what the facts have, and plain ones have no hole.
use Rattle.std.proofs.Common.{ℕ, suc, ◌≡◌, true, false, List, [], ◌∷◌, refl, ap, ◌∙◌, Some, slice_get}
use Rattle.std.specs.Prelude.{◌&&◌}
use Rattle.std.specs.List.{list_any, list_all}
use Rattle.std.proofs.lemmas.List.{length-map}
use Rattle.std.proofs.lemmas.Bool.{lt-ltb}
use Rattle.hir_types.specs.declared.ty.GenericArg.TheVariants as arg
use Rattle.infer_result.specs.Words.{Ty, has_hole, IsClosed, ty_fits, arg_fits, ty_fits_bool, ty_fits_char, ty_fits_tuple, ty_fits_adt, ty_fits_fndef, ty_fits_param, ty_fits_var, ty_fits_intvar, arg_fits_ty, IsPlainIn, plain_bool, plain_char, plain_integer, plain_tuple, plain_adt, plain_param, Scope, adt_params, callable_params, has_params, type_args}
use Rattle.infer_result.proofs.Words.{has_hole_bool, has_hole_char, has_hole_integer, has_hole_tuple, has_hole_adt, has_hole_param}
use Rattle.infer_result.specs.Own.{IsGeneralType, general_hole, general_integer_hole, general_bool, general_char, general_integer, general_tuple, general_adt, general_item, general_param}
use Rattle.infer_result.proofs.Samples.Holes.{fits_integer}

-- a plain type is a type with holes that has none
pub plain_is_general : (sc : Scope) (t : Ty) → IsPlainIn sc t → IsGeneralType sc t
plain_is_general sc _ plain_bool = general_bool
plain_is_general sc _ plain_char = general_char
plain_is_general sc _ (plain_integer i) = general_integer i
plain_is_general sc _ (plain_tuple ts parts) = general_tuple ts (λ k u found. plain_is_general sc u (parts k u found))
plain_is_general sc _ (plain_adt a ts is_plain count parts) = general_adt a ts count (λ k u found. plain_is_general sc u (parts k u found))
plain_is_general sc _ (plain_param n below) = general_param n below

-- ---- no hole

none_open : (ts : List Ty) → ((k : ℕ) (u : Ty) → slice_get ts k ≡ Some u → IsClosed u) → list_any has_hole ts ≡ false
none_open [] h = refl
none_open (t ∷ ts) h = rw (h 0 t refl, none_open ts (λ k u found. h (suc k) u found)) refl

pub plain_is_closed : (sc : Scope) (t : Ty) → IsPlainIn sc t → IsClosed t
plain_is_closed sc _ plain_bool = has_hole_bool
plain_is_closed sc _ plain_char = has_hole_char
plain_is_closed sc _ (plain_integer i) = has_hole_integer i
plain_is_closed sc _ (plain_tuple ts parts) = has_hole_tuple ts ∙ none_open ts (λ k u found. plain_is_closed sc u (parts k u found))
plain_is_closed sc _ (plain_adt a ts is_plain count parts) = has_hole_adt a ts ∙ none_open ts (λ k u found. plain_is_closed sc u (parts k u found))
plain_is_closed sc _ (plain_param n below) = has_hole_param n

-- ---- what the facts have

all_fit : (sc : Scope) (ts : List Ty) → ((k : ℕ) (u : Ty) → slice_get ts k ≡ Some u → ty_fits sc u ≡ true) → list_all (ty_fits sc) ts ≡ true
all_fit sc [] h = refl
all_fit sc (t ∷ ts) h = λ i. h 0 t refl i && all_fit sc ts (λ k u found. h (suc k) u found) i

args_fit : (sc : Scope) (ts : List Ty) → ((k : ℕ) (u : Ty) → slice_get ts k ≡ Some u → ty_fits sc u ≡ true) → list_all (arg_fits sc) (type_args ts) ≡ true
args_fit sc [] h = refl
args_fit sc (t ∷ ts) h = λ i. (arg_fits_ty sc t ∙ h 0 t refl) i && args_fit sc ts (λ k u found. h (suc k) u found) i

pub general_fits : (sc : Scope) (t : Ty) → IsGeneralType sc t → ty_fits sc t ≡ true
general_fits sc _ (general_hole n) = ty_fits_var sc n
general_fits sc _ (general_integer_hole n) = ty_fits_intvar sc n
general_fits sc _ general_bool = ty_fits_bool sc
general_fits sc _ general_char = ty_fits_char sc
general_fits sc _ (general_integer i) = fits_integer sc i
general_fits sc _ (general_tuple ts parts) = ty_fits_tuple sc ts ∙ all_fit sc ts (λ k u found. general_fits sc u (parts k u found))
general_fits sc _ (general_adt a ts count parts) =
    ty_fits_adt sc a (type_args ts) ∙ (λ i. (ap (has_params (adt_params sc.facts a)) (length-map ts arg.Ty) ∙ count) i && args_fit sc ts (λ k u found. general_fits sc u (parts k u found)) i)
general_fits sc _ (general_item f ts count parts) =
    ty_fits_fndef sc f (type_args ts) ∙ (λ i. (ap (has_params (callable_params sc.facts f)) (length-map ts arg.Ty) ∙ count) i && args_fit sc ts (λ k u found. general_fits sc u (parts k u found)) i)
general_fits sc _ (general_param n below) = ty_fits_param sc n ∙ lt-ltb n sc.params below
