-- What the samples of types with holes share: items and lists of types under assignments, and integer types.
use Rattle.std.proofs.Common.{ℕ, zero, suc, ◌≡◌, List, [], ◌∷◌, map, true, refl, sym, ap, subst, ◌∙◌, Some, slice_get}
use Rattle.hir_types.specs.declared.ids.CallableDefId.TheVariants as callable
use Rattle.infer_result.specs.Words.{IntegerTy, Ty, Ty-F, out-Ty, IsClosed, replaced_fn_def, types_args_folded, Assignment, with_holes, folded, integer_type, ty_fits, ty_fits_int, ty_fits_uint, ty_fits_fndef, arg_fits_ty, Scope, callable_params, has_params, type_args}
use Rattle.hir_types.specs.declared.ty.IntegerTy.TheVariants as integer
use Rattle.hir_types.specs.declared.ty.Ty.TheVariants as ty
use Rattle.infer_result.proofs.Words.{has_hole_fn_def}
use Rattle.infer_result.specs.Own.{IsKnown, has_unknown_int, has_unknown_uint, has_unknown_fn_def, arg_has_unknown_type}
use Rattle.infer_result.proofs.Samples.Small.{top_int, top_uint, top_bool}
use Rattle.infer_result.proofs.Samples.Calling.{function, item}

-- each of these has a property
abbrev pub AllIn : {A : Type 0} → (A → Type 0) → List A → Type 0
AllIn P [] = Unit {0}
AllIn P (x ∷ xs) = P x × AllIn P xs

pub each_in : {A : Type 0} (P : A → Type 0) (xs : List A) → AllIn P xs → (k : ℕ) (y : A) → slice_get xs k ≡ Some y → P y
each_in P [] h k y found = absurd (cc)
each_in P (x ∷ xs) h zero y found = (let same : x ≡ y = cc in subst P same h.0)
each_in P (x ∷ xs) h (suc k) y found = each_in P xs h.1 k y found

-- ---- integer types

pub known_integer : (i : IntegerTy) → IsKnown (integer_type i)
known_integer (integer.Int i) = has_unknown_int i
known_integer (integer.Uint i) = has_unknown_uint i

pub fits_integer : (sc : Scope) (i : IntegerTy) → ty_fits sc (integer_type i) ≡ true
fits_integer sc (integer.Int i) = ty_fits_int sc i
fits_integer sc (integer.Uint i) = ty_fits_uint sc i

pub bool_is_no_integer : (i : IntegerTy) → ty.Bool ≡ integer_type i → ⊥
bool_is_no_integer (integer.Int i) h = (let k : Ty-F.Bool ≡ Ty-F.Int i = sym top_bool ∙ (ap out-Ty h ∙ top_int i) in cc)
bool_is_no_integer (integer.Uint i) h = (let k : Ty-F.Bool ≡ Ty-F.Uint i = sym top_bool ∙ (ap out-Ty h ∙ top_uint i) in cc)

-- ---- the function of the facts, at one type

-- under an assignment it is at what the types are under it
pub item_under : (a : Assignment) (ts : List Ty) → folded a (item ts) ≡ item (map (folded a) ts)
item_under a ts = replaced_fn_def (with_holes a) (callable.FunctionId function) (type_args ts) ∙ ap (ty.FnDef (callable.FunctionId function)) (types_args_folded a ts)

pub closed_at : (s : Ty) → IsClosed s → IsClosed (item (s ∷ []))
closed_at s h = has_hole_fn_def (callable.FunctionId function) (s ∷ []) ∙ rw h refl

pub known_at : (s : Ty) → IsKnown s → IsKnown (item (s ∷ []))
known_at s h = has_unknown_fn_def (callable.FunctionId function) (type_args (s ∷ [])) ∙ rw (arg_has_unknown_type s ∙ h) refl

pub fits_at : (sc : Scope) (s : Ty) → has_params (callable_params sc.facts (callable.FunctionId function)) 1 ≡ true → ty_fits sc s ≡ true → ty_fits sc (item (s ∷ [])) ≡ true
fits_at sc s params h = ty_fits_fndef sc (callable.FunctionId function) (type_args (s ∷ [])) ∙ rw (params, arg_fits_ty sc s ∙ h) refl
