-- Types of the carried kinds.
use Rattle.std.proofs.Common.{refl, sym, ◌∙◌, List, [], subst, Some, None}
use Rattle.infer_ctx.specs.Words.{Ty, unit, IsCarriedType, carried_bare, AreCarriedTypes, carried_tuple, carried_bool, carried_char, carried_integer, RawLiteral, InferenceResult, IsClosedTable, IsLiteralType}
use Rattle.hir_types.specs.declared.ty.Ty.TheVariants as ty
use Rattle.infer_ctx.specs.Words.hir_raw.declared.raw.RawLiteral.TheVariants as literal
use Rattle.infer_ctx.specs.Own.{IsCarriedTable}
use Rattle.infer_ctx.proofs.Words.{every_type}

-- ---- tables

pub table_closed : (t : InferenceResult) → IsCarriedTable t → IsClosedTable t
table_closed t h = every_type IsCarriedType _ t (λ s k. (carried_bare s k).closed) h

-- ---- lists

pub carried_tuple_of : (ts : List Ty) → AreCarriedTypes ts → IsCarriedType (ty.Tuple ts)
carried_tuple_of ts h = carried_tuple ts ∙ h

pub carried_unit : IsCarriedType unit
carried_unit = carried_tuple_of [] refl

-- ---- literals
pub carried_literal : (l : RawLiteral) (t : Ty) → IsLiteralType l t → IsCarriedType t
carried_literal (literal.Bool b) t h = subst (λ u. IsCarriedType u) (sym h) carried_bool
carried_literal (literal.Char c) t h = subst (λ u. IsCarriedType u) (sym h) carried_char
carried_literal (literal.Int digits (Some suffix)) t h = subst (λ u. IsCarriedType u) (sym h) (carried_integer suffix)
carried_literal (literal.Int digits None) t h = subst (λ u. IsCarriedType u) (sym h.1) (carried_integer h.0)
