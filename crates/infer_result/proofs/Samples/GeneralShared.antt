-- `fn f(c: bool) { let x = if c { mk() } else { mk() }; }` where `fn mk<T>() -> T`: both calls share one hole, for which each
-- plain type may stand.
use Rattle.std.proofs.Common.{◌≡◌, List, [], ◌∷◌, refl, sym, ap, ◌∙◌, Some, None, slice_get}
use Rattle.hir_types.specs.declared.ids.CallableDefId.TheVariants as callable
use Rattle.infer_result.specs.Words.{DefWithBodyId, Ty, RawType, RawFn, RawBody, RawFacts, replaced_var, replaced_bool, replaced_tuple, Assignment, with_holes, folded, unit, IsPlainIn, plain_bool, Scope, scope_of, fallback}
use Rattle.hir_types.specs.declared.ids.DefWithBodyId.TheVariants as def
use Rattle.hir_types.specs.declared.ty.Const.TheVariants as const
use Rattle.hir_types.specs.declared.ty.IntTy.TheVariants as int
use Rattle.hir_types.specs.declared.ty.IntegerTy.TheVariants as integer
use Rattle.hir_types.specs.declared.ty.Ty.TheVariants as ty
use Rattle.infer_result.specs.Words.hir_raw.declared.raw.RawType.TheVariants as type
use Rattle.infer_result.specs.Words.hir_raw.declared.raw.RawParam.TheVariants as parameter
use Rattle.infer_result.specs.Words.hir_raw.declared.raw.RawPath.TheVariants as path
use Rattle.infer_result.specs.Words.hir_raw.declared.raw.RawStmt.TheVariants as stmt
use Rattle.infer_result.specs.Words.hir_raw.declared.raw.RawExpr.TheVariants as expr
use Rattle.infer_result.specs.Words.hir_raw.declared.raw.RawPat.TheVariants as pat
use Rattle.infer_result.specs.Own.{empty_table, General, InferenceResult, IsGeneralType, general_hole, general_bool, general_tuple, general_item, IsGeneralFor, HasTypesOf, IsPlainClosing}
use Rattle.infer_result.specs.declared.modes.BindingMode.TheVariants as mode
use Rattle.infer_result.proofs.Samples.Small.{e, p, b, w, u8, plain, body_with, function_of, facts_with, only, u8_is_no_bool}
use Rattle.infer_result.proofs.Samples.Calling.{function, item}
use Rattle.infer_result.proofs.Samples.Holes.{each_in, item_under}

abbrev pub types : List RawType
types = type.Param 0 ∷ type.Bool ∷ type.Tuple [] ∷ []

abbrev pub mk : RawFn
mk = function_of (parameter.Type ∷ []) [] (w 0)

abbrev pub body : RawBody
body =
    body_with (p 0 ∷ []) (
    expr.Path (path.Local (b 0))
    ∷ expr.Path (path.Function function) ∷ expr.Call (e 1) [] ∷ expr.Block None [] (Some (e 2))
    ∷ expr.Path (path.Function function) ∷ expr.Call (e 4) [] ∷ expr.Block None [] (Some (e 5))
    ∷ expr.If (e 0) (e 3) (Some (e 6)) ∷ expr.Block None (stmt.Let (p 1) None (Some (e 7)) None ∷ []) None ∷ []
    ) 8 (pat.Bind (b 0) None ∷ pat.Bind (b 1) None ∷ []) (plain ∷ plain ∷ [])

abbrev pub facts : RawFacts
facts = record (facts_with types (mk ∷ record (function_of [] (w 1 ∷ []) (w 2)) { body = Some (record { 0 = 0 }) } ∷ [])) { bodies = body ∷ [] }

abbrev pub f : DefWithBodyId
f = def.FunctionId (record { 0 = 1 })

abbrev pub scope : Scope
scope = scope_of facts f

-- ---- the types with a hole, and a table with one type at the first call and at the `if`, and one at the second call

abbrev pub hole : Ty
hole = ty.Var 0

abbrev pub general : General
general = record {
  exprs = ty.Bool ∷ item (hole ∷ []) ∷ hole ∷ hole ∷ item (hole ∷ []) ∷ hole ∷ hole ∷ hole ∷ unit ∷ [];
  pats = ty.Bool ∷ hole ∷ [];
  bindings = ty.Bool ∷ hole ∷ [];
}

abbrev pub table_at : Ty → Ty → InferenceResult
table_at s u = record (empty_table body) {
  type_of_expr = Some ty.Bool ∷ Some (item (s ∷ [])) ∷ Some s ∷ Some s ∷ Some (item (u ∷ [])) ∷ Some u ∷ Some u ∷ Some s ∷ Some unit ∷ [];
  type_of_pat = Some ty.Bool ∷ Some s ∷ [];
  type_of_binding = Some ty.Bool ∷ Some s ∷ [];
  binding_modes = Some mode.Move ∷ Some mode.Move ∷ [];
}

abbrev callee_is_general : IsGeneralType scope (item (hole ∷ []))
callee_is_general = general_item (callable.FunctionId function) (hole ∷ []) refl (each_in (IsGeneralType scope) (hole ∷ []) (general_hole 0, tt))

pub general_for : IsGeneralFor scope body general
general_for = record {
  exprs_count = refl;
  pats_count = refl;
  bindings_count = refl;
  exprs = each_in (IsGeneralType scope) general.exprs
      (general_bool, (callee_is_general, (general_hole 0, (general_hole 0, (callee_is_general, (general_hole 0, (general_hole 0, (general_hole 0, (general_tuple [] (each_in (IsGeneralType scope) [] tt), tt)))))))));
  pats = each_in (IsGeneralType scope) general.pats (general_bool, (general_hole 0, tt));
  bindings = each_in (IsGeneralType scope) general.bindings (general_bool, (general_hole 0, tt));
}

pub has_types : (a : Assignment) (s : Ty) → a.var 0 ≡ s → HasTypesOf general a (table_at s s)
has_types a s is =
    let own : s ≡ folded a hole = sym (replaced_var (with_holes a) 0 ∙ is) in
    let callee : item (s ∷ []) ≡ folded a (item (hole ∷ [])) = ap (λ u. item (u ∷ [])) own ∙ sym (item_under a (hole ∷ [])) in
    let truth : ty.Bool ≡ folded a ty.Bool = sym (replaced_bool (with_holes a)) in
    let empty : unit ≡ folded a unit = sym (replaced_tuple (with_holes a) []) in
    record {
      exprs = λ j. Some (truth j) ∷ Some (callee j) ∷ Some (own j) ∷ Some (own j) ∷ Some (callee j) ∷ Some (own j) ∷ Some (own j) ∷ Some (own j) ∷ Some (empty j) ∷ [];
      pats = λ j. Some (truth j) ∷ Some (own j) ∷ [];
      bindings = λ j. Some (truth j) ∷ Some (own j) ∷ [];
    }

-- ---- closings

-- each plain type may stand for the hole
pub plain_closes : (s : Ty) → IsPlainIn scope s → IsPlainClosing scope general (table_at s s)
plain_closes s is_plain = record {
  types = record { var = λ n. s; int_var = λ n. ty.Int int.I32; const_var = λ n. const.Unknown };
  are_plain = record { var = λ n. is_plain; int_var = λ n. (integer.Int int.I32, refl) };
  has = has_types (record { var = λ n. s; int_var = λ n. ty.Int int.I32; const_var = λ n. const.Unknown }) s refl;
}

-- the hole falls back to `{unknown}`
pub unknown_is_fallback : HasTypesOf general fallback (table_at ty.Error ty.Error)
unknown_is_fallback = has_types fallback ty.Error refl

pub bool_closes : IsPlainClosing scope general (table_at ty.Bool ty.Bool)
bool_closes = plain_closes ty.Bool plain_bool

-- but the same one at both calls
pub one_type_closes : (s u : Ty) → IsPlainClosing scope general (table_at s u) → s ≡ u
one_type_closes s u h =
    let first : s ≡ folded h.types hole = only s (folded h.types hole) (ap (λ xs. slice_get xs 2) h.has.exprs) in
    let second : u ≡ folded h.types hole = only u (folded h.types hole) (ap (λ xs. slice_get xs 5) h.has.exprs) in
    first ∙ sym second

pub two_types_close_not : IsPlainClosing scope general (table_at ty.Bool u8) → ⊥
two_types_close_not h = u8_is_no_bool (sym (one_type_closes ty.Bool u8 h))
