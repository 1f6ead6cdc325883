-- `fn f() { let x = id(1); }` where `fn id<T>(x: T) -> T`: one hole of integer types stands throughout, and each integer type
-- may stand for it.
use Rattle.std.proofs.Common.{ℕ, ◌+◌, ◌<◌, ◌≡◌, inl, List, [], ◌∷◌, length, refl, sym, ap, subst, ◌∙◌, arith, Some, None, slice_get}
use Rattle.std.specs.Prelude.{codes, IsTrue}
use Rattle.hir_types.specs.declared.ids.CallableDefId.TheVariants as callable
use Rattle.infer_result.specs.Words.{DefWithBodyId, IntegerTy, Ty, RawType, RawAdt, RawVariant, RawFn, RawBody, RawFacts, Schedule, erased, IsClosed, replaced_int_var, replaced_tuple, param_at, Assignment, with_holes, folded, integer_type, unit, ty_fits, ty_fits_tuple, let_pattern, the_body, inner, IsSchedule, start, end, after, Fits, parts, plain_bool, Scope, scope_of, fn_signature, at_args, filled_within, written_type, fallback, fn_aliases, variant_aliases}
use Rattle.hir_types.specs.declared.ids.DefWithBodyId.TheVariants as def
use Rattle.hir_types.specs.declared.ids.ExprOrPatId.TheVariants as node
use Rattle.hir_types.specs.declared.ty.Const.TheVariants as const
use Rattle.hir_types.specs.declared.ty.IntTy.TheVariants as int
use Rattle.hir_types.specs.declared.ty.UintTy.TheVariants as uint
use Rattle.hir_types.specs.declared.ty.IntegerTy.TheVariants as integer
use Rattle.hir_types.specs.declared.ty.Ty.TheVariants as ty
use Rattle.infer_result.specs.Words.hir_raw.declared.raw.RawType.TheVariants as type
use Rattle.infer_result.specs.Words.hir_raw.declared.raw.RawParam.TheVariants as parameter
use Rattle.infer_result.specs.Words.hir_raw.declared.raw.RawLiteral.TheVariants as literal
use Rattle.infer_result.specs.Words.hir_raw.declared.raw.RawPath.TheVariants as path
use Rattle.infer_result.specs.Words.hir_raw.declared.raw.RawStmt.TheVariants as stmt
use Rattle.infer_result.specs.Words.hir_raw.declared.raw.RawExpr.TheVariants as expr
use Rattle.infer_result.specs.Words.hir_raw.declared.raw.RawPat.TheVariants as pat
use Rattle.infer_result.proofs.Words.{has_hole_integer}
use Rattle.infer_result.specs.Own.{empty_table, Column, Entry, entry_kind, index, col, IsIn, IsLong, AreComplaints, General, InferenceResult, IsBinder, NamesVariant, IsVariantPat, AllTypes, IsDerivation, IsGeneralType, general_integer_hole, general_tuple, general_item, IsGeneralFor, HasTypesOf, IsPlainClosing, closed_by, IsGeneralOf, Given, ObeysExpression, ObeysPattern, HasTy, PatTy, BindingTy, given, IsKnown, has_unknown_tuple}
use Rattle.infer_result.specs.Columns as column
use Rattle.infer_result.specs.declared.modes.BindingMode.TheVariants as mode
use Rattle.infer_result.proofs.NoNeeds.{no_gaps, needs_hold}
use Rattle.infer_result.proofs.Samples.Small.{e, p, b, w, plain, body_of, function_of, facts_with, each_below, each_node, apart_by, comes, only, each_entry, TypesHave, all_types_by, each_placed, closed_unit, none_placed, no_pat_items}
use Rattle.infer_result.proofs.Samples.Calling.{function, item}
use Rattle.infer_result.proofs.Samples.Holes.{each_in, known_integer, fits_integer, bool_is_no_integer, item_under, closed_at, known_at, fits_at}

abbrev pub types : List RawType
types = type.Param 0 ∷ type.Tuple [] ∷ []

abbrev pub id : RawFn
id = function_of (parameter.Type ∷ []) (w 0 ∷ []) (w 0)

abbrev pub body : RawBody
body =
    body_of (expr.Path (path.Function function) ∷ expr.Lit (literal.Int (codes "1") None) ∷ expr.Call (e 0) (e 1 ∷ []) ∷ expr.Block None (stmt.Let (p 0) None (Some (e 2)) None ∷ []) None ∷ []) 3
    (pat.Bind (b 0) None ∷ []) (plain ∷ [])

abbrev pub facts : RawFacts
facts = record (facts_with types (id ∷ record (function_of [] [] (w 1)) { body = Some (record { 0 = 0 }) } ∷ [])) { bodies = body ∷ [] }

abbrev pub f : DefWithBodyId
f = def.FunctionId (record { 0 = 1 })

abbrev pub scope : Scope
scope = scope_of facts f

abbrev pub Here : Given
Here = given facts f body

written_param : written_type types (w 0) ≡ ty.Param 0
unfolding filled_within
written_param = refl

written_unit : written_type types (w 1) ≡ unit
unfolding filled_within
written_unit = refl

-- the type of the input and of the output of `id` at this type
pub at_type : (s : Ty) → at_args (s ∷ []) (written_type types (w 0)) ≡ s
at_type s = ap (at_args (s ∷ [])) written_param ∙ param_at (s ∷ []) 0 s refl

abbrev schedule : Schedule
schedule = record { starts = 3 ∷ 4 ∷ 2 ∷ 1 ∷ 5 ∷ 0 ∷ []; ends = 4 ∷ 5 ∷ 5 ∷ 6 ∷ 6 ∷ 6 ∷ []; depths = 3 ∷ 3 ∷ 2 ∷ 1 ∷ 2 ∷ 0 ∷ [] }

is_schedule : IsSchedule body schedule
is_schedule = record {
  starts_size = refl;
  ends_size = refl;
  first = refl;
  fits = each_node body (λ n. Fits body schedule (start body schedule n + 1) (parts body n))
      ((omega arith, refl, tt), ((((tt, tt), tt), (omega arith, refl, (omega arith, refl, tt))), (omega arith, refl, (omega arith, refl, tt))), (tt, tt));
  ends = each_node body (λ n. after body schedule (start body schedule n + 1) (parts body n) ≡ end body schedule n) (refl, ((((tt, refl), refl), refl), refl), (tt, refl));
  order = each_node body (λ n. start body schedule n < end body schedule n) (omega arith, ((((tt, omega arith), omega arith), omega arith), omega arith), (tt, omega arith));
  reached = each_node body (λ n. start body schedule n < end body schedule the_body) (omega arith, ((((tt, omega arith), omega arith), omega arith), omega arith), (tt, omega arith));
  apart = apart_by body schedule (the_body ∷ inner (node.ExprId (e 3)) ∷ inner (node.ExprId (e 2)) ∷ inner (node.ExprId (e 0)) ∷ inner (node.ExprId (e 1)) ∷ inner (node.PatId (p 0)) ∷ [])
      (refl, ((((tt, refl), refl), refl), refl), (tt, refl));
}

-- ---- the types with a hole, and a table with this type in its place

abbrev pub hole : Ty
hole = ty.IntVar 0

abbrev pub general : General
general = record { exprs = item (hole ∷ []) ∷ hole ∷ hole ∷ unit ∷ []; pats = hole ∷ []; bindings = hole ∷ [] }

abbrev pub table_at : Ty → InferenceResult
table_at s = record (empty_table body) {
  type_of_expr = Some (item (s ∷ [])) ∷ Some s ∷ Some s ∷ Some unit ∷ [];
  type_of_pat = Some s ∷ [];
  type_of_binding = Some s ∷ [];
  binding_modes = Some mode.Move ∷ [];
}

abbrev pub i32 : Ty
i32 = ty.Int int.I32

general_for : IsGeneralFor scope body general
general_for = record {
  exprs_count = refl;
  pats_count = refl;
  bindings_count = refl;
  exprs = each_in (IsGeneralType scope) general.exprs (general_item (callable.FunctionId function) (hole ∷ []) refl (each_in (IsGeneralType scope) (hole ∷ []) (general_integer_hole 0, tt)), (general_integer_hole 0, (general_integer_hole 0, (general_tuple [] (each_in (IsGeneralType scope) [] tt), tt))));
  pats = each_in (IsGeneralType scope) general.pats (general_integer_hole 0, tt);
  bindings = each_in (IsGeneralType scope) general.bindings (general_integer_hole 0, tt);
}

pub has_types : (a : Assignment) (s : Ty) → a.int_var 0 ≡ s → HasTypesOf general a (table_at s)
has_types a s is =
    let own : s ≡ folded a hole = sym (replaced_int_var (with_holes a) 0 ∙ is) in
    let callee : item (s ∷ []) ≡ folded a (item (hole ∷ [])) = ap (λ u. item (u ∷ [])) own ∙ sym (item_under a (hole ∷ [])) in
    let empty : unit ≡ folded a unit = sym (replaced_tuple (with_holes a) []) in
    record {
      exprs = λ j. Some (callee j) ∷ Some (own j) ∷ Some (own j) ∷ Some (empty j) ∷ [];
      pats = λ j. Some (own j) ∷ [];
      bindings = λ j. Some (own j) ∷ [];
    }

-- ---- closings

-- each integer type may stand for the hole
pub integer_closes : (i : IntegerTy) → IsPlainClosing scope general (table_at (integer_type i))
integer_closes i = record {
  types = record { var = λ n. ty.Bool; int_var = λ n. integer_type i; const_var = λ n. const.Unknown };
  are_plain = record { var = λ n. plain_bool; int_var = λ n. (i, refl) };
  has = has_types (record { var = λ n. ty.Bool; int_var = λ n. integer_type i; const_var = λ n. const.Unknown }) (integer_type i) refl;
}

pub i32_closes : IsPlainClosing scope general (table_at i32)
i32_closes = integer_closes (integer.Int int.I32)

pub u8_closes : IsPlainClosing scope general (table_at (ty.Uint uint.U8))
u8_closes = integer_closes (integer.Uint uint.U8)

-- `i32` is what the hole falls back to
pub i32_is_fallback : HasTypesOf general fallback (table_at i32)
i32_is_fallback = has_types fallback i32 refl

-- but no other type may
pub bool_closes_not : IsPlainClosing scope general (table_at ty.Bool) → ⊥
bool_closes_not h =
    let own : ty.Bool ≡ folded h.types hole = only ty.Bool (folded h.types hole) (ap (λ xs. slice_get xs 1) h.has.exprs) in
    let (i, is) = h.are_plain.int_var 0 in
    bool_is_no_integer i (own ∙ (replaced_int_var (with_holes h.types) 0 ∙ is))

-- ---- derivations

types_have : (P : Ty → Type 0) (s : Ty) → P (item (s ∷ [])) → P s → P unit → (c : Column) → TypesHave P (entry_kind c) (col (table_at s) c)
types_have P s callee own empty column.type_of_expr = (callee, (own, (own, (empty, tt))))
types_have P s callee own empty column.type_of_pat = (own, tt)
types_have P s callee own empty column.type_of_binding = (own, tt)
types_have P s callee own empty _ = tt

all_types : (P : Ty → Type 0) (s : Ty) → P (item (s ∷ [])) → P s → P unit → AllTypes P (table_at s)
all_types P s callee own empty = all_types_by P (table_at s) (types_have P s callee own empty)

call_obeys : (s : Ty) → ObeysExpression Here (table_at s) (e 2)
call_obeys s = inl (record {
  signature = fn_signature types id;
  types = s ∷ [];
  is_callee = record { item = callable.FunctionId function; has = refl; signature = refl };
  arguments = inl (inl (s, refl, ap erased (sym (at_type s))), tt);
  has = subst (HasTy (table_at s) (e 2)) (sym (at_type s)) refl;
})

pattern_obeys : (s : Ty) → ObeysPattern Here (table_at s) (p 0)
pattern_obeys s = record {
  incoming = λ u into. (s, refl, inl (only s u (comes Here schedule is_schedule (table_at s) (p 0) (inner (node.ExprId (e 3))) 1 (let_pattern None (Some (e 2))) u (record { node_is = omega arith; part = refl }) into)));
  kind = (s, refl, refl, refl);
}

no_complaint : (s : Ty) (c : Column) → AreComplaints (entry_kind c) → (n : ℕ) (x : Entry c) → IsIn (table_at s) c n x → ⊥
no_complaint s column.expr_mismatches is = each_entry (λ x. ⊥) (table_at s).expr_mismatches tt
no_complaint s column.expr_diagnostics is = each_entry (λ x. ⊥) (table_at s).expr_diagnostics tt
no_complaint s column.pat_mismatches is = each_entry (λ x. ⊥) (table_at s).pat_mismatches tt
no_complaint s column.pat_diagnostics is = each_entry (λ x. ⊥) (table_at s).pat_diagnostics tt
no_complaint s _ is = absurd is

is_long : (s : Ty) (c : Column) → IsLong body (index c) (length (col (table_at s) c))
is_long s column.type_of_placeholder = tt
is_long s _ = refl

-- at each integer type the table is one
pub integer_derives : (i : IntegerTy) → IsDerivation facts f (table_at (integer_type i))
integer_derives i = let s : Ty = integer_type i in record {
  body = body;
  is_body = refl;
  shape = record {
    of_body = record { long = is_long s };
    closed = all_types IsClosed s (closed_at s (has_hole_integer i)) (has_hole_integer i) closed_unit;
    modes = λ x. each_placed (λ k m. IsBinder body (p k)) (table_at s).binding_modes ((b 0, None, refl), tt) x.0;
    placeholders = none_placed Here (table_at s) refl;
    variants = record {
      exprs = λ x. each_entry (NamesVariant body x) (table_at s).expr_variants tt x.0;
      pats = λ x. each_entry (IsVariantPat body x) (table_at s).pat_variants tt x.0;
    };
    items = no_pat_items Here (table_at s) tt;
  };
  total = record {
    exprs = λ x h. each_below (λ k. (u : Ty) × HasTy (table_at s) (e k) u) 4 x.0 ((((tt, (item (s ∷ []), refl)), (s, refl)), (s, refl)), (unit, refl)) h;
    pats = λ x h. each_below (λ k. (u : Ty) × PatTy (table_at s) (p k) u) 1 x.0 (tt, (s, refl)) h;
    bindings = λ v h. each_below (λ k. (u : Ty) × BindingTy (table_at s) (b k) u) 1 v.0 (tt, (s, refl)) h;
  };
  known = all_types IsKnown s (known_at s (known_integer i)) (known_integer i) (has_unknown_tuple []);
  fit = all_types (λ u. IsTrue (ty_fits scope u)) s (fits_at scope s refl (fits_integer scope i)) (fits_integer scope i) (ty_fits_tuple scope []);
  clean = record {
    complaints = no_complaint s;
    gaps = no_gaps (table_at s) refl refl;
  };
  exprs = λ x h.
      each_below (λ k. ObeysExpression Here (table_at s) (e k)) 4 x.0
      ((((tt, (s ∷ [], refl, refl)), (s, refl, (i, refl))), call_obeys s), record { statements = ((s, refl, (s, refl, inl refl)), tt); type = unit; has = refl; ends = refl }) h;
  pats = λ x h. each_below (λ k. ObeysPattern Here (table_at s) (p k)) 1 x.0 (tt, pattern_obeys s) h;
  root = (unit, refl, ap erased (sym written_unit));
  goals = needs_hold facts (each_in (λ (x : RawFn). x.preds ≡ []) facts.fns (refl, (refl, tt))) (each_in (λ (x : RawAdt). x.preds ≡ []) facts.adts tt) (each_in (λ (x : RawFn). fn_aliases facts.types x ≡ []) facts.fns (refl, (refl, tt))) (each_in (λ (x : RawVariant). variant_aliases facts.types x ≡ []) facts.variants tt) f body (table_at s);
}

pub i32_derives : IsDerivation facts f (table_at i32)
i32_derives = integer_derives (integer.Int int.I32)

pub u8_derives : IsDerivation facts f (table_at (ty.Uint uint.U8))
u8_derives = integer_derives (integer.Uint uint.U8)

-- a literal that is an integer is not at `bool`, so the table at that is none
literal_obeys_not : ObeysExpression Here (table_at ty.Bool) (e 1) → ⊥
literal_obeys_not (u, has, (i, is)) = (let same : ty.Bool ≡ u = only ty.Bool u has in bool_is_no_integer i (same ∙ is))

pub bool_derives_not : IsDerivation facts f (table_at ty.Bool) → ⊥
bool_derives_not h =
    let same : body ≡ h.body = (let found : Some body ≡ Some h.body = h.is_body in cc) in
    literal_obeys_not (subst (λ (c : RawBody). ObeysExpression (given facts f c) (table_at ty.Bool) (e 1)) (sym same) (h.exprs (e 1) (subst (λ (c : RawBody). 1 < length c.exprs) same (omega arith))))

-- ---- so these types are those of the table at `i32`

closing_is : (a : Assignment) (s u : Ty) → a.int_var 0 ≡ s → table_at s ≡ closed_by a general (table_at u)
closing_is a s u is = let h = has_types a s is in λ j. record (table_at u) { type_of_expr = h.exprs j; type_of_pat = h.pats j; type_of_binding = h.bindings j }

pub is_general : IsGeneralOf facts f (table_at i32) general
is_general = record {
  body = body;
  is_body = refl;
  types = general_for;
  falls_back = i32_is_fallback;
  closings = λ structs clean a plain_types. subst (IsDerivation facts f) (closing_is a (integer_type (plain_types.int_var 0).0) i32 (plain_types.int_var 0).1) (integer_derives (plain_types.int_var 0).0);
}
