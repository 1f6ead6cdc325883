-- `fn f() -> u8 { let x = 1u8; }`: the block has the expected type, and the mismatch stands at it.
use Rattle.std.proofs.Common.{◌+◌, ◌<◌, ◌≡◌, inl, inr, List, [], ◌∷◌, refl, sym, ap, ◌∙◌, arith, Option, Some, None, slice_get, length}
use Rattle.hir_types.specs.declared.ids.ExprOrPatId.TheVariants as node
use Rattle.infer_result.specs.Words.{Ty, RawBody, Schedule, unit, erased, IsClosed, root, the_body, inner, IsSchedule, start, end, after, Fits, parts}
use Rattle.hir_types.specs.declared.ty.Ty.TheVariants as ty
use Rattle.infer_result.specs.Words.hir_raw.declared.raw.RawStmt.TheVariants as stmt
use Rattle.infer_result.specs.Words.hir_raw.declared.raw.RawExpr.TheVariants as expr
use Rattle.infer_result.specs.Words.hir_raw.declared.raw.RawPat.TheVariants as pat
use Rattle.infer_result.specs.Own.{empty_table, Column, entry_kind, index, col, IsLong, InferenceResult, TypeMismatch, BindingTy, mismatch, Given, Demand, ObeysOrMismatch, PatRule, IsTruePatMismatch, IsTrueDiagnostic, IsTruePatDiagnostic, IsBinder, NamesVariant, IsVariantPat, IsMisfit, IsMade, IsTyped}
use Rattle.infer_result.specs.Columns as column
use Rattle.infer_result.specs.declared.modes.BindingMode.TheVariants as mode
use Rattle.infer_result.proofs.Derived.{typed_by_schedule}
use Rattle.infer_result.proofs.Samples.Small.{scope_with, e, p, b, u8, one_u8, plain, body_of, each_below, each_node, apart_by, only, each_entry, TypesHave, all_types_by, each_placed, closed_u8, closed_unit, u8_differs_unit, u8_is_no_bool, bool_differs_unit, none_placed, no_pat_items}

abbrev body : RawBody
body = body_of (expr.Lit one_u8 ∷ expr.Block None (stmt.Let (p 0) None (Some (e 0)) None ∷ []) None ∷ []) 1 (pat.Bind (b 0) None ∷ []) (plain ∷ [])

abbrev given : Given
given = record { scope = scope_with []; body = body; inputs = []; output = Some u8; aliases = [] }

abbrev schedule : Schedule
schedule = record { starts = 2 ∷ 1 ∷ 3 ∷ 0 ∷ []; ends = 3 ∷ 4 ∷ 4 ∷ 4 ∷ []; depths = 2 ∷ 1 ∷ 2 ∷ 0 ∷ [] }

is_schedule : IsSchedule body schedule
is_schedule = record {
  starts_size = refl;
  ends_size = refl;
  first = refl;
  fits = each_node body (λ n. Fits body schedule (start body schedule n + 1) (parts body n)) ((omega arith, refl, tt), ((tt, tt), (omega arith, refl, (omega arith, refl, tt))), (tt, tt));
  ends = each_node body (λ n. after body schedule (start body schedule n + 1) (parts body n) ≡ end body schedule n) (refl, ((tt, refl), refl), (tt, refl));
  order = each_node body (λ n. start body schedule n < end body schedule n) (omega arith, ((tt, omega arith), omega arith), (tt, omega arith));
  reached = each_node body (λ n. start body schedule n < end body schedule the_body) (omega arith, ((tt, omega arith), omega arith), (tt, omega arith));
  apart = apart_by body schedule (the_body ∷ inner (node.ExprId (e 1)) ∷ inner (node.ExprId (e 0)) ∷ inner (node.PatId (p 0)) ∷ []) (refl, ((tt, refl), refl), (tt, refl));
}

abbrev table_of : List (Option Ty) → List (Option TypeMismatch) → InferenceResult
table_of types mismatches = record (empty_table given.body) {
  type_of_expr = types;
  type_of_pat = Some u8 ∷ [];
  type_of_binding = Some u8 ∷ [];
  binding_modes = Some mode.Move ∷ [];
  expr_mismatches = mismatches;
}

abbrev right : InferenceResult
right = table_of (Some u8 ∷ Some u8 ∷ []) (None ∷ Some (mismatch u8 unit) ∷ [])

right_long : (c : Column) → IsLong given.body (index c) (length (col right c))
right_long column.type_of_placeholder = tt
right_long _ = refl

right_closed : (c : Column) → TypesHave IsClosed (entry_kind c) (col right c)
right_closed column.type_of_expr = (closed_u8, (closed_u8, tt))
right_closed column.type_of_pat = (closed_u8, tt)
right_closed column.type_of_binding = (closed_u8, tt)
right_closed column.expr_mismatches = ((closed_u8, closed_unit), tt)
right_closed _ = tt

right_made : IsMade given right
right_made = record {
  shape = record {
    of_body = record { long = right_long };
    closed = all_types_by IsClosed right right_closed;
    modes = λ x. each_placed (λ k m. IsBinder body (p k)) right.binding_modes ((b 0, None, refl), tt) x.0;
    placeholders = none_placed given right refl;
    variants = record {
      exprs = λ x. each_entry (NamesVariant given.body x) right.expr_variants tt x.0;
      pats = λ x. each_entry (IsVariantPat given.body x) right.pat_variants tt x.0;
    };
    items = no_pat_items given right tt;
  };
  clauses = λ x h. each_below (λ k. ObeysOrMismatch given right (e k)) 2 x.0 ((tt, (u8, refl, refl)), record { statements = ((u8, refl, (u8, refl, inl refl)), tt); type = u8; has = refl; ends = inr refl }) h;
  kinds = λ x h. each_below (λ k. PatRule given right (p k) (slice_get body.pats k)) 1 x.0 (tt, (u8, refl, refl, refl)) h;
  params = λ i q s found is. absurd (cc);
  bindings = λ v h. each_below (λ k. (s : Ty) × BindingTy right (b k) s) 1 v.0 (tt, (u8, refl)) h;
  body_clause = (u8, refl, inl refl);
  misfits = λ x.
      each_placed (λ k. IsMisfit given right (e k)) right.expr_mismatches
      (record { differ = u8_differs_unit; actual = inr (inl (record { label = None; stmts = stmt.Let (p 0) None (Some (e 0)) None ∷ []; is_block = refl }), refl) }, tt) x.0;
  demands = λ x.
      each_placed (λ k (m : TypeMismatch). Demand given right (e k) m.expected) right.expr_mismatches
      (inl (record { parent = the_body; at_part = 0; role = root; stands = record { node_is = tt; part = refl }; asks = (refl, refl) }), tt) x.0;
  complaints = record {
    diagnostics = λ x. each_entry (IsTrueDiagnostic given right x) right.expr_diagnostics tt x.0;
    pat_diagnostics = λ x. each_entry (IsTruePatDiagnostic given x) right.pat_diagnostics tt x.0;
    pat_truths = λ x. each_entry (IsTruePatMismatch given right x) right.pat_mismatches tt x.0;
    seen = λ i x found. absurd (cc);
    said = λ i x found. absurd (cc);
  };
}

pub right_typed : IsTyped given right
right_typed = typed_by_schedule given right schedule is_schedule right_made

-- ---- refused

-- the block is at the expected type in silence
pub in_silence : IsTyped given (table_of (Some u8 ∷ Some u8 ∷ []) (None ∷ None ∷ [])) → ⊥
in_silence h =
    (let c = h.clauses (e 1) (omega arith) in
    let s : u8 ≡ c.type = only u8 c.type c.has in
    elim c.ends [ inl same ↦ u8_differs_unit (ap erased s ∙ sym same) | inr m ↦ (let clash = m in cc) ])

-- with the mismatch, but at a type that is neither the expected one nor `()`
pub another_type : IsTyped given (table_of (Some u8 ∷ Some ty.Bool ∷ []) (None ∷ Some (mismatch u8 unit) ∷ [])) → ⊥
another_type h =
    (let c = h.clauses (e 1) (omega arith) in
    let s : ty.Bool ≡ c.type = only ty.Bool c.type c.has in
    elim c.ends [
      | inl same ↦ bool_differs_unit (ap erased s ∙ sym same)
      | inr m ↦ (let k : mismatch c.type unit ≡ mismatch u8 unit = sym (only (mismatch u8 unit) (mismatch c.type unit) m) in
          u8_is_no_bool (sym (ap (λ (x : TypeMismatch). x.expected) k) ∙ sym s))
    ])
