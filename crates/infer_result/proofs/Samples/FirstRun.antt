-- The table of the first run, `fn f() -> u8 { let x = 1u8; x }`, is typed; tables that are wrong at one node are not.
use Rattle.std.proofs.Common.{◌+◌, ◌<◌, ◌≡◌, inl, inr, Bool, true, false, List, [], ◌∷◌, refl, sym, ap, ◌∙◌, arith, Option, Some, None, slice_get, length}
use Rattle.hir_types.specs.declared.ids.ExprOrPatId.TheVariants as node
use Rattle.infer_result.specs.Words.{Ty, Ty-F, fold-roll-Ty, RawBody, Schedule, erased, has_hole, hole_arg, hole_step, hole_bound, hole_trait, IsClosed, initializer, tail, the_body, inner, IsSchedule, start, end, after, Fits, parts}
use Rattle.hir_types.specs.declared.ty.Ty.TheVariants as ty
use Rattle.infer_result.specs.Words.hir_raw.declared.raw.RawPath.TheVariants as path
use Rattle.infer_result.specs.Words.hir_raw.declared.raw.RawStmt.TheVariants as stmt
use Rattle.infer_result.specs.Words.hir_raw.declared.raw.RawExpr.TheVariants as expr
use Rattle.infer_result.specs.Words.hir_raw.declared.raw.RawPat.TheVariants as pat
use Rattle.infer_result.specs.Own.{empty_table, Column, entry_kind, index, col, IsLong, InferenceResult, TypeMismatch, BindingTy, mismatch, Given, Demand, ObeysOrMismatch, PatRule, IsTruePatMismatch, IsTrueDiagnostic, IsTruePatDiagnostic, IsBinder, NamesVariant, IsVariantPat, IsMisfit, IsMade, IsTyped}
use Rattle.infer_result.specs.Columns as column
use Rattle.infer_result.specs.declared.modes.BindingMode.TheVariants as mode
use Rattle.infer_result.proofs.Derived.{typed_by_schedule}
use Rattle.infer_result.proofs.Samples.Small.{scope_with, e, p, b, u8, u16, one_u8, plain, body_of, each_below, each_node, apart_by, asked, only, each_entry, TypesHave, all_types_by, closed_u8, u8_is_no_u16, u8_is_no_error, u8_differs_u16, each_placed, none_placed, no_pat_items}

abbrev body : RawBody
body =
    body_of (expr.Lit one_u8 ∷ expr.Path (path.Local (b 0)) ∷ expr.Block None (stmt.Let (p 0) None (Some (e 0)) None ∷ []) (Some (e 1)) ∷ []) 2
    (pat.Bind (b 0) None ∷ []) (plain ∷ [])

abbrev given : Given
given = record { scope = scope_with []; body = body; inputs = []; output = Some u8; aliases = [] }

abbrev schedule : Schedule
schedule = record { starts = 2 ∷ 4 ∷ 1 ∷ 3 ∷ 0 ∷ []; ends = 3 ∷ 5 ∷ 5 ∷ 4 ∷ 5 ∷ []; depths = 2 ∷ 2 ∷ 1 ∷ 2 ∷ 0 ∷ [] }

is_schedule : IsSchedule body schedule
is_schedule = record {
  starts_size = refl;
  ends_size = refl;
  first = refl;
  fits = each_node body (λ n. Fits body schedule (start body schedule n + 1) (parts body n)) ((omega arith, refl, tt), (((tt, tt), tt), (omega arith, refl, (omega arith, refl, (omega arith, refl, tt)))), (tt, tt));
  ends = each_node body (λ n. after body schedule (start body schedule n + 1) (parts body n) ≡ end body schedule n) (refl, (((tt, refl), refl), refl), (tt, refl));
  order = each_node body (λ n. start body schedule n < end body schedule n) (omega arith, (((tt, omega arith), omega arith), omega arith), (tt, omega arith));
  reached = each_node body (λ n. start body schedule n < end body schedule the_body) (omega arith, (((tt, omega arith), omega arith), omega arith), (tt, omega arith));
  apart = apart_by body schedule (the_body ∷ inner (node.ExprId (e 2)) ∷ inner (node.ExprId (e 0)) ∷ inner (node.PatId (p 0)) ∷ inner (node.ExprId (e 1)) ∷ []) (refl, (((tt, refl), refl), refl), (tt, refl));
}

abbrev table_of : List (Option Ty) → List (Option TypeMismatch) → InferenceResult
table_of types mismatches = record (empty_table given.body) {
  type_of_expr = types;
  type_of_pat = Some u8 ∷ [];
  type_of_binding = Some u8 ∷ [];
  binding_modes = Some mode.Move ∷ [];
  expr_mismatches = mismatches;
}

abbrev right : InferenceResult
right = table_of (Some u8 ∷ Some u8 ∷ Some u8 ∷ []) (None ∷ None ∷ None ∷ [])

right_long : (c : Column) → IsLong given.body (index c) (length (col right c))
right_long column.type_of_placeholder = tt
right_long _ = refl

right_closed : (c : Column) → TypesHave IsClosed (entry_kind c) (col right c)
right_closed column.type_of_expr = (closed_u8, (closed_u8, (closed_u8, tt)))
right_closed column.type_of_pat = (closed_u8, tt)
right_closed column.type_of_binding = (closed_u8, tt)
right_closed _ = tt

right_made : IsMade given right
right_made = record {
  shape = record {
    of_body = record { long = right_long };
    closed = all_types_by IsClosed right right_closed;
    modes = λ x. each_placed (λ k m. IsBinder body (p k)) right.binding_modes ((b 0, None, refl), tt) x.0;
    placeholders = none_placed given right refl;
    variants = record {
      exprs = λ x. each_entry (NamesVariant given.body x) right.expr_variants tt x.0;
      pats = λ x. each_entry (IsVariantPat given.body x) right.pat_variants tt x.0;
    };
    items = no_pat_items given right tt;
  };
  clauses = λ x h. each_below (λ k. ObeysOrMismatch given right (e k)) 3 x.0 (((tt, (u8, refl, refl)), (u8, refl, refl)), record { statements = ((u8, refl, (u8, refl, inl refl)), tt); type = u8; has = refl; ends = (u8, refl, inl refl) }) h;
  kinds = λ x h. each_below (λ k. PatRule given right (p k) (slice_get body.pats k)) 1 x.0 (tt, (u8, refl, refl, refl)) h;
  params = λ i q s found is. absurd (cc);
  bindings = λ v h. each_below (λ k. (s : Ty) × BindingTy right (b k) s) 1 v.0 (tt, (u8, refl)) h;
  body_clause = (u8, refl, inl refl);
  misfits = λ x. each_entry (IsMisfit given right x) right.expr_mismatches tt x.0;
  demands = λ x. each_entry (λ m. Demand given right x m.expected) right.expr_mismatches tt x.0;
  complaints = record {
    diagnostics = λ x. each_entry (IsTrueDiagnostic given right x) right.expr_diagnostics tt x.0;
    pat_diagnostics = λ x. each_entry (IsTruePatDiagnostic given x) right.pat_diagnostics tt x.0;
    pat_truths = λ x. each_entry (IsTruePatMismatch given right x) right.pat_mismatches tt x.0;
    seen = λ i x found. absurd (cc);
    said = λ i x found. absurd (cc);
  };
}

pub right_typed : IsTyped given right
right_typed = typed_by_schedule given right schedule is_schedule right_made

-- ---- tables that are wrong at one node

-- another type at the literal
pub other_type : IsTyped given (table_of (Some u16 ∷ Some u8 ∷ Some u8 ∷ []) (None ∷ None ∷ None ∷ [])) → ⊥
other_type h = (let c = h.clauses (e 0) (omega arith) in u8_is_no_u16 (sym c.2 ∙ sym (only u16 c.0 c.1)))

-- another type at the path
pub other_local : IsTyped given (table_of (Some u8 ∷ Some u16 ∷ Some u8 ∷ []) (None ∷ None ∷ None ∷ [])) → ⊥
other_local h = (let c = h.clauses (e 1) (omega arith) in u8_is_no_u16 (only u8 c.0 c.2 ∙ sym (only u16 c.0 c.1)))

-- another type at the block, and with it at the root
pub other_block : IsTyped given (table_of (Some u8 ∷ Some u8 ∷ Some u16 ∷ []) (None ∷ None ∷ None ∷ [])) → ⊥
other_block h =
    (let c = h.body_clause in
    let at : u16 ≡ c.0 = only u16 c.0 c.1 in
    elim c.2 [ inl same ↦ u8_differs_u16 (sym (ap erased at ∙ same)) | inr m ↦ (let clash = m.1 in cc) ])

-- a hole
pub a_hole : IsTyped given (table_of (Some u8 ∷ Some (ty.Var 0) ∷ Some u8 ∷ []) (None ∷ None ∷ None ∷ [])) → ⊥
a_hole h =
    (let closed : has_hole (ty.Var 0) ≡ false = h.shape.closed.each column.type_of_expr 1 (ty.Var 0) refl in
    let open_ : has_hole (ty.Var 0) ≡ true = ap has_hole (sym (ty.rolls-Var 0)) ∙ fold-roll-Ty Bool Bool Bool Bool hole_arg hole_step hole_bound hole_trait (Ty-F.Var 0) in
    let clash : false ≡ true = sym closed ∙ open_ in cc)

-- a node without a type
pub a_missing_entry : IsTyped given (table_of (Some u8 ∷ None ∷ Some u8 ∷ []) (None ∷ None ∷ None ∷ [])) → ⊥
a_missing_entry h = (let c = h.total.exprs (e 1) (omega arith) in let clash = c.1 in cc)

-- nothing but `{unknown}`
pub all_unknown : IsTyped given (table_of (Some ty.Error ∷ Some ty.Error ∷ Some ty.Error ∷ []) (None ∷ None ∷ None ∷ [])) → ⊥
all_unknown h =
    (let c = h.clauses (e 0) (omega arith) in
    u8_is_no_error (sym c.2 ∙ sym (only ty.Error c.0 c.1)))

-- ---- invented mismatches

-- at the tail, which has the type that is asked for
pub invented_at_tail : IsTyped given (table_of (Some u8 ∷ Some u8 ∷ Some u8 ∷ []) (None ∷ Some (mismatch u16 u8) ∷ None ∷ [])) → ⊥
invented_at_tail h =
    (let m = h.truths (e 1) (mismatch u16 u8) refl in
    let a = asked given schedule is_schedule _ (e 1) (inner (node.ExprId (e 2))) 2 tail u16 (record { node_is = omega arith; part = refl }) (λ r. (let is = r.is_if in cc)) m.demand in
    u8_is_no_u16 (only u8 u16 a))

-- at the initializer, of which nothing is asked
pub invented_at_initializer : IsTyped given (table_of (Some u8 ∷ Some u8 ∷ Some u8 ∷ []) (Some (mismatch u16 u8) ∷ None ∷ None ∷ [])) → ⊥
invented_at_initializer h =
    (let m = h.truths (e 0) (mismatch u16 u8) refl in
    asked given schedule is_schedule _ (e 0) (inner (node.ExprId (e 2))) 0 (initializer None) u16 (record { node_is = omega arith; part = refl }) (λ r. (let is = r.is_if in cc)) m.demand)

-- one at every node, each of the type itself
pub mismatches_everywhere : IsTyped given (table_of (Some u8 ∷ Some u8 ∷ Some u8 ∷ []) (Some (mismatch u8 u8) ∷ Some (mismatch u8 u8) ∷ Some (mismatch u8 u8) ∷ [])) → ⊥
mismatches_everywhere h = (h.truths (e 0) (mismatch u8 u8) refl).differ refl
