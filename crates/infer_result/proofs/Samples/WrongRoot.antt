-- `fn f() -> u8 { true }`: its table with the mismatch at `true` is typed; tables with another mismatch, or none, are not.
use Rattle.std.proofs.Common.{◌+◌, ◌<◌, ◌≡◌, inl, inr, true, List, [], ◌∷◌, refl, sym, ap, ◌∙◌, arith, Option, Some, None, length}
use Rattle.hir_types.specs.declared.ids.ExprOrPatId.TheVariants as node
use Rattle.infer_result.specs.Words.{Ty, RawBody, Schedule, erased, IsClosed, root, tail, the_body, inner, IsSchedule, start, end, after, Fits, parts}
use Rattle.hir_types.specs.declared.ty.Ty.TheVariants as ty
use Rattle.infer_result.specs.Words.hir_raw.declared.raw.RawLiteral.TheVariants as literal
use Rattle.infer_result.specs.Words.hir_raw.declared.raw.RawExpr.TheVariants as expr
use Rattle.infer_result.specs.Own.{empty_table, Column, entry_kind, index, col, IsLong, InferenceResult, TypeMismatch, NamesVariant, IsVariantPat, mismatch, Given, Demand, ObeysOrMismatch, IsTruePatMismatch, IsTrueDiagnostic, IsTruePatDiagnostic, IsMisfit, IsMade, IsTyped}
use Rattle.infer_result.specs.Columns as column
use Rattle.infer_result.proofs.Derived.{typed_by_schedule}
use Rattle.infer_result.proofs.Samples.Small.{scope_with, e, u8, body_of, each_below, each_node, apart_by, asked, only, each_entry, TypesHave, all_types_by, each_placed, closed_u8, closed_bool, u8_is_no_bool, u8_differs_bool, bool_is_no_error, none_placed, no_pat_items}

abbrev body : RawBody
body = body_of (expr.Lit (literal.Bool true) ∷ expr.Block None [] (Some (e 0)) ∷ []) 1 [] []

abbrev given : Given
given = record { scope = scope_with []; body = body; inputs = []; output = Some u8; aliases = [] }

abbrev schedule : Schedule
schedule = record { starts = 2 ∷ 1 ∷ 0 ∷ []; ends = 3 ∷ 3 ∷ 3 ∷ []; depths = 2 ∷ 1 ∷ 0 ∷ [] }

is_schedule : IsSchedule body schedule
is_schedule = record {
  starts_size = refl;
  ends_size = refl;
  first = refl;
  fits = each_node body (λ n. Fits body schedule (start body schedule n + 1) (parts body n)) ((omega arith, refl, tt), ((tt, tt), (omega arith, refl, tt)), tt);
  ends = each_node body (λ n. after body schedule (start body schedule n + 1) (parts body n) ≡ end body schedule n) (refl, ((tt, refl), refl), tt);
  order = each_node body (λ n. start body schedule n < end body schedule n) (omega arith, ((tt, omega arith), omega arith), tt);
  reached = each_node body (λ n. start body schedule n < end body schedule the_body) (omega arith, ((tt, omega arith), omega arith), tt);
  apart = apart_by body schedule (the_body ∷ inner (node.ExprId (e 1)) ∷ inner (node.ExprId (e 0)) ∷ []) (refl, ((tt, refl), refl), tt);
}

abbrev table_of : List (Option Ty) → List (Option TypeMismatch) → InferenceResult
table_of types mismatches = record (empty_table given.body) {
  type_of_expr = types;
  expr_mismatches = mismatches;
}

abbrev right : InferenceResult
right = table_of (Some ty.Bool ∷ Some u8 ∷ []) (Some (mismatch u8 ty.Bool) ∷ None ∷ [])

demanded : Demand given right (e 0) u8
demanded = inl (record { parent = inner (node.ExprId (e 1)); at_part = 0; role = tail; stands = record { node_is = omega arith; part = refl }; asks = refl })

right_long : (c : Column) → IsLong given.body (index c) (length (col right c))
right_long column.type_of_placeholder = tt
right_long _ = refl

right_closed : (c : Column) → TypesHave IsClosed (entry_kind c) (col right c)
right_closed column.type_of_expr = (closed_bool, (closed_u8, tt))
right_closed column.expr_mismatches = ((closed_u8, closed_bool), tt)
right_closed _ = tt

right_made : IsMade given right
right_made = record {
  shape = record {
    of_body = record { long = right_long };
    closed = all_types_by IsClosed right right_closed;
    modes = λ x m at. absurd (cc);
    placeholders = none_placed given right refl;
    variants = record {
      exprs = λ x. each_entry (NamesVariant given.body x) right.expr_variants tt x.0;
      pats = λ x. each_entry (IsVariantPat given.body x) right.pat_variants tt x.0;
    };
    items = no_pat_items given right tt;
  };
  clauses = λ x h. each_below (λ k. ObeysOrMismatch given right (e k)) 2 x.0 ((tt, (ty.Bool, refl, refl)), record { statements = tt; type = u8; has = refl; ends = (ty.Bool, refl, inr (mismatch u8 ty.Bool, refl)) }) h;
  kinds = λ x h. absurd (omega arith);
  params = λ i q s found is. absurd (cc);
  bindings = λ v h. absurd (omega arith);
  body_clause = (u8, refl, inl refl);
  misfits = λ x. each_placed (λ k. IsMisfit given right (e k)) right.expr_mismatches (record { differ = u8_differs_bool; actual = inl refl }, tt) x.0;
  demands = λ x. each_placed (λ k (m : TypeMismatch). Demand given right (e k) m.expected) right.expr_mismatches (demanded, tt) x.0;
  complaints = record {
    diagnostics = λ x. each_entry (IsTrueDiagnostic given right x) right.expr_diagnostics tt x.0;
    pat_diagnostics = λ x. each_entry (IsTruePatDiagnostic given x) right.pat_diagnostics tt x.0;
    pat_truths = λ x. each_entry (IsTruePatMismatch given right x) right.pat_mismatches tt x.0;
    seen = λ i x found. absurd (cc);
    said = λ i x found. absurd (cc);
  };
}

pub right_typed : IsTyped given right
right_typed = typed_by_schedule given right schedule is_schedule right_made

-- ---- refused

-- no mismatch at all
pub none : IsTyped given (table_of (Some ty.Bool ∷ Some u8 ∷ []) (None ∷ None ∷ [])) → ⊥
none h =
    (let c = h.clauses (e 1) (omega arith) in
    let s : u8 ≡ c.type = only u8 c.type c.has in
    let a : ty.Bool ≡ c.ends.0 = only ty.Bool c.ends.0 c.ends.1 in
    elim c.ends.2 [ inl same ↦ u8_differs_bool (ap erased s ∙ sym (ap erased a ∙ same)) | inr m ↦ (let clash = m.1 in cc) ])

-- the types exchanged
pub exchanged : IsTyped given (table_of (Some ty.Bool ∷ Some u8 ∷ []) (Some (mismatch ty.Bool u8) ∷ None ∷ [])) → ⊥
exchanged h =
    (let m = h.truths (e 0) (mismatch ty.Bool u8) refl in
    elim m.actual [ inl has ↦ u8_is_no_bool (sym (only ty.Bool u8 has)) | inr ends ↦ elim ends.0 [ inl block ↦ (let is = block.is_block in cc) | inr branch ↦ (let is = branch.is_if in cc) ] ])

-- one more at the root, which has the type that is asked of it
pub one_more : IsTyped given (table_of (Some ty.Bool ∷ Some u8 ∷ []) (Some (mismatch u8 ty.Bool) ∷ Some (mismatch ty.Bool u8) ∷ [])) → ⊥
one_more h =
    (let m = h.truths (e 1) (mismatch ty.Bool u8) refl in
    let a = asked given schedule is_schedule _ (e 1) the_body 0 root ty.Bool (record { node_is = tt; part = refl }) (λ r. (let is = r.is_if in cc)) m.demand in
    let both : Some u8 ≡ Some ty.Bool = a.1 in
    let same : u8 ≡ ty.Bool = cc in
    u8_is_no_bool same)

-- nothing but `{unknown}`
pub all_unknown : IsTyped given (table_of (Some ty.Error ∷ Some ty.Error ∷ []) (None ∷ None ∷ [])) → ⊥
all_unknown h = (let c = h.clauses (e 0) (omega arith) in bool_is_no_error (sym c.2 ∙ sym (only ty.Error c.0 c.1)))
