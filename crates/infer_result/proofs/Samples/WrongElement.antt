-- `fn f() -> (u8, bool) { (1u8, 2u8) }`: the tuple has the expected components, and the mismatch stands at the second part.
use Rattle.std.proofs.Common.{◌+◌, ◌<◌, ◌≡◌, inl, inr, List, [], ◌∷◌, refl, sym, ap, subst, ◌∙◌, arith, Option, Some, None, slice_get, length}
use Rattle.hir_types.specs.declared.ids.ExprOrPatId.TheVariants as node
use Rattle.infer_result.specs.Words.{Ty, RawBody, Schedule, erased, IsClosed, element, the_body, inner, IsSchedule, start, end, after, Fits, parts}
use Rattle.hir_types.specs.declared.ty.Ty.TheVariants as ty
use Rattle.infer_result.specs.Words.hir_raw.declared.raw.RawExpr.TheVariants as expr
use Rattle.infer_result.proofs.Words.{has_hole_tuple}
use Rattle.infer_result.specs.Own.{empty_table, Column, entry_kind, index, col, IsLong, InferenceResult, TypeMismatch, NamesVariant, IsVariantPat, mismatch, Given, IsAtOrMismatch, Demand, ObeysOrMismatch, AllAt, IsTruePatMismatch, IsTrueDiagnostic, IsTruePatDiagnostic, IsMisfit, IsMade, IsTyped}
use Rattle.infer_result.specs.Columns as column
use Rattle.infer_result.proofs.Derived.{tuple_parts, typed_by_schedule}
use Rattle.infer_result.proofs.Samples.Small.{scope_with, e, u8, one_u8, body_of, each_below, each_node, apart_by, asked, only, each_entry, TypesHave, all_types_by, each_placed, closed_u8, closed_bool, u8_is_no_bool, u8_differs_bool, none_placed, no_pat_items}

abbrev pair : Ty
pair = ty.Tuple (u8 ∷ ty.Bool ∷ [])

abbrev body : RawBody
body = body_of (expr.Lit one_u8 ∷ expr.Lit one_u8 ∷ expr.Tuple (e 0 ∷ e 1 ∷ []) ∷ expr.Block None [] (Some (e 2)) ∷ []) 3 [] []

abbrev given : Given
given = record { scope = scope_with []; body = body; inputs = []; output = Some pair; aliases = [] }

abbrev schedule : Schedule
schedule = record { starts = 3 ∷ 4 ∷ 2 ∷ 1 ∷ 0 ∷ []; ends = 4 ∷ 5 ∷ 5 ∷ 5 ∷ 5 ∷ []; depths = 3 ∷ 3 ∷ 2 ∷ 1 ∷ 0 ∷ [] }

is_schedule : IsSchedule body schedule
is_schedule = record {
  starts_size = refl;
  ends_size = refl;
  first = refl;
  fits = each_node body (λ n. Fits body schedule (start body schedule n + 1) (parts body n)) ((omega arith, refl, tt), ((((tt, tt), tt), (omega arith, refl, (omega arith, refl, tt))), (omega arith, refl, tt)), tt);
  ends = each_node body (λ n. after body schedule (start body schedule n + 1) (parts body n) ≡ end body schedule n) (refl, ((((tt, refl), refl), refl), refl), tt);
  order = each_node body (λ n. start body schedule n < end body schedule n) (omega arith, ((((tt, omega arith), omega arith), omega arith), omega arith), tt);
  reached = each_node body (λ n. start body schedule n < end body schedule the_body) (omega arith, ((((tt, omega arith), omega arith), omega arith), omega arith), tt);
  apart = apart_by body schedule (the_body ∷ inner (node.ExprId (e 3)) ∷ inner (node.ExprId (e 2)) ∷ inner (node.ExprId (e 0)) ∷ inner (node.ExprId (e 1)) ∷ []) (refl, ((((tt, refl), refl), refl), refl), tt);
}

abbrev table_of : List (Option TypeMismatch) → InferenceResult
table_of mismatches = record (empty_table given.body) {
  type_of_expr = Some u8 ∷ Some u8 ∷ Some pair ∷ Some pair ∷ [];
  expr_mismatches = mismatches;
}

abbrev right : InferenceResult
right = table_of (None ∷ Some (mismatch ty.Bool u8) ∷ None ∷ None ∷ [])

closed_pair : IsClosed pair
closed_pair = has_hole_tuple (u8 ∷ ty.Bool ∷ []) ∙ rw (closed_u8, closed_bool) refl

right_long : (c : Column) → IsLong given.body (index c) (length (col right c))
right_long column.type_of_placeholder = tt
right_long _ = refl

right_closed : (c : Column) → TypesHave IsClosed (entry_kind c) (col right c)
right_closed column.type_of_expr = (closed_u8, (closed_u8, (closed_pair, (closed_pair, tt))))
right_closed column.expr_mismatches = ((closed_bool, closed_u8), tt)
right_closed _ = tt

right_made : IsMade given right
right_made = record {
  shape = record {
    of_body = record { long = right_long };
    closed = all_types_by IsClosed right right_closed;
    modes = λ x m at. absurd (cc);
    placeholders = none_placed given right refl;
    variants = record {
      exprs = λ x. each_entry (NamesVariant given.body x) right.expr_variants tt x.0;
      pats = λ x. each_entry (IsVariantPat given.body x) right.pat_variants tt x.0;
    };
    items = no_pat_items given right tt;
  };
  clauses = λ x h.
      each_below (λ k. ObeysOrMismatch given right (e k)) 4 x.0
      ((((tt, (u8, refl, refl)), (u8, refl, refl)), (u8 ∷ ty.Bool ∷ [], refl, ((u8, refl, inl refl), ((u8, refl, inr (mismatch ty.Bool u8, refl)), tt)))), record { statements = tt; type = pair; has = refl; ends = (pair, refl, inl refl) }) h;
  kinds = λ x h. absurd (omega arith);
  params = λ i q s found is. absurd (cc);
  bindings = λ v h. absurd (omega arith);
  body_clause = (pair, refl, inl refl);
  misfits = λ x. each_placed (λ k. IsMisfit given right (e k)) right.expr_mismatches (record { differ = λ same. u8_differs_bool (sym same); actual = inl refl }, tt) x.0;
  demands = λ x.
      each_placed (λ k (m : TypeMismatch). Demand given right (e k) m.expected) right.expr_mismatches
      (inl (record { parent = inner (node.ExprId (e 2)); at_part = 1; role = element 1; stands = record { node_is = omega arith; part = refl }; asks = (u8 ∷ ty.Bool ∷ [], refl, refl) }), tt) x.0;
  complaints = record {
    diagnostics = λ x. each_entry (IsTrueDiagnostic given right x) right.expr_diagnostics tt x.0;
    pat_diagnostics = λ x. each_entry (IsTruePatDiagnostic given x) right.pat_diagnostics tt x.0;
    pat_truths = λ x. each_entry (IsTruePatMismatch given right x) right.pat_mismatches tt x.0;
    seen = λ i x found. absurd (cc);
    said = λ i x found. absurd (cc);
  };
}

pub right_typed : IsTyped given right
right_typed = typed_by_schedule given right schedule is_schedule right_made

-- ---- refused

-- no mismatch
pub silent : IsTyped given (table_of (None ∷ None ∷ None ∷ None ∷ [])) → ⊥
silent h =
    (let c = h.clauses (e 2) (omega arith) in
    let ss : u8 ∷ ty.Bool ∷ [] ≡ c.0 = tuple_parts (u8 ∷ ty.Bool ∷ []) c.0 (only pair (ty.Tuple c.0) c.1) in
    let at : AllAt (IsAtOrMismatch (table_of (None ∷ None ∷ None ∷ None ∷ []))) (e 0 ∷ e 1 ∷ []) (u8 ∷ ty.Bool ∷ []) = subst (AllAt (IsAtOrMismatch (table_of (None ∷ None ∷ None ∷ None ∷ []))) (e 0 ∷ e 1 ∷ [])) (sym ss) c.2 in
    let d = at.1.0 in
    let a : u8 ≡ d.0 = only u8 d.0 d.1 in
    elim d.2 [ inl same ↦ u8_differs_bool (ap erased a ∙ same) | inr q ↦ (let clash = q.1 in cc) ])

-- the mismatch at the other element
pub at_first : IsTyped given (table_of (Some (mismatch ty.Bool u8) ∷ None ∷ None ∷ None ∷ [])) → ⊥
at_first h =
    (let m = h.truths (e 0) (mismatch ty.Bool u8) refl in
    let a = asked given schedule is_schedule _ (e 0) (inner (node.ExprId (e 2))) 0 (element 0) ty.Bool (record { node_is = omega arith; part = refl }) (λ r. (let is = r.is_if in cc)) m.demand in
    let ss : u8 ∷ ty.Bool ∷ [] ≡ a.0 = tuple_parts (u8 ∷ ty.Bool ∷ []) a.0 (only pair (ty.Tuple a.0) a.1) in
    let first : slice_get (u8 ∷ ty.Bool ∷ []) 0 ≡ Some ty.Bool = subst (λ us. slice_get us 0 ≡ Some ty.Bool) (sym ss) a.2 in
    let same : u8 ≡ ty.Bool = cc in u8_is_no_bool same)

-- another type expected than the component
pub another_expected : IsTyped given (table_of (None ∷ Some (mismatch pair u8) ∷ None ∷ None ∷ [])) → ⊥
another_expected h =
    (let m = h.truths (e 1) (mismatch pair u8) refl in
    let a = asked given schedule is_schedule _ (e 1) (inner (node.ExprId (e 2))) 1 (element 1) pair (record { node_is = omega arith; part = refl }) (λ r. (let is = r.is_if in cc)) m.demand in
    let ss : u8 ∷ ty.Bool ∷ [] ≡ a.0 = tuple_parts (u8 ∷ ty.Bool ∷ []) a.0 (only pair (ty.Tuple a.0) a.1) in
    let second : slice_get (u8 ∷ ty.Bool ∷ []) 1 ≡ Some pair = subst (λ us. slice_get us 1 ≡ Some pair) (sym ss) a.2 in
    let same : ty.Bool ≡ pair = cc in cc)
