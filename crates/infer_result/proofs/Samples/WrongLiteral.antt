-- `fn f(c: bool) { match c { 1u8 if 1u8 => (), _ => () }; }`: a pattern that is a literal of another type, whose mismatch stands at
-- the literal, and a guard that is no `bool`.
use Rattle.std.proofs.Common.{◌+◌, ◌<◌, ◌≡◌, inl, inr, true, List, [], ◌∷◌, refl, sym, ap, subst, ◌∙◌, arith, Option, Some, None, slice_get, length}
use Rattle.infer_result.specs.Words.{ExprId, Ty, RawType, RawBody, Schedule, unit, filled_within, written_type, erased, IsClosed, arm_pattern, guard, pattern_literal, the_body, inner, IsSchedule, start, end, after, Fits, parts}
use Rattle.hir_types.specs.declared.ids.ExprOrPatId.TheVariants as node
use Rattle.hir_types.specs.declared.ty.Ty.TheVariants as ty
use Rattle.infer_result.specs.Words.hir_raw.declared.raw.RawType.TheVariants as type
use Rattle.infer_result.specs.Words.hir_raw.declared.raw.RawStmt.TheVariants as stmt
use Rattle.infer_result.specs.Words.hir_raw.declared.raw.RawPath.TheVariants as path
use Rattle.infer_result.specs.Words.hir_raw.declared.raw.RawExpr.TheVariants as expr
use Rattle.infer_result.specs.Words.hir_raw.declared.raw.RawPat.TheVariants as pat
use Rattle.infer_result.specs.Own.{empty_table, Column, entry_kind, index, col, IsLong, InferenceResult, TypeMismatch, HasTy, PatTy, BindingTy, mismatch, Given, Incoming, Demand, ObeysOrMismatch, PatRule, IsTruePatMismatch, IsTrueDiagnostic, IsTruePatDiagnostic, IsBinder, NamesVariant, IsVariantPat, IsMisfit, IsMade, IsTyped}
use Rattle.infer_result.specs.Columns as column
use Rattle.infer_result.specs.declared.modes.BindingMode.TheVariants as mode
use Rattle.infer_result.proofs.Derived.{typed_by_schedule}
use Rattle.infer_result.proofs.Samples.Small.{scope_with, e, p, b, w, u8, one_u8, plain, body_with, each_below, each_node, apart_by, asked, comes, one_param, only, each_entry, TypesHave, all_types_by, each_placed, closed_u8, closed_bool, closed_unit, u8_is_no_bool, bool_is_no_unit, u8_differs_bool, none_placed, no_pat_items}

abbrev body : RawBody
body =
    body_with (p 0 ∷ [])
    (expr.Path (path.Local (b 0)) ∷ expr.Lit one_u8 ∷ expr.Lit one_u8 ∷ expr.Tuple [] ∷ expr.Tuple []
    ∷ expr.Match (e 0) (record { pat = p 1; guard = Some (e 2); expr = e 3 } ∷ record { pat = p 2; guard = None; expr = e 4 } ∷ []) ∷ expr.Block None (stmt.Expr (e 5) true ∷ []) None ∷ [])
    6 (pat.Bind (b 0) None ∷ pat.Lit (e 1) ∷ pat.Wild ∷ []) (plain ∷ [])

abbrev types : List RawType
types = type.Bool ∷ []

abbrev given : Given
given = record { scope = scope_with types; body = body; inputs = Some (written_type types (w 0)) ∷ []; output = Some unit; aliases = [] }

written : written_type types (w 0) ≡ ty.Bool
unfolding filled_within
written = refl

abbrev schedule : Schedule
schedule = record {
  starts = 4 ∷ 6 ∷ 8 ∷ 9 ∷ 10 ∷ 3 ∷ 2 ∷ 1 ∷ 5 ∷ 7 ∷ 0 ∷ [];
  ends = 5 ∷ 7 ∷ 9 ∷ 10 ∷ 11 ∷ 11 ∷ 11 ∷ 2 ∷ 7 ∷ 8 ∷ 11 ∷ [];
  depths = 3 ∷ 4 ∷ 3 ∷ 3 ∷ 3 ∷ 2 ∷ 1 ∷ 1 ∷ 3 ∷ 3 ∷ 0 ∷ [];
}

is_schedule : IsSchedule body schedule
is_schedule = record {
  starts_size = refl;
  ends_size = refl;
  first = refl;
  fits = each_node body (λ n. Fits body schedule (start body schedule n + 1) (parts body n)) (
    (omega arith, refl, (omega arith, refl, tt)),
    (((((((tt, tt), tt), tt), tt), tt), (omega arith, refl, (omega arith, refl, (omega arith, refl, (omega arith, refl, (omega arith, refl, (omega arith, refl, tt))))))), (omega arith, refl, tt)),
    (((tt, tt), (omega arith, refl, tt)), tt),
  );
  ends = each_node body (λ n. after body schedule (start body schedule n + 1) (parts body n) ≡ end body schedule n)
      (refl, (((((((tt, refl), refl), refl), refl), refl), refl), refl), (((tt, refl), refl), refl));
  order = each_node body (λ n. start body schedule n < end body schedule n)
      (omega arith, (((((((tt, omega arith), omega arith), omega arith), omega arith), omega arith), omega arith), omega arith), (((tt, omega arith), omega arith), omega arith));
  reached = each_node body (λ n. start body schedule n < end body schedule the_body)
      (omega arith, (((((((tt, omega arith), omega arith), omega arith), omega arith), omega arith), omega arith), omega arith), (((tt, omega arith), omega arith), omega arith));
  apart = apart_by body schedule
      (the_body ∷ inner (node.PatId (p 0)) ∷ inner (node.ExprId (e 6)) ∷ inner (node.ExprId (e 5)) ∷ inner (node.ExprId (e 0)) ∷ inner (node.PatId (p 1)) ∷ inner (node.ExprId (e 1))
      ∷ inner (node.PatId (p 2)) ∷ inner (node.ExprId (e 2)) ∷ inner (node.ExprId (e 3)) ∷ inner (node.ExprId (e 4)) ∷ [])
      (refl, (((((((tt, refl), refl), refl), refl), refl), refl), refl), (((tt, refl), refl), refl));
}

-- the mismatches at the literal of the pattern, at the guard, and at the pattern
abbrev table_of : Option TypeMismatch → Option TypeMismatch → Option TypeMismatch → InferenceResult
table_of literal_ guard_ pattern_ = record (empty_table given.body) {
  type_of_expr = Some ty.Bool ∷ Some u8 ∷ Some u8 ∷ Some unit ∷ Some unit ∷ Some unit ∷ Some unit ∷ [];
  type_of_pat = Some ty.Bool ∷ Some u8 ∷ Some ty.Bool ∷ [];
  type_of_binding = Some ty.Bool ∷ [];
  binding_modes = Some mode.Move ∷ None ∷ None ∷ [];
  expr_mismatches = None ∷ literal_ ∷ guard_ ∷ None ∷ None ∷ None ∷ None ∷ [];
  pat_mismatches = None ∷ pattern_ ∷ None ∷ [];
}

-- a `bool` is asked for
abbrev asks_bool : Option TypeMismatch
asks_bool = Some (mismatch ty.Bool u8)

abbrev right : InferenceResult
right = table_of asks_bool asks_bool None

match_obeys : ObeysOrMismatch given right (e 5)
match_obeys = record {
  scrutinee = ty.Bool;
  comes = refl;
  patterns = ((u8, refl, inr (mismatch ty.Bool u8, refl)), ((ty.Bool, refl, inl refl), tt));
  type = unit;
  has = refl;
  alternatives = (((u8, refl, inr (mismatch ty.Bool u8, refl)), inl (unit, refl, refl)), ((tt, inl (unit, refl, refl)), tt));
}

is_misfit : (x : ExprId) → HasTy right x u8 → IsMisfit given right x (mismatch ty.Bool u8)
is_misfit x has = record { differ = λ same. u8_differs_bool (sym same); actual = inl has }

-- what comes into the pattern is asked of its literal
comes_in : Incoming given right (p 1) ty.Bool
comes_in = record { parent = inner (node.ExprId (e 5)); at_part = 1; role = arm_pattern (e 0) 0; stands = record { node_is = omega arith; part = refl }; gives = refl }

right_long : (c : Column) → IsLong given.body (index c) (length (col right c))
right_long column.type_of_placeholder = tt
right_long _ = refl

right_closed : (c : Column) → TypesHave IsClosed (entry_kind c) (col right c)
right_closed column.type_of_expr = (closed_bool, (closed_u8, (closed_u8, (closed_unit, (closed_unit, (closed_unit, (closed_unit, tt)))))))
right_closed column.type_of_pat = (closed_bool, (closed_u8, (closed_bool, tt)))
right_closed column.type_of_binding = (closed_bool, tt)
right_closed column.expr_mismatches = ((closed_bool, closed_u8), ((closed_bool, closed_u8), tt))
right_closed _ = tt

right_made : IsMade given right
right_made = record {
  shape = record {
    of_body = record { long = right_long };
    closed = all_types_by IsClosed right right_closed;
    modes = λ x. each_placed (λ k m. IsBinder body (p k)) right.binding_modes ((b 0, None, refl), tt) x.0;
    placeholders = none_placed given right refl;
    variants = record {
      exprs = λ x. each_entry (NamesVariant given.body x) right.expr_variants tt x.0;
      pats = λ x. each_entry (IsVariantPat given.body x) right.pat_variants tt x.0;
    };
    items = no_pat_items given right tt;
  };
  clauses = λ x h.
      each_below (λ k. ObeysOrMismatch given right (e k)) 7 x.0
      (((((((tt, (ty.Bool, refl, refl)), (u8, refl, refl)), (u8, refl, refl)), ([], refl, tt)), ([], refl, tt)), match_obeys), record { statements = (tt, tt); type = unit; has = refl; ends = inl refl }) h;
  kinds = λ x h. each_below (λ k. PatRule given right (p k) (slice_get body.pats k)) 3 x.0 (((tt, (ty.Bool, refl, refl, refl)), (u8, refl, refl)), (ty.Bool, refl)) h;
  params = one_param given right (p 0) (w 0) refl refl (subst (PatTy right (p 0)) (sym written) refl);
  bindings = λ v h. each_below (λ k. (s : Ty) × BindingTy right (b k) s) 1 v.0 (tt, (ty.Bool, refl)) h;
  body_clause = (unit, refl, inl refl);
  misfits = λ x. each_placed (λ k. IsMisfit given right (e k)) right.expr_mismatches (is_misfit (e 1) refl, (is_misfit (e 2) refl, tt)) x.0;
  demands = λ x.
      each_placed (λ k (m : TypeMismatch). Demand given right (e k) m.expected) right.expr_mismatches (
        inl (record { parent = inner (node.PatId (p 1)); at_part = 0; role = pattern_literal; stands = record { node_is = omega arith; part = refl }; asks = (refl, comes_in) }),
        (inl (record { parent = inner (node.ExprId (e 5)); at_part = 3; role = guard 0; stands = record { node_is = omega arith; part = refl }; asks = refl }), tt),
      ) x.0;
  complaints = record {
    diagnostics = λ x. each_entry (IsTrueDiagnostic given right x) right.expr_diagnostics tt x.0;
    pat_diagnostics = λ x. each_entry (IsTruePatDiagnostic given x) right.pat_diagnostics tt x.0;
    pat_truths = λ x. each_entry (IsTruePatMismatch given right x) right.pat_mismatches tt x.0;
    seen = λ i x found. absurd (cc);
    said = λ i x found. absurd (cc);
  };
}

pub right_typed : IsTyped given right
right_typed = typed_by_schedule given right schedule is_schedule right_made

-- ---- refused

-- the literal in silence
pub silent_literal : IsTyped given (table_of None asks_bool None) → ⊥
silent_literal h =
    (let m = h.clauses (e 5) (omega arith) in
    let s : ty.Bool ≡ m.scrutinee = only ty.Bool m.scrutinee m.comes in
    let c = m.patterns.0 in
    let a : u8 ≡ c.0 = only u8 c.0 c.1 in
    elim c.2 [ inl same ↦ u8_is_no_bool (a ∙ (same ∙ sym s)) | inr q ↦ (let clash = q.1 in cc) ])

-- the mismatch at the pattern in the place of its literal
pub at_pattern : IsTyped given (table_of None asks_bool asks_bool) → ⊥
at_pattern h =
    (let m = h.clauses (e 5) (omega arith) in
    let s : ty.Bool ≡ m.scrutinee = only ty.Bool m.scrutinee m.comes in
    let c = m.patterns.0 in
    let a : u8 ≡ c.0 = only u8 c.0 c.1 in
    elim c.2 [ inl same ↦ u8_is_no_bool (a ∙ (same ∙ sym s)) | inr q ↦ (let clash = q.1 in cc) ])

-- a mismatch at the pattern beside the one at its literal
pub twice : IsTyped given (table_of asks_bool asks_bool asks_bool) → ⊥
twice h = (h.complaints.pat_truths (p 1) (mismatch ty.Bool u8) refl).says

-- the guard in silence
pub silent_guard : IsTyped given (table_of asks_bool None None) → ⊥
silent_guard h =
    (let c = (h.clauses (e 5) (omega arith)).alternatives.0.0 in
    let a : u8 ≡ c.0 = only u8 c.0 c.1 in
    elim c.2 [ inl same ↦ u8_differs_bool (ap erased a ∙ same) | inr q ↦ (let clash = q.1 in cc) ])

-- another type expected of the literal than comes into the pattern
pub another_expected : IsTyped given (table_of (Some (mismatch unit u8)) asks_bool None) → ⊥
another_expected h =
    (let m = h.truths (e 1) (mismatch unit u8) refl in
    let a = asked given schedule is_schedule _ (e 1) (inner (node.PatId (p 1))) 0 pattern_literal unit (record { node_is = omega arith; part = refl }) (λ r. (let is = r.is_if in cc)) m.demand in
    let c = comes given schedule is_schedule _ (p 1) (inner (node.ExprId (e 5))) 1 (arm_pattern (e 0) 0) unit (record { node_is = omega arith; part = refl }) a.1 in
    bool_is_no_unit (only ty.Bool unit c))

-- the types exchanged at the guard
pub exchanged : IsTyped given (table_of asks_bool (Some (mismatch u8 ty.Bool)) None) → ⊥
exchanged h =
    (let m = h.truths (e 2) (mismatch u8 ty.Bool) refl in
    u8_is_no_bool (asked given schedule is_schedule _ (e 2) (inner (node.ExprId (e 5))) 3 (guard 0) u8 (record { node_is = omega arith; part = refl }) (λ r. (let is = r.is_if in cc)) m.demand))
