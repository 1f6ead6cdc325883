-- `fn f(c: bool) -> u8 { if c { 1u8 } else { 1u8 } }`: both branches are at the type of the `if`.
use Rattle.std.proofs.Common.{◌+◌, ◌<◌, ◌≡◌, inl, inr, true, List, [], ◌∷◌, refl, sym, ap, subst, ◌∙◌, arith, Option, Some, None, slice_get, length}
use Rattle.hir_types.specs.declared.ids.ExprOrPatId.TheVariants as node
use Rattle.infer_result.specs.Words.{Ty, RawType, RawExpr, RawBody, Schedule, filled_within, written_type, erased, IsClosed, tail, condition, then_branch, the_body, inner, IsSchedule, start, end, after, Fits, parts}
use Rattle.hir_types.specs.declared.ty.Ty.TheVariants as ty
use Rattle.infer_result.specs.Words.hir_raw.declared.raw.RawType.TheVariants as type
use Rattle.infer_result.specs.Words.hir_raw.declared.raw.RawLiteral.TheVariants as literal
use Rattle.infer_result.specs.Words.hir_raw.declared.raw.RawPath.TheVariants as path
use Rattle.infer_result.specs.Words.hir_raw.declared.raw.RawExpr.TheVariants as expr
use Rattle.infer_result.specs.Words.hir_raw.declared.raw.RawPat.TheVariants as pat
use Rattle.infer_result.specs.Own.{empty_table, Column, entry_kind, index, col, IsLong, InferenceResult, TypeMismatch, PatTy, BindingTy, mismatch, Given, Demand, ObeysOrMismatch, PatRule, IsTruePatMismatch, IsTrueDiagnostic, IsTruePatDiagnostic, IsBinder, NamesVariant, IsVariantPat, IsMisfit, IsMade, IsTyped}
use Rattle.infer_result.specs.Columns as column
use Rattle.infer_result.specs.declared.modes.BindingMode.TheVariants as mode
use Rattle.infer_result.proofs.Derived.{typed_by_schedule}
use Rattle.infer_result.proofs.Samples.Small.{scope_with, e, p, b, w, u8, u16, one_u8, plain, body_with, each_below, each_node, apart_by, asked, one_param, no_other, only, each_entry, TypesHave, all_types_by, nowhere, closed_u8, closed_bool, u8_is_no_u16, u8_is_no_bool, u8_differs_bool, each_placed, none_placed, no_pat_items}

-- the body with another condition, or another expression after `else`
abbrev body_of : RawExpr → RawExpr → RawBody
body_of c other =
    body_with (p 0 ∷ []) (c ∷ expr.Lit one_u8 ∷ other ∷ expr.If (e 0) (e 1) (Some (e 2)) ∷ expr.Block None [] (Some (e 3)) ∷ []) 4
    (pat.Bind (b 0) None ∷ []) (plain ∷ [])

abbrev types : List RawType
types = type.Bool ∷ []

abbrev given_of : RawExpr → RawExpr → Ty → Given
given_of c other output = record { scope = scope_with types; body = body_of c other; inputs = Some (written_type types (w 0)) ∷ []; output = Some output; aliases = [] }

abbrev named : RawExpr
named = expr.Path (path.Local (b 0))

abbrev body : RawBody
body = body_of named (expr.Lit one_u8)

abbrev given : Given
given = given_of named (expr.Lit one_u8) u8

written : written_type types (w 0) ≡ ty.Bool
unfolding filled_within
written = refl

abbrev schedule : Schedule
schedule = record { starts = 4 ∷ 5 ∷ 6 ∷ 3 ∷ 2 ∷ 1 ∷ 0 ∷ []; ends = 5 ∷ 6 ∷ 7 ∷ 7 ∷ 7 ∷ 2 ∷ 7 ∷ []; depths = 3 ∷ 3 ∷ 3 ∷ 2 ∷ 1 ∷ 1 ∷ 0 ∷ [] }

is_schedule : IsSchedule body schedule
is_schedule = record {
  starts_size = refl;
  ends_size = refl;
  first = refl;
  fits = each_node body (λ n. Fits body schedule (start body schedule n + 1) (parts body n))
      ((omega arith, refl, (omega arith, refl, tt)), (((((tt, tt), tt), tt), (omega arith, refl, (omega arith, refl, (omega arith, refl, tt)))), (omega arith, refl, tt)), (tt, tt));
  ends = each_node body (λ n. after body schedule (start body schedule n + 1) (parts body n) ≡ end body schedule n) (refl, (((((tt, refl), refl), refl), refl), refl), (tt, refl));
  order = each_node body (λ n. start body schedule n < end body schedule n) (omega arith, (((((tt, omega arith), omega arith), omega arith), omega arith), omega arith), (tt, omega arith));
  reached = each_node body (λ n. start body schedule n < end body schedule the_body) (omega arith, (((((tt, omega arith), omega arith), omega arith), omega arith), omega arith), (tt, omega arith));
  apart = apart_by body schedule
      (the_body ∷ inner (node.PatId (p 0)) ∷ inner (node.ExprId (e 4)) ∷ inner (node.ExprId (e 3)) ∷ inner (node.ExprId (e 0)) ∷ inner (node.ExprId (e 1)) ∷ inner (node.ExprId (e 2)) ∷ [])
      (refl, (((((tt, refl), refl), refl), refl), refl), (tt, refl));
}

abbrev table_of : List (Option Ty) → List (Option TypeMismatch) → InferenceResult
table_of exprs mismatches = record (empty_table given.body) {
  type_of_expr = exprs;
  type_of_pat = Some ty.Bool ∷ [];
  type_of_binding = Some ty.Bool ∷ [];
  binding_modes = Some mode.Move ∷ [];
  expr_mismatches = mismatches;
}

abbrev silent : List (Option TypeMismatch)
silent = None ∷ None ∷ None ∷ None ∷ None ∷ []

abbrev right_types : List (Option Ty)
right_types = Some ty.Bool ∷ Some u8 ∷ Some u8 ∷ Some u8 ∷ Some u8 ∷ []

abbrev right : InferenceResult
right = table_of right_types silent

right_long : (c : Column) → IsLong given.body (index c) (length (col right c))
right_long column.type_of_placeholder = tt
right_long _ = refl

right_closed : (c : Column) → TypesHave IsClosed (entry_kind c) (col right c)
right_closed column.type_of_expr = (closed_bool, (closed_u8, (closed_u8, (closed_u8, (closed_u8, tt)))))
right_closed column.type_of_pat = (closed_bool, tt)
right_closed column.type_of_binding = (closed_bool, tt)
right_closed _ = tt

right_made : IsMade given right
right_made = record {
  shape = record {
    of_body = record { long = right_long };
    closed = all_types_by IsClosed right right_closed;
    modes = λ x. each_placed (λ k m. IsBinder body (p k)) right.binding_modes ((b 0, None, refl), tt) x.0;
    placeholders = none_placed given right refl;
    variants = record {
      exprs = λ x. each_entry (NamesVariant given.body x) right.expr_variants tt x.0;
      pats = λ x. each_entry (IsVariantPat given.body x) right.pat_variants tt x.0;
    };
    items = no_pat_items given right tt;
  };
  clauses = λ x h.
      each_below (λ k. ObeysOrMismatch given right (e k)) 5 x.0 (
        (
          (((tt, (ty.Bool, refl, refl)), (u8, refl, refl)), (u8, refl, refl)),
          record {
            condition = (ty.Bool, refl, inl refl);
            type = u8;
            has = refl;
            branch = inl (u8, refl, refl);
            otherwise = inl (u8, refl, refl);
          },
        ),
        record { statements = tt; type = u8; has = refl; ends = (u8, refl, inl refl) },
      ) h;
  kinds = λ x h. each_below (λ k. PatRule given right (p k) (slice_get body.pats k)) 1 x.0 (tt, (ty.Bool, refl, refl, refl)) h;
  params = one_param given right (p 0) (w 0) refl refl (subst (PatTy right (p 0)) (sym written) refl);
  bindings = λ v h. each_below (λ k. (s : Ty) × BindingTy right (b k) s) 1 v.0 (tt, (ty.Bool, refl)) h;
  body_clause = (u8, refl, inl refl);
  misfits = λ x. each_entry (IsMisfit given right x) right.expr_mismatches tt x.0;
  demands = λ x. each_entry (λ m. Demand given right x m.expected) right.expr_mismatches tt x.0;
  complaints = record {
    diagnostics = λ x. each_entry (IsTrueDiagnostic given right x) right.expr_diagnostics tt x.0;
    pat_diagnostics = λ x. each_entry (IsTruePatDiagnostic given x) right.pat_diagnostics tt x.0;
    pat_truths = λ x. each_entry (IsTruePatMismatch given right x) right.pat_mismatches tt x.0;
    seen = λ i x found. absurd (cc);
    said = λ i x found. absurd (cc);
  };
}

pub right_typed : IsTyped given right
right_typed = typed_by_schedule given right schedule is_schedule right_made

-- ---- refused

-- a condition that is no `bool`, in silence
pub wrong_condition : IsTyped (given_of (expr.Lit one_u8) (expr.Lit one_u8) u8) (table_of (Some u8 ∷ Some u8 ∷ Some u8 ∷ Some u8 ∷ Some u8 ∷ []) silent) → ⊥
wrong_condition h =
    (let c = (h.clauses (e 3) (omega arith)).condition in
    let a : u8 ≡ c.0 = only u8 c.0 c.1 in
    elim c.2 [ inl same ↦ u8_differs_bool (ap erased a ∙ same) | inr m ↦ (let clash = m.1 in cc) ])

-- a branch of another type, in silence
abbrev silent_branch : InferenceResult
silent_branch = table_of (Some ty.Bool ∷ Some u8 ∷ Some ty.Bool ∷ Some u8 ∷ Some u8 ∷ []) silent

pub wrong_branch : IsTyped (given_of named (expr.Lit (literal.Bool true)) u8) silent_branch → ⊥
wrong_branch h =
    (let c = h.clauses (e 3) (omega arith) in
    let s : u8 ≡ c.type = only u8 c.type c.has in
    elim c.otherwise [
      | inl at ↦ (let a : ty.Bool ≡ at.0 = only ty.Bool at.0 at.1 in u8_differs_bool (ap erased s ∙ sym (ap erased a ∙ at.2)))
      | inr m ↦ nowhere silent_branch tt (e 1 ∷ e 2 ∷ []) m
    ])

-- the `if` has another type than its branches, and all around it fits
abbrev silent_if : InferenceResult
silent_if = table_of (Some ty.Bool ∷ Some u8 ∷ Some u8 ∷ Some ty.Bool ∷ Some ty.Bool ∷ []) silent

pub wrong_if : IsTyped (given_of named (expr.Lit one_u8) ty.Bool) silent_if → ⊥
wrong_if h =
    (let c = h.clauses (e 3) (omega arith) in
    let s : ty.Bool ≡ c.type = only ty.Bool c.type c.has in
    elim c.branch [
      | inl at ↦ (let a : u8 ≡ at.0 = only u8 at.0 at.1 in u8_differs_bool (ap erased a ∙ (at.2 ∙ sym (ap erased s))))
      | inr m ↦ nowhere silent_if tt (e 1 ∷ e 2 ∷ []) m
    ])

-- a mismatch at a branch that has the type of the `if` and of the other branch
pub invented_at_branch : IsTyped given (table_of right_types (None ∷ Some (mismatch u16 u8) ∷ None ∷ None ∷ None ∷ [])) → ⊥
invented_at_branch h =
    (let m = h.truths (e 1) (mismatch u16 u8) refl in
    let a = asked given schedule is_schedule _ (e 1) (inner (node.ExprId (e 3))) 1 then_branch u16 (record { node_is = omega arith; part = refl }) (λ r. (let is = r.is_if in cc)) m.demand in
    elim a [
      | inl has ↦ u8_is_no_u16 (only u8 u16 has)
      | inr other ↦ no_other body _ (e 3) then_branch u16 ((λ i k. absurd i), ((λ i k. absurd i), ((λ i k. absurd i), tt))) other
    ])

-- one at the condition, of which `bool` is asked
pub invented_at_condition : IsTyped given (table_of right_types (Some (mismatch u8 ty.Bool) ∷ None ∷ None ∷ None ∷ None ∷ [])) → ⊥
invented_at_condition h =
    (let m = h.truths (e 0) (mismatch u8 ty.Bool) refl in
    u8_is_no_bool (asked given schedule is_schedule _ (e 0) (inner (node.ExprId (e 3))) 0 condition u8 (record { node_is = omega arith; part = refl }) (λ r. (let is = r.is_if in cc)) m.demand))

-- one at the `if`: with an `else` only its place asks something of it
pub invented_at_if : IsTyped given (table_of right_types (None ∷ None ∷ None ∷ Some (mismatch u16 u8) ∷ None ∷ [])) → ⊥
invented_at_if h =
    (let m = h.truths (e 3) (mismatch u16 u8) refl in
    let a = asked given schedule is_schedule _ (e 3) (inner (node.ExprId (e 4))) 0 tail u16 (record { node_is = omega arith; part = refl }) (λ r. (let is = r.is_if in cc)) m.demand in
    u8_is_no_u16 (only u8 u16 a))
