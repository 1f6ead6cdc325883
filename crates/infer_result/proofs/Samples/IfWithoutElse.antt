-- `fn f(c: bool) { let x = if c { 1u8 }; }`: the mismatch stands at the `if` itself, which has the type of its branch and may end
-- without a value; its own type is then any.
use Rattle.std.proofs.Common.{◌+◌, ◌<◌, ◌≡◌, inl, inr, List, [], ◌∷◌, refl, sym, ap, subst, ◌∙◌, arith, Option, Some, None, slice_get, length}
use Rattle.hir_types.specs.declared.ids.ExprOrPatId.TheVariants as node
use Rattle.infer_result.specs.Words.{Ty, RawType, RawBody, Schedule, unit, filled_within, written_type, erased, IsClosed, initializer, then_branch, the_body, inner, IsSchedule, start, end, after, Fits, parts}
use Rattle.hir_types.specs.declared.ty.Ty.TheVariants as ty
use Rattle.infer_result.specs.Words.hir_raw.declared.raw.RawType.TheVariants as type
use Rattle.infer_result.specs.Words.hir_raw.declared.raw.RawPath.TheVariants as path
use Rattle.infer_result.specs.Words.hir_raw.declared.raw.RawStmt.TheVariants as stmt
use Rattle.infer_result.specs.Words.hir_raw.declared.raw.RawExpr.TheVariants as expr
use Rattle.infer_result.specs.Words.hir_raw.declared.raw.RawPat.TheVariants as pat
use Rattle.infer_result.specs.Own.{empty_table, Column, entry_kind, index, col, IsLong, InferenceResult, TypeMismatch, HasTy, PatTy, BindingTy, mismatch, Given, Demand, ObeysOrMismatch, PatRule, IsTruePatMismatch, IsTrueDiagnostic, IsTruePatDiagnostic, IsBinder, NamesVariant, IsVariantPat, IsMisfit, IsMade, IsTyped}
use Rattle.infer_result.specs.Columns as column
use Rattle.infer_result.specs.declared.modes.BindingMode.TheVariants as mode
use Rattle.infer_result.proofs.Derived.{typed_by_schedule}
use Rattle.infer_result.proofs.Samples.Small.{scope_with, e, p, b, w, u8, one_u8, plain, body_with, each_below, each_node, apart_by, asks_here, asked, one_param, no_other, only, each_entry, TypesHave, all_types_by, each_placed, nowhere, closed_u8, closed_bool, closed_unit, closed_error, u8_is_no_bool, u8_is_no_unit, bool_is_no_error, bool_is_no_unit, u8_differs_unit, none_placed, no_pat_items}

abbrev types : List RawType
types = type.Bool ∷ []

abbrev body : RawBody
body =
    body_with (p 0 ∷ []) (expr.Path (path.Local (b 0)) ∷ expr.Lit one_u8 ∷ expr.If (e 0) (e 1) None ∷ expr.Block None (stmt.Let (p 1) None (Some (e 2)) None ∷ []) None ∷ []) 3
    (pat.Bind (b 0) None ∷ pat.Bind (b 1) None ∷ []) (plain ∷ plain ∷ [])

abbrev given : Given
given = record { scope = scope_with types; body = body; inputs = Some (written_type types (w 0)) ∷ []; output = Some unit; aliases = [] }

written : written_type types (w 0) ≡ ty.Bool
unfolding filled_within
written = refl

abbrev schedule : Schedule
schedule = record { starts = 4 ∷ 5 ∷ 3 ∷ 2 ∷ 1 ∷ 6 ∷ 0 ∷ []; ends = 5 ∷ 6 ∷ 6 ∷ 7 ∷ 2 ∷ 7 ∷ 7 ∷ []; depths = 3 ∷ 3 ∷ 2 ∷ 1 ∷ 1 ∷ 2 ∷ 0 ∷ [] }

is_schedule : IsSchedule body schedule
is_schedule = record {
  starts_size = refl;
  ends_size = refl;
  first = refl;
  fits = each_node body (λ n. Fits body schedule (start body schedule n + 1) (parts body n))
      ((omega arith, refl, (omega arith, refl, tt)), ((((tt, tt), tt), (omega arith, refl, (omega arith, refl, tt))), (omega arith, refl, (omega arith, refl, tt))), ((tt, tt), tt));
  ends = each_node body (λ n. after body schedule (start body schedule n + 1) (parts body n) ≡ end body schedule n) (refl, ((((tt, refl), refl), refl), refl), ((tt, refl), refl));
  order = each_node body (λ n. start body schedule n < end body schedule n) (omega arith, ((((tt, omega arith), omega arith), omega arith), omega arith), ((tt, omega arith), omega arith));
  reached = each_node body (λ n. start body schedule n < end body schedule the_body) (omega arith, ((((tt, omega arith), omega arith), omega arith), omega arith), ((tt, omega arith), omega arith));
  apart = apart_by body schedule
      (the_body ∷ inner (node.PatId (p 0)) ∷ inner (node.ExprId (e 3)) ∷ inner (node.ExprId (e 2)) ∷ inner (node.ExprId (e 0)) ∷ inner (node.ExprId (e 1)) ∷ inner (node.PatId (p 1)) ∷ [])
      (refl, ((((tt, refl), refl), refl), refl), ((tt, refl), refl));
}

-- the `if` has the type s
abbrev table_of : Ty → List (Option TypeMismatch) → InferenceResult
table_of s mismatches = record (empty_table given.body) {
  type_of_expr = Some ty.Bool ∷ Some u8 ∷ Some s ∷ Some unit ∷ [];
  type_of_pat = Some ty.Bool ∷ Some s ∷ [];
  type_of_binding = Some ty.Bool ∷ Some s ∷ [];
  binding_modes = Some mode.Move ∷ Some mode.Move ∷ [];
  expr_mismatches = mismatches;
}

abbrev right : Ty → InferenceResult
right s = table_of s (None ∷ None ∷ Some (mismatch u8 unit) ∷ None ∷ [])

right_long : (s : Ty) (c : Column) → IsLong given.body (index c) (length (col (right s) c))
right_long s column.type_of_placeholder = tt
right_long s _ = refl

right_closed : (s : Ty) → IsClosed s → (c : Column) → TypesHave IsClosed (entry_kind c) (col (right s) c)
right_closed s closed_s column.type_of_expr = (closed_bool, (closed_u8, (closed_s, (closed_unit, tt))))
right_closed s closed_s column.type_of_pat = (closed_bool, (closed_s, tt))
right_closed s closed_s column.type_of_binding = (closed_bool, (closed_s, tt))
right_closed s closed_s column.expr_mismatches = ((closed_u8, closed_unit), tt)
right_closed s closed_s _ = tt

right_made : (s : Ty) → IsClosed s → IsMade given (right s)
right_made s closed_s = record {
  shape = record {
    of_body = record { long = right_long s };
    closed = all_types_by IsClosed (right s) (right_closed s closed_s);
    modes = λ x. each_placed (λ k m. IsBinder body (p k)) (right s).binding_modes ((b 0, None, refl), ((b 1, None, refl), tt)) x.0;
    placeholders = none_placed given (right s) refl;
    variants = record {
      exprs = λ x. each_entry (NamesVariant given.body x) (right s).expr_variants tt x.0;
      pats = λ x. each_entry (IsVariantPat given.body x) (right s).pat_variants tt x.0;
    };
    items = no_pat_items given (right s) tt;
  };
  clauses = λ x h.
      each_below (λ k. ObeysOrMismatch given (right s) (e k)) 4 x.0 (
        (
          ((tt, (ty.Bool, refl, refl)), (u8, refl, refl)),
          record {
            condition = (ty.Bool, refl, inl refl);
            type = s;
            has = refl;
            branch = inr (inl (mismatch u8 unit, refl));
            otherwise = inr (inl (mismatch u8 unit, refl));
          },
        ),
        record { statements = ((s, refl, (s, refl, inl refl)), tt); type = unit; has = refl; ends = inl refl },
      ) h;
  kinds = λ x h. each_below (λ k. PatRule given (right s) (p k) (slice_get body.pats k)) 2 x.0 ((tt, (ty.Bool, refl, refl, refl)), (s, refl, refl, refl)) h;
  params = one_param given (right s) (p 0) (w 0) refl refl (subst (PatTy (right s) (p 0)) (sym written) refl);
  bindings = λ v h. each_below (λ k. (r : Ty) × BindingTy (right s) (b k) r) 2 v.0 ((tt, (ty.Bool, refl)), (s, refl)) h;
  body_clause = (unit, refl, inl refl);
  misfits = λ x. each_placed (λ k. IsMisfit given (right s) (e k)) (right s).expr_mismatches (record { differ = u8_differs_unit; actual = inr (inr (record { condition = e 0; branch = e 1; is_if = refl }), refl) }, tt) x.0;
  demands = λ x. each_placed (λ k (m : TypeMismatch). Demand given (right s) (e k) m.expected) (right s).expr_mismatches (inr (record { condition = e 0; branch = e 1; is_if = refl; has = refl }), tt) x.0;
  complaints = record {
    diagnostics = λ x. each_entry (IsTrueDiagnostic given (right s) x) (right s).expr_diagnostics tt x.0;
    pat_diagnostics = λ x. each_entry (IsTruePatDiagnostic given x) (right s).pat_diagnostics tt x.0;
    pat_truths = λ x. each_entry (IsTruePatMismatch given (right s) x) (right s).pat_mismatches tt x.0;
    seen = λ i x found. absurd (cc);
    said = λ i x found. absurd (cc);
  };
}

pub each_typed : (s : Ty) → IsClosed s → IsTyped given (right s)
each_typed s closed_s = typed_by_schedule given (right s) schedule is_schedule (right_made s closed_s)

pub right_typed : IsTyped given (right ty.Error)
right_typed = each_typed ty.Error closed_error

-- ---- refused, whatever type the `if` has

-- no mismatch
pub none : (s : Ty) → IsTyped given (table_of s (None ∷ None ∷ None ∷ None ∷ [])) → ⊥
none s h =
    (let c = h.clauses (e 2) (omega arith) in
    elim c.otherwise [
      | inl ends ↦
          elim c.branch [
            | inl at ↦ (let a : u8 ≡ at.0 = only u8 at.0 at.1 in u8_differs_unit (ap erased a ∙ (at.2 ∙ sym ends)))
            | inr m ↦ nowhere (table_of s (None ∷ None ∷ None ∷ None ∷ [])) tt (e 2 ∷ e 1 ∷ []) m
          ]
      | inr m ↦ nowhere (table_of s (None ∷ None ∷ None ∷ None ∷ [])) tt (e 2 ∷ e 1 ∷ []) m
    ])

-- all that is demanded of the `if` is the type of its branch
demanded : (t : InferenceResult) (u : Ty) → HasTy t (e 1) u8 → Demand given t (e 2) u → u8 ≡ u
demanded t u has (inl d) = absurd (asks_here given schedule is_schedule t (e 2) (inner (node.ExprId (e 3))) 0 (initializer None) u (record { node_is = omega arith; part = refl }) d)
demanded t u has (inr d) =
    (let is : Some (expr.If (e 0) (e 1) None) ≡ Some (expr.If d.condition d.branch None) = d.is_if in
    let one : e 1 ≡ d.branch = cc in
    let here : HasTy t (e 1) u = subst (λ x. HasTy t x u) (sym one) d.has in
    let k : Some (Some u8) ≡ Some (Some u) = sym has ∙ here in only u8 u k)

-- the types exchanged
pub exchanged : (s : Ty) → IsTyped given (table_of s (None ∷ None ∷ Some (mismatch unit u8) ∷ None ∷ [])) → ⊥
exchanged s h = u8_is_no_unit (demanded _ unit refl (h.truths (e 2) (mismatch unit u8) refl).demand)

-- a type expected that the branch has not
pub another_expected : (s : Ty) → IsTyped given (table_of s (None ∷ None ∷ Some (mismatch ty.Bool unit) ∷ None ∷ [])) → ⊥
another_expected s h = u8_is_no_bool (demanded _ ty.Bool refl (h.truths (e 2) (mismatch ty.Bool unit) refl).demand)

-- another actual type than `()`, where the `if` has not that type
pub another_actual : IsTyped given (table_of ty.Error (None ∷ None ∷ Some (mismatch u8 ty.Bool) ∷ None ∷ [])) → ⊥
another_actual h =
    (let m = h.truths (e 2) (mismatch u8 ty.Bool) refl in
    elim m.actual [ inl has ↦ bool_is_no_error (sym (only ty.Error ty.Bool has)) | inr ends ↦ bool_is_no_unit ends.1 ])

-- the mismatch at the branch in its place, which has the type that is asked of it
pub at_branch : IsTyped given (table_of u8 (None ∷ Some (mismatch unit u8) ∷ None ∷ None ∷ [])) → ⊥
at_branch h =
    (let m = h.truths (e 1) (mismatch unit u8) refl in
    let a = asked given schedule is_schedule _ (e 1) (inner (node.ExprId (e 2))) 1 then_branch unit (record { node_is = omega arith; part = refl }) (λ r. (let is = r.is_if in cc)) m.demand in
    elim a [
      | inl has ↦ u8_is_no_unit (only u8 unit has)
      | inr other ↦ no_other body _ (e 2) then_branch unit ((λ i k. absurd i), ((λ i k. absurd i), tt)) other
    ])
