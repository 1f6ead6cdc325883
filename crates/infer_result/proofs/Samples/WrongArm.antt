-- `fn f(c: bool) { match c { true => 1u8, false => true }; }`: the mismatch stands at the second arm, of which the type of the first
-- is asked; the type of the `match` is then any.
use Rattle.std.proofs.Common.{◌+◌, ◌<◌, ◌≡◌, inl, inr, true, false, List, [], ◌∷◌, refl, sym, ap, subst, ◌∙◌, arith, Option, Some, None, slice_get, length}
use Rattle.hir_types.specs.declared.ids.ExprOrPatId.TheVariants as node
use Rattle.infer_result.specs.Words.{Ty, Ty-F, out-Ty, RawType, RawBody, Schedule, unit, filled_within, written_type, erased, IsClosed, statement, arm_pattern, arm, pattern_literal, the_body, inner, IsSchedule, start, end, after, Fits, parts}
use Rattle.hir_types.specs.declared.ty.Ty.TheVariants as ty
use Rattle.hir_types.specs.declared.ty.UintTy.TheVariants as uint
use Rattle.infer_result.specs.Words.hir_raw.declared.raw.RawType.TheVariants as type
use Rattle.infer_result.specs.Words.hir_raw.declared.raw.RawLiteral.TheVariants as literal
use Rattle.infer_result.specs.Words.hir_raw.declared.raw.RawStmt.TheVariants as stmt
use Rattle.infer_result.specs.Words.hir_raw.declared.raw.RawPath.TheVariants as path
use Rattle.infer_result.specs.Words.hir_raw.declared.raw.RawExpr.TheVariants as expr
use Rattle.infer_result.specs.Words.hir_raw.declared.raw.RawPat.TheVariants as pat
use Rattle.infer_result.specs.Own.{empty_table, Column, entry_kind, index, col, IsLong, InferenceResult, TypeMismatch, AnyMismatch, PatTy, BindingTy, mismatch, Given, IsOfOther, Demand, ObeysOrMismatch, PatRule, IsTruePatMismatch, IsTrueDiagnostic, IsTruePatDiagnostic, IsBinder, NamesVariant, IsVariantPat, IsMisfit, IsMade, IsTyped}
use Rattle.infer_result.specs.Columns as column
use Rattle.infer_result.specs.declared.modes.BindingMode.TheVariants as mode
use Rattle.infer_result.proofs.Derived.{typed_by_schedule}
use Rattle.infer_result.proofs.Samples.Small.{scope_with, e, p, b, w, u8, u16, one_u8, plain, body_with, each_below, each_node, apart_by, asked, comes, one_param, no_other, only, each_entry, TypesHave, all_types_by, each_placed, nowhere, closed_u8, closed_bool, closed_unit, closed_error, top_uint, top_error, u8_is_no_bool, bool_is_no_error, u8_is_no_u16, u8_differs_bool, none_placed, no_pat_items}

abbrev body : RawBody
body =
    body_with (p 0 ∷ [])
    (expr.Path (path.Local (b 0)) ∷ expr.Lit (literal.Bool true) ∷ expr.Lit (literal.Bool false) ∷ expr.Lit one_u8 ∷ expr.Lit (literal.Bool true)
    ∷ expr.Match (e 0) (record { pat = p 1; guard = None; expr = e 3 } ∷ record { pat = p 2; guard = None; expr = e 4 } ∷ []) ∷ expr.Block None (stmt.Expr (e 5) true ∷ []) None ∷ [])
    6 (pat.Bind (b 0) None ∷ pat.Lit (e 1) ∷ pat.Lit (e 2) ∷ []) (plain ∷ [])

abbrev types : List RawType
types = type.Bool ∷ []

abbrev given : Given
given = record { scope = scope_with types; body = body; inputs = Some (written_type types (w 0)) ∷ []; output = Some unit; aliases = [] }

written : written_type types (w 0) ≡ ty.Bool
unfolding filled_within
written = refl

abbrev schedule : Schedule
schedule = record {
  starts = 4 ∷ 6 ∷ 8 ∷ 9 ∷ 10 ∷ 3 ∷ 2 ∷ 1 ∷ 5 ∷ 7 ∷ 0 ∷ [];
  ends = 5 ∷ 7 ∷ 9 ∷ 10 ∷ 11 ∷ 11 ∷ 11 ∷ 2 ∷ 7 ∷ 9 ∷ 11 ∷ [];
  depths = 3 ∷ 4 ∷ 4 ∷ 3 ∷ 3 ∷ 2 ∷ 1 ∷ 1 ∷ 3 ∷ 3 ∷ 0 ∷ [];
}

is_schedule : IsSchedule body schedule
is_schedule = record {
  starts_size = refl;
  ends_size = refl;
  first = refl;
  fits = each_node body (λ n. Fits body schedule (start body schedule n + 1) (parts body n)) (
    (omega arith, refl, (omega arith, refl, tt)),
    (((((((tt, tt), tt), tt), tt), tt), (omega arith, refl, (omega arith, refl, (omega arith, refl, (omega arith, refl, (omega arith, refl, tt)))))), (omega arith, refl, tt)),
    (((tt, tt), (omega arith, refl, tt)), (omega arith, refl, tt)),
  );
  ends = each_node body (λ n. after body schedule (start body schedule n + 1) (parts body n) ≡ end body schedule n)
      (refl, (((((((tt, refl), refl), refl), refl), refl), refl), refl), (((tt, refl), refl), refl));
  order = each_node body (λ n. start body schedule n < end body schedule n)
      (omega arith, (((((((tt, omega arith), omega arith), omega arith), omega arith), omega arith), omega arith), omega arith), (((tt, omega arith), omega arith), omega arith));
  reached = each_node body (λ n. start body schedule n < end body schedule the_body)
      (omega arith, (((((((tt, omega arith), omega arith), omega arith), omega arith), omega arith), omega arith), omega arith), (((tt, omega arith), omega arith), omega arith));
  apart = apart_by body schedule
      (the_body ∷ inner (node.PatId (p 0)) ∷ inner (node.ExprId (e 6)) ∷ inner (node.ExprId (e 5)) ∷ inner (node.ExprId (e 0)) ∷ inner (node.PatId (p 1)) ∷ inner (node.ExprId (e 1))
      ∷ inner (node.PatId (p 2)) ∷ inner (node.ExprId (e 2)) ∷ inner (node.ExprId (e 3)) ∷ inner (node.ExprId (e 4)) ∷ [])
      (refl, (((((((tt, refl), refl), refl), refl), refl), refl), refl), (((tt, refl), refl), refl));
}

-- the `match` has the type s
abbrev table_of : Ty → List (Option TypeMismatch) → InferenceResult
table_of s mismatches = record (empty_table given.body) {
  type_of_expr = Some ty.Bool ∷ Some ty.Bool ∷ Some ty.Bool ∷ Some u8 ∷ Some ty.Bool ∷ Some s ∷ Some unit ∷ [];
  type_of_pat = Some ty.Bool ∷ Some ty.Bool ∷ Some ty.Bool ∷ [];
  type_of_binding = Some ty.Bool ∷ [];
  binding_modes = Some mode.Move ∷ None ∷ None ∷ [];
  expr_mismatches = mismatches;
}

-- a mismatch at the second arm alone
abbrev at_second : TypeMismatch → List (Option TypeMismatch)
at_second m = None ∷ None ∷ None ∷ None ∷ Some m ∷ None ∷ None ∷ []

abbrev right : Ty → InferenceResult
right s = table_of s (at_second (mismatch u8 ty.Bool))

listed : (s : Ty) → AnyMismatch (right s) (e 3 ∷ e 4 ∷ [])
listed s = inr (inl (mismatch u8 ty.Bool, refl))

match_obeys : (s : Ty) → ObeysOrMismatch given (right s) (e 5)
match_obeys s = record {
  scrutinee = ty.Bool;
  comes = refl;
  patterns = ((ty.Bool, refl, inl refl), ((ty.Bool, refl, inl refl), tt));
  type = s;
  has = refl;
  alternatives = ((tt, inr (listed s)), ((tt, inr (listed s)), tt));
}

of_first : (s : Ty) → IsOfOther body (right s) (e 5) (arm 1) u8
of_first s = record { other = arm 0; expr = e 3; at_part = 3; stands = refl; is_before = omega arith; has = refl }

right_long : (s : Ty) (c : Column) → IsLong given.body (index c) (length (col (right s) c))
right_long s column.type_of_placeholder = tt
right_long s _ = refl

right_closed : (s : Ty) → IsClosed s → (c : Column) → TypesHave IsClosed (entry_kind c) (col (right s) c)
right_closed s closed_s column.type_of_expr = (closed_bool, (closed_bool, (closed_bool, (closed_u8, (closed_bool, (closed_s, (closed_unit, tt)))))))
right_closed s closed_s column.type_of_pat = (closed_bool, (closed_bool, (closed_bool, tt)))
right_closed s closed_s column.type_of_binding = (closed_bool, tt)
right_closed s closed_s column.expr_mismatches = ((closed_u8, closed_bool), tt)
right_closed s closed_s _ = tt

right_made : (s : Ty) → IsClosed s → IsMade given (right s)
right_made s closed_s = record {
  shape = record {
    of_body = record { long = right_long s };
    closed = all_types_by IsClosed (right s) (right_closed s closed_s);
    modes = λ x. each_placed (λ k m. IsBinder body (p k)) (right s).binding_modes ((b 0, None, refl), tt) x.0;
    placeholders = none_placed given (right s) refl;
    variants = record {
      exprs = λ x. each_entry (NamesVariant given.body x) (right s).expr_variants tt x.0;
      pats = λ x. each_entry (IsVariantPat given.body x) (right s).pat_variants tt x.0;
    };
    items = no_pat_items given (right s) tt;
  };
  clauses = λ x h.
      each_below (λ k. ObeysOrMismatch given (right s) (e k)) 7 x.0
      (((((((tt, (ty.Bool, refl, refl)), (ty.Bool, refl, refl)), (ty.Bool, refl, refl)), (u8, refl, refl)), (ty.Bool, refl, refl)), match_obeys s), record { statements = (tt, tt); type = unit; has = refl; ends = inl refl }) h;
  kinds = λ x h. each_below (λ k. PatRule given (right s) (p k) (slice_get body.pats k)) 3 x.0 (((tt, (ty.Bool, refl, refl, refl)), (ty.Bool, refl, refl)), (ty.Bool, refl, refl)) h;
  params = one_param given (right s) (p 0) (w 0) refl refl (subst (PatTy (right s) (p 0)) (sym written) refl);
  bindings = λ v h. each_below (λ k. (r : Ty) × BindingTy (right s) (b k) r) 1 v.0 (tt, (ty.Bool, refl)) h;
  body_clause = (unit, refl, inl refl);
  misfits = λ x. each_placed (λ k. IsMisfit given (right s) (e k)) (right s).expr_mismatches (record { differ = u8_differs_bool; actual = inl refl }, tt) x.0;
  demands = λ x.
      each_placed (λ k (m : TypeMismatch). Demand given (right s) (e k) m.expected) (right s).expr_mismatches
      (inl (record { parent = inner (node.ExprId (e 5)); at_part = 4; role = arm 1; stands = record { node_is = omega arith; part = refl }; asks = inr (of_first s) }), tt) x.0;
  complaints = record {
    diagnostics = λ x. each_entry (IsTrueDiagnostic given (right s) x) (right s).expr_diagnostics tt x.0;
    pat_diagnostics = λ x. each_entry (IsTruePatDiagnostic given x) (right s).pat_diagnostics tt x.0;
    pat_truths = λ x. each_entry (IsTruePatMismatch given (right s) x) (right s).pat_mismatches tt x.0;
    seen = λ i x found. absurd (cc);
    said = λ i x found. absurd (cc);
  };
}

pub each_typed : (s : Ty) → IsClosed s → IsTyped given (right s)
each_typed s closed_s = typed_by_schedule given (right s) schedule is_schedule (right_made s closed_s)

pub right_typed : IsTyped given (right ty.Error)
right_typed = each_typed ty.Error closed_error

-- ---- refused

-- no mismatch, whatever type the `match` has
abbrev silent : Ty → InferenceResult
silent s = table_of s (None ∷ None ∷ None ∷ None ∷ None ∷ None ∷ None ∷ [])

pub none : (s : Ty) → IsTyped given (silent s) → ⊥
none s h =
    (let c = h.clauses (e 5) (omega arith) in
    elim c.alternatives.0.1 [
      | inl first ↦
          elim c.alternatives.1.0.1 [
            | inl second ↦ (
                let a : u8 ≡ first.0 = only u8 first.0 first.1 in
                let d : ty.Bool ≡ second.0 = only ty.Bool second.0 second.1 in
                u8_differs_bool (ap erased a ∙ (first.2 ∙ sym (ap erased d ∙ second.2))))
            | inr m ↦ nowhere (silent s) tt (e 3 ∷ e 4 ∷ []) m
          ]
      | inr m ↦ nowhere (silent s) tt (e 3 ∷ e 4 ∷ []) m
    ])

u16_is_no_error : u16 ≡ ty.Error → ⊥
u16_is_no_error h = (let k : Ty-F.Uint uint.U16 ≡ Ty-F.Error = sym (top_uint uint.U16) ∙ (ap out-Ty h ∙ top_error) in cc)

-- a type expected that neither the `match` nor another arm has
pub another_expected : IsTyped given (table_of ty.Error (at_second (mismatch u16 ty.Bool))) → ⊥
another_expected h =
    (let m = h.truths (e 4) (mismatch u16 ty.Bool) refl in
    let a = asked given schedule is_schedule _ (e 4) (inner (node.ExprId (e 5))) 4 (arm 1) u16 (record { node_is = omega arith; part = refl }) (λ r. (let is = r.is_if in cc)) m.demand in
    elim a [
      | inl has ↦ u16_is_no_error (sym (only ty.Error u16 has))
      | inr other ↦ no_other body _ (e 5) (arm 1) u16 ((λ i k. absurd i), (tt, (tt, ((λ i k. u8_is_no_u16 (only u8 u16 k)), ((λ i k. absurd (omega arith)), tt))))) other
    ])

-- the types exchanged
pub exchanged : (s : Ty) → IsTyped given (table_of s (at_second (mismatch ty.Bool u8))) → ⊥
exchanged s h =
    (let m = h.truths (e 4) (mismatch ty.Bool u8) refl in
    elim m.actual [
      | inl has ↦ u8_is_no_bool (sym (only ty.Bool u8 has))
      | inr ends ↦ elim ends.0 [ inl block ↦ (let is = block.is_block in cc) | inr branch ↦ (let is = branch.is_if in cc) ]
    ])

-- the mismatch at the first arm, before which there is none of which the type could be asked
pub at_first : IsTyped given (table_of ty.Error (None ∷ None ∷ None ∷ Some (mismatch ty.Bool u8) ∷ None ∷ None ∷ None ∷ [])) → ⊥
at_first h =
    (let m = h.truths (e 3) (mismatch ty.Bool u8) refl in
    let a = asked given schedule is_schedule _ (e 3) (inner (node.ExprId (e 5))) 3 (arm 0) ty.Bool (record { node_is = omega arith; part = refl }) (λ r. (let is = r.is_if in cc)) m.demand in
    elim a [
      | inl has ↦ bool_is_no_error (sym (only ty.Error ty.Bool has))
      | inr other ↦ no_other body _ (e 5) (arm 0) ty.Bool ((λ i k. absurd i), (tt, (tt, ((λ i k. absurd (omega arith)), ((λ i k. absurd (omega arith)), tt))))) other
    ])

-- the mismatch at the `match` in the place of its arm: a statement with a semicolon asks nothing of it
pub at_match : (s x y : Ty) → IsTyped given (table_of s (None ∷ None ∷ None ∷ None ∷ None ∷ Some (mismatch x y) ∷ None ∷ [])) → ⊥
at_match s x y h =
    (let m = h.truths (e 5) (mismatch x y) refl in
    asked given schedule is_schedule _ (e 5) (inner (node.ExprId (e 6))) 0 (statement true) x (record { node_is = omega arith; part = refl }) (λ r. (let is = r.is_if in cc)) m.demand)

-- one more at the literal of a pattern, which has the type of the scrutinee
pub one_more : (s : Ty) → IsTyped given (table_of s (None ∷ Some (mismatch u8 ty.Bool) ∷ None ∷ None ∷ Some (mismatch u8 ty.Bool) ∷ None ∷ None ∷ [])) → ⊥
one_more s h =
    (let m = h.truths (e 1) (mismatch u8 ty.Bool) refl in
    let a = asked given schedule is_schedule _ (e 1) (inner (node.PatId (p 1))) 0 pattern_literal u8 (record { node_is = omega arith; part = refl }) (λ r. (let is = r.is_if in cc)) m.demand in
    let c = comes given schedule is_schedule _ (p 1) (inner (node.ExprId (e 5))) 1 (arm_pattern (e 0) 0) u8 (record { node_is = omega arith; part = refl }) a.1 in
    u8_is_no_bool (sym (only ty.Bool u8 c)))
