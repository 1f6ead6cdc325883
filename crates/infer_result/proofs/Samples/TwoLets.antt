-- `fn f() { let x: bool = 1u8; let y: u8 = true; }`: two mistakes, each with its mismatch.
use Rattle.std.proofs.Common.{◌+◌, ◌<◌, ◌≡◌, inl, inr, true, List, [], ◌∷◌, refl, sym, ap, ◌∙◌, arith, Option, Some, None, slice_get, length}
use Rattle.hir_types.specs.declared.ids.ExprOrPatId.TheVariants as node
use Rattle.infer_result.specs.Words.{Ty, RawType, RawBody, Schedule, unit, filled_within, erased, IsClosed, initializer, the_body, inner, IsSchedule, start, end, after, Fits, parts}
use Rattle.hir_types.specs.declared.ty.Ty.TheVariants as ty
use Rattle.hir_types.specs.declared.ty.UintTy.TheVariants as uint
use Rattle.hir_types.specs.declared.ty.IntegerTy.TheVariants as integer
use Rattle.infer_result.specs.Words.hir_raw.declared.raw.RawType.TheVariants as type
use Rattle.infer_result.specs.Words.hir_raw.declared.raw.RawLiteral.TheVariants as literal
use Rattle.infer_result.specs.Words.hir_raw.declared.raw.RawStmt.TheVariants as stmt
use Rattle.infer_result.specs.Words.hir_raw.declared.raw.RawExpr.TheVariants as expr
use Rattle.infer_result.specs.Words.hir_raw.declared.raw.RawPat.TheVariants as pat
use Rattle.infer_result.specs.Own.{empty_table, Column, entry_kind, index, col, IsLong, InferenceResult, TypeMismatch, BindingTy, mismatch, Given, declared, Demand, ObeysOrMismatch, PatRule, IsTruePatMismatch, IsTrueDiagnostic, IsTruePatDiagnostic, IsBinder, NamesVariant, IsVariantPat, IsMisfit, IsMade, IsTyped}
use Rattle.infer_result.specs.Columns as column
use Rattle.infer_result.specs.declared.modes.BindingMode.TheVariants as mode
use Rattle.infer_result.proofs.Derived.{typed_by_schedule}
use Rattle.infer_result.proofs.Samples.Small.{scope_with, e, p, b, w, u8, one_u8, plain, body_of, each_below, each_node, apart_by, only, each_entry, TypesHave, all_types_by, each_placed, closed_u8, closed_bool, closed_unit, u8_differs_bool, none_placed, none_recorded, no_pat_items}

abbrev types : List RawType
types = type.Bool ∷ type.Integer (integer.Uint uint.U8) ∷ []

abbrev body : RawBody
body =
    body_of (expr.Lit one_u8 ∷ expr.Lit (literal.Bool true) ∷ expr.Block None (stmt.Let (p 0) (Some (w 0)) (Some (e 0)) None ∷ stmt.Let (p 1) (Some (w 1)) (Some (e 1)) None ∷ []) None ∷ []) 2
    (pat.Bind (b 0) None ∷ pat.Bind (b 1) None ∷ []) (plain ∷ plain ∷ [])

abbrev given : Given
given = record { scope = scope_with types; body = body; inputs = []; output = Some unit; aliases = [] }

first_declared : (t : InferenceResult) → declared given t (w 0) ≡ ty.Bool
unfolding filled_within
first_declared t = refl

second_declared : (t : InferenceResult) → declared given t (w 1) ≡ u8
unfolding filled_within
second_declared t = refl

abbrev schedule : Schedule
schedule = record { starts = 2 ∷ 4 ∷ 1 ∷ 3 ∷ 5 ∷ 0 ∷ []; ends = 3 ∷ 5 ∷ 6 ∷ 4 ∷ 6 ∷ 6 ∷ []; depths = 2 ∷ 2 ∷ 1 ∷ 2 ∷ 2 ∷ 0 ∷ [] }

is_schedule : IsSchedule body schedule
is_schedule = record {
  starts_size = refl;
  ends_size = refl;
  first = refl;
  fits = each_node body (λ n. Fits body schedule (start body schedule n + 1) (parts body n)) ((omega arith, refl, tt), (((tt, tt), tt), (omega arith, refl, (omega arith, refl, (omega arith, refl, (omega arith, refl, tt))))), ((tt, tt), tt));
  ends = each_node body (λ n. after body schedule (start body schedule n + 1) (parts body n) ≡ end body schedule n) (refl, (((tt, refl), refl), refl), ((tt, refl), refl));
  order = each_node body (λ n. start body schedule n < end body schedule n) (omega arith, (((tt, omega arith), omega arith), omega arith), ((tt, omega arith), omega arith));
  reached = each_node body (λ n. start body schedule n < end body schedule the_body) (omega arith, (((tt, omega arith), omega arith), omega arith), ((tt, omega arith), omega arith));
  apart = apart_by body schedule (the_body ∷ inner (node.ExprId (e 2)) ∷ inner (node.ExprId (e 0)) ∷ inner (node.PatId (p 0)) ∷ inner (node.ExprId (e 1)) ∷ inner (node.PatId (p 1)) ∷ [])
      (refl, (((tt, refl), refl), refl), ((tt, refl), refl));
}

abbrev table_of : List (Option TypeMismatch) → InferenceResult
table_of mismatches = record (empty_table given.body) {
  type_of_expr = Some u8 ∷ Some ty.Bool ∷ Some unit ∷ [];
  type_of_pat = Some ty.Bool ∷ Some u8 ∷ [];
  type_of_binding = Some ty.Bool ∷ Some u8 ∷ [];
  binding_modes = Some mode.Move ∷ Some mode.Move ∷ [];
  expr_mismatches = mismatches;
}

abbrev right : InferenceResult
right = table_of (Some (mismatch ty.Bool u8) ∷ Some (mismatch u8 ty.Bool) ∷ None ∷ [])

block_obeys : ObeysOrMismatch given right (e 2)
block_obeys =
    record {
      statements = rw (first_declared right, second_declared right) (
        (none_recorded given right (tt, (tt, tt)) (w 0), (u8, refl, inr (mismatch ty.Bool u8, refl)), (ty.Bool, refl, inl refl)),
        ((none_recorded given right (tt, (tt, tt)) (w 1), (ty.Bool, refl, inr (mismatch u8 ty.Bool, refl)), (u8, refl, inl refl)), tt),
      );
      type = unit;
      has = refl;
      ends = inl refl;
    }

right_long : (c : Column) → IsLong given.body (index c) (length (col right c))
right_long column.type_of_placeholder = tt
right_long _ = refl

right_closed : (c : Column) → TypesHave IsClosed (entry_kind c) (col right c)
right_closed column.type_of_expr = (closed_u8, (closed_bool, (closed_unit, tt)))
right_closed column.type_of_pat = (closed_bool, (closed_u8, tt))
right_closed column.type_of_binding = (closed_bool, (closed_u8, tt))
right_closed column.expr_mismatches = ((closed_bool, closed_u8), ((closed_u8, closed_bool), tt))
right_closed _ = tt

right_made : IsMade given right
right_made = record {
  shape = record {
    of_body = record { long = right_long };
    closed = all_types_by IsClosed right right_closed;
    modes = λ x. each_placed (λ k m. IsBinder body (p k)) right.binding_modes ((b 0, None, refl), ((b 1, None, refl), tt)) x.0;
    placeholders = none_placed given right refl;
    variants = record {
      exprs = λ x. each_entry (NamesVariant given.body x) right.expr_variants tt x.0;
      pats = λ x. each_entry (IsVariantPat given.body x) right.pat_variants tt x.0;
    };
    items = no_pat_items given right tt;
  };
  clauses = λ x h. each_below (λ k. ObeysOrMismatch given right (e k)) 3 x.0 (((tt, (u8, refl, refl)), (ty.Bool, refl, refl)), block_obeys) h;
  kinds = λ x h. each_below (λ k. PatRule given right (p k) (slice_get body.pats k)) 2 x.0 ((tt, (ty.Bool, refl, refl, refl)), (u8, refl, refl, refl)) h;
  params = λ i q s found is. absurd (cc);
  bindings = λ v h. each_below (λ k. (s : Ty) × BindingTy right (b k) s) 2 v.0 ((tt, (ty.Bool, refl)), (u8, refl)) h;
  body_clause = (unit, refl, inl refl);
  misfits = λ x.
      each_placed (λ k. IsMisfit given right (e k)) right.expr_mismatches
      (record { differ = λ same. u8_differs_bool (sym same); actual = inl refl }, (record { differ = u8_differs_bool; actual = inl refl }, tt)) x.0;
  demands = λ x.
      each_placed (λ k (m : TypeMismatch). Demand given right (e k) m.expected) right.expr_mismatches (
        inl (record { parent = inner (node.ExprId (e 2)); at_part = 0; role = initializer (Some (w 0)); stands = record { node_is = omega arith; part = refl }; asks = (none_recorded given right (tt, (tt, tt)) (w 0), sym (first_declared right)) }),
        (inl (record { parent = inner (node.ExprId (e 2)); at_part = 2; role = initializer (Some (w 1)); stands = record { node_is = omega arith; part = refl }; asks = (none_recorded given right (tt, (tt, tt)) (w 1), sym (second_declared right)) }), tt),
      ) x.0;
  complaints = record {
    diagnostics = λ x. each_entry (IsTrueDiagnostic given right x) right.expr_diagnostics tt x.0;
    pat_diagnostics = λ x. each_entry (IsTruePatDiagnostic given x) right.pat_diagnostics tt x.0;
    pat_truths = λ x. each_entry (IsTruePatMismatch given right x) right.pat_mismatches tt x.0;
    seen = λ i x found. absurd (cc);
    said = λ i x found. absurd (cc);
  };
}

pub right_typed : IsTyped given right
right_typed = typed_by_schedule given right schedule is_schedule right_made

-- ---- refused

-- the mismatch of the first statement excuses no other statement
pub one_left_out : IsTyped given (table_of (Some (mismatch ty.Bool u8) ∷ None ∷ None ∷ [])) → ⊥
one_left_out h =
    (let c = h.clauses (e 2) (omega arith) in
    let at = c.statements.1.0.1 in
    let a : ty.Bool ≡ at.0 = only ty.Bool at.0 at.1 in
    elim at.2 [ inl same ↦ u8_differs_bool (sym (ap erased a ∙ (same ∙ ap erased (second_declared (table_of (Some (mismatch ty.Bool u8) ∷ None ∷ None ∷ [])))))) | inr m ↦ (let clash = m.1 in cc) ])
