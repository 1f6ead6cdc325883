-- `fn f() { let x: <u8 as A>::O = true; }`, where it is known that the associated type is `bool`: that is recorded for it.
use Rattle.std.proofs.Common.{ℕ, zero, suc, ◌+◌, ◌<◌, ◌≡◌, inl, true, List, [], ◌∷◌, refl, ap, arith, Option, Some, None, slice_get, length}
use Rattle.hir_types.specs.declared.ids.ExprOrPatId.TheVariants as node
use Rattle.infer_result.specs.Words.{Ty, RawType, RawBody, Schedule, unit, erased, IsClosed, is_hole, the_body, inner, IsSchedule, start, end, after, Fits, parts, filled_within, StandsIn, is_itself}
use Rattle.hir_types.specs.declared.ty.Ty.TheVariants as ty
use Rattle.hir_types.specs.declared.ty.UintTy.TheVariants as uint
use Rattle.hir_types.specs.declared.ty.IntegerTy.TheVariants as integer
use Rattle.infer_result.specs.Words.hir_raw.declared.raw.RawType.TheVariants as type
use Rattle.infer_result.specs.Words.hir_raw.declared.raw.RawLiteral.TheVariants as literal
use Rattle.infer_result.specs.Words.hir_raw.declared.raw.RawStmt.TheVariants as stmt
use Rattle.infer_result.specs.Words.hir_raw.declared.raw.RawExpr.TheVariants as expr
use Rattle.infer_result.specs.Words.hir_raw.declared.raw.RawPat.TheVariants as pat
use Rattle.infer_result.specs.Own.{empty_table, Column, entry_kind, index, col, IsLong, InferenceResult, IsBinder, NamesVariant, IsVariantPat, BindingTy, PlaceholderTy, Given, let_types, declared, IsPlaceholder, IsAsKnown, AreRecorded, Demand, ObeysOrMismatch, PatRule, IsTruePatMismatch, IsTrueDiagnostic, IsTruePatDiagnostic, IsMisfit, IsMade, IsTyped}
use Rattle.infer_result.specs.Columns as column
use Rattle.infer_result.specs.declared.modes.BindingMode.TheVariants as mode
use Rattle.infer_result.proofs.Derived.{typed_by_schedule}
use Rattle.infer_result.proofs.Samples.Small.{scope_with, e, p, b, w, u8, plain, body_of, each_below, each_node, apart_by, each_entry, TypesHave, all_types_by, each_placed, closed_bool, closed_unit, u8_differs_bool, no_pat_items}

abbrev types : List RawType
types = type.Integer (integer.Uint uint.U8) ∷ type.Projection (record { 0 = 0 }) (w 0 ∷ []) ∷ []

abbrev body : RawBody
body = body_of (expr.Lit (literal.Bool true) ∷ expr.Block None (stmt.Let (p 0) (Some (w 1)) (Some (e 0)) None ∷ []) None ∷ []) 1 (pat.Bind (b 0) None ∷ []) (plain ∷ [])

abbrev given : Given
given = record { scope = scope_with types; body = body; inputs = []; output = Some unit; aliases = None ∷ Some ty.Bool ∷ [] }

abbrev schedule : Schedule
schedule = record { starts = 2 ∷ 1 ∷ 3 ∷ 0 ∷ []; ends = 3 ∷ 4 ∷ 4 ∷ 4 ∷ []; depths = 2 ∷ 1 ∷ 2 ∷ 0 ∷ [] }

is_schedule : IsSchedule body schedule
is_schedule = record {
  starts_size = refl;
  ends_size = refl;
  first = refl;
  fits = each_node body (λ n. Fits body schedule (start body schedule n + 1) (parts body n)) ((omega arith, refl, tt), ((tt, tt), (omega arith, refl, (omega arith, refl, tt))), (tt, tt));
  ends = each_node body (λ n. after body schedule (start body schedule n + 1) (parts body n) ≡ end body schedule n) (refl, ((tt, refl), refl), (tt, refl));
  order = each_node body (λ n. start body schedule n < end body schedule n) (omega arith, ((tt, omega arith), omega arith), (tt, omega arith));
  reached = each_node body (λ n. start body schedule n < end body schedule the_body) (omega arith, ((tt, omega arith), omega arith), (tt, omega arith));
  apart = apart_by body schedule (the_body ∷ inner (node.ExprId (e 1)) ∷ inner (node.ExprId (e 0)) ∷ inner (node.PatId (p 0)) ∷ []) (refl, ((tt, refl), refl), (tt, refl));
}

-- what is recorded for the associated type
abbrev table_of : Option Ty → InferenceResult
table_of found = record (empty_table given.body) {
  type_of_expr = Some ty.Bool ∷ Some unit ∷ [];
  type_of_pat = Some ty.Bool ∷ [];
  type_of_binding = Some ty.Bool ∷ [];
  type_of_placeholder = None ∷ found ∷ [];
  binding_modes = Some mode.Move ∷ [];
}

abbrev right : InferenceResult
right = table_of (Some ty.Bool)

declared_is : (s : Ty) → declared given (table_of (Some s)) (w 1) ≡ s
unfolding filled_within
declared_is s = refl

alias_stands : StandsIn (let_types given) 1 1
alias_stands = is_itself refl

are_recorded : AreRecorded given right (w 1)
are_recorded k stands = at k (is_hole (let_types given) k 1 stands)
  where
    at : (k : ℕ) → slice_get (let_types given) k ≡ Some type.Hole → (s : Ty) × PlaceholderTy right k s
    at zero is = absurd (cc)
    at (suc zero) is = (ty.Bool, refl)
    at (suc (suc k)) is = absurd (cc)

block_obeys : ObeysOrMismatch given right (e 1)
block_obeys = record { statements = rw (declared_is ty.Bool) ((are_recorded, (ty.Bool, refl, inl refl), (ty.Bool, refl, inl refl)), tt); type = unit; has = refl; ends = inl refl }

is_placeholder : IsPlaceholder given 1
is_placeholder = record { block = e 1; at_stmt = 0; pattern = p 0; written = w 1; init = Some (e 0); other = None; is_let = refl; stands = alias_stands }

as_known : IsAsKnown given 1 ty.Bool
as_known u is = (let both : Some ty.Bool ≡ Some u = is in cc)

right_long : (c : Column) → IsLong given.body (index c) (length (col right c))
right_long column.type_of_placeholder = tt
right_long _ = refl

right_closed : (c : Column) → TypesHave IsClosed (entry_kind c) (col right c)
right_closed column.type_of_expr = (closed_bool, (closed_unit, tt))
right_closed column.type_of_pat = (closed_bool, tt)
right_closed column.type_of_binding = (closed_bool, tt)
right_closed column.type_of_placeholder = (closed_bool, tt)
right_closed _ = tt

right_made : IsMade given right
right_made = record {
  shape = record {
    of_body = record { long = right_long };
    closed = all_types_by IsClosed right right_closed;
    modes = λ x. each_placed (λ k m. IsBinder body (p k)) right.binding_modes ((b 0, None, refl), tt) x.0;
    placeholders = each_placed (λ k s. IsPlaceholder given k × IsAsKnown given k s) right.type_of_placeholder ((is_placeholder, as_known), tt);
    variants = record {
      exprs = λ x. each_entry (NamesVariant given.body x) right.expr_variants tt x.0;
      pats = λ x. each_entry (IsVariantPat given.body x) right.pat_variants tt x.0;
    };
    items = no_pat_items given right tt;
  };
  clauses = λ x h. each_below (λ k. ObeysOrMismatch given right (e k)) 2 x.0 ((tt, (ty.Bool, refl, refl)), block_obeys) h;
  kinds = λ x h. each_below (λ k. PatRule given right (p k) (slice_get body.pats k)) 1 x.0 (tt, (ty.Bool, refl, refl, refl)) h;
  params = λ i q s found is. absurd (cc);
  bindings = λ v h. each_below (λ k. (s : Ty) × BindingTy right (b k) s) 1 v.0 (tt, (ty.Bool, refl)) h;
  body_clause = (unit, refl, inl refl);
  misfits = λ x. each_entry (IsMisfit given right x) right.expr_mismatches tt x.0;
  demands = λ x. each_entry (λ m. Demand given right x m.expected) right.expr_mismatches tt x.0;
  complaints = record {
    diagnostics = λ x. each_entry (IsTrueDiagnostic given right x) right.expr_diagnostics tt x.0;
    pat_diagnostics = λ x. each_entry (IsTruePatDiagnostic given x) right.pat_diagnostics tt x.0;
    pat_truths = λ x. each_entry (IsTruePatMismatch given right x) right.pat_mismatches tt x.0;
    seen = λ i x found. absurd (cc);
    said = λ i x found. absurd (cc);
  };
}

pub right_typed : IsTyped given right
right_typed = typed_by_schedule given right schedule is_schedule right_made

-- ---- refused

-- another type than what is known of it
pub another : IsTyped given (table_of (Some u8)) → ⊥
another h =
    (let x = (h.shape.placeholders 1 u8 refl).1 in
    let same : u8 ≡ ty.Bool = x ty.Bool refl in
    u8_differs_bool (ap erased same))

-- none
pub forgotten : IsTyped given (table_of None) → ⊥
forgotten h =
    (let c = (h.clauses (e 1) (omega arith)).statements.0.0 in
    let at = (c 1 alias_stands).1 in
    cc)
