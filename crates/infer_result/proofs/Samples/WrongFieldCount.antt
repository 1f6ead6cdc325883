-- `fn f(o: Pair) { let Pair(x) = o; }` where `struct Pair(u8, bool);`: the complaint stands at the pattern, and the part that is
-- there has the type of its field.
use Rattle.std.proofs.Common.{ℕ, ◌+◌, ◌<◌, ◌≡◌, inl, inr, List, [], ◌∷◌, length, refl, sym, ap, subst, ◌∙◌, arith, Option, Some, None, slice_get}
use Rattle.infer_result.specs.Words.{ExprId, ExprOrPatId, Ty, RawType, RawVariant, RawBody, Schedule, unit, IsClosed, with_params, replaced_uint, filled_within, written_type, at_args, subpattern, the_body, inner, IsSchedule, start, end, after, Fits, parts}
use Rattle.hir_types.specs.declared.ids.ExprOrPatId.TheVariants as node
use Rattle.hir_types.specs.declared.ty.Ty.TheVariants as ty
use Rattle.hir_types.specs.declared.ty.UintTy.TheVariants as uint
use Rattle.hir_types.specs.declared.ty.IntegerTy.TheVariants as integer
use Rattle.infer_result.specs.Words.hir_raw.declared.raw.RawType.TheVariants as type
use Rattle.infer_result.specs.Words.hir_raw.declared.raw.RawAdtKind.TheVariants as kind
use Rattle.infer_result.specs.Words.hir_raw.declared.raw.RawCtor.TheVariants as ctor
use Rattle.infer_result.specs.Words.hir_raw.declared.raw.RawStmt.TheVariants as stmt
use Rattle.infer_result.specs.Words.hir_raw.declared.raw.RawPath.TheVariants as path
use Rattle.infer_result.specs.Words.hir_raw.declared.raw.RawExpr.TheVariants as expr
use Rattle.infer_result.specs.Words.hir_raw.declared.raw.RawPat.TheVariants as pat
use Rattle.infer_result.proofs.Words.{has_hole_adt}
use Rattle.infer_result.specs.Own.{empty_table, Column, entry_kind, index, col, IsLong, InferenceResult, InferenceDiagnostic, PatTy, BindingTy, Given, IsVariantAt, IsCtorAt, IsPatOf, Demand, ObeysOrMismatch, PatRule, IsTruePatMismatch, IsTrueDiagnostic, IsTruePatDiagnostic, IsBinder, NamesVariant, IsVariantPat, IsMisfit, IsMade, IsTyped}
use Rattle.infer_result.specs.Columns as column
use Rattle.infer_result.specs.declared.diagnostics.InferenceDiagnostic.TheVariants as diagnostic
use Rattle.infer_result.specs.declared.modes.BindingMode.TheVariants as mode
use Rattle.infer_result.proofs.Derived.{typed_by_schedule}
use Rattle.infer_result.proofs.Samples.Small.{e, p, b, w, u8, plain, body_with, each_below, each_node, apart_by, one_param, only, each_entry, TypesHave, all_types_by, each_placed, closed_u8, closed_unit, none_placed, no_pat_items}
use Rattle.infer_result.proofs.Samples.Constructors.{v, adt, adt_of, variant_of, scope_of_adt}

abbrev body : RawBody
body =
    body_with (p 0 ∷ []) (expr.Path (path.Local (b 0)) ∷ expr.Block None (stmt.Let (p 1) None (Some (e 0)) None ∷ []) None ∷ []) 1
    (pat.Bind (b 0) None ∷ pat.TupleStruct (v 0) (p 2 ∷ []) ∷ pat.Bind (b 1) None ∷ []) (plain ∷ plain ∷ [])

abbrev types : List RawType
types = type.Integer (integer.Uint uint.U8) ∷ type.Bool ∷ type.Adt adt [] ∷ []

-- the one variant of `Pair`, and its type
abbrev both : RawVariant
both = variant_of ctor.Tuple (w 0 ∷ w 1 ∷ [])

abbrev pair : Ty
pair = ty.Adt adt []

abbrev given : Given
given = record { scope = scope_of_adt types (adt_of kind.Struct [] (v 0 ∷ [])) (both ∷ []); body = body; inputs = Some (written_type types (w 2)) ∷ []; output = Some unit; aliases = [] }

both_is : IsVariantAt given (v 0) both []
both_is = record { found = refl; count = refl }

both_ctor : IsCtorAt given (v 0) both []
both_ctor = record { found = refl; count = refl }

written : written_type types (w 2) ≡ pair
unfolding filled_within
written = refl

field_written : written_type types (w 0) ≡ u8
unfolding filled_within
field_written = refl

-- the type of the first field
field_is : at_args [] (written_type types (w 0)) ≡ u8
field_is = ap (at_args []) field_written ∙ replaced_uint (with_params []) uint.U8

abbrev schedule : Schedule
schedule = record { starts = 3 ∷ 2 ∷ 1 ∷ 4 ∷ 5 ∷ 0 ∷ []; ends = 4 ∷ 6 ∷ 2 ∷ 6 ∷ 6 ∷ 6 ∷ []; depths = 2 ∷ 1 ∷ 1 ∷ 2 ∷ 3 ∷ 0 ∷ [] }

is_schedule : IsSchedule body schedule
is_schedule = record {
  starts_size = refl;
  ends_size = refl;
  first = refl;
  fits = each_node body (λ n. Fits body schedule (start body schedule n + 1) (parts body n))
      ((omega arith, refl, (omega arith, refl, tt)), ((tt, tt), (omega arith, refl, (omega arith, refl, tt))), (((tt, tt), (omega arith, refl, tt)), tt));
  ends = each_node body (λ n. after body schedule (start body schedule n + 1) (parts body n) ≡ end body schedule n) (refl, ((tt, refl), refl), (((tt, refl), refl), refl));
  order = each_node body (λ n. start body schedule n < end body schedule n) (omega arith, ((tt, omega arith), omega arith), (((tt, omega arith), omega arith), omega arith));
  reached = each_node body (λ n. start body schedule n < end body schedule the_body) (omega arith, ((tt, omega arith), omega arith), (((tt, omega arith), omega arith), omega arith));
  apart = apart_by body schedule
      (the_body ∷ inner (node.PatId (p 0)) ∷ inner (node.ExprId (e 1)) ∷ inner (node.ExprId (e 0)) ∷ inner (node.PatId (p 1)) ∷ inner (node.PatId (p 2)) ∷ [])
      (refl, ((tt, refl), refl), (((tt, refl), refl), refl));
}

abbrev wrong_count : ExprOrPatId → ℕ → ℕ → InferenceDiagnostic
wrong_count n expected found = diagnostic.MismatchedTupleStructPatArgCount n expected found

-- the type of `x`, and the complaints at the patterns `o`, `Pair(x)` and `x`
abbrev table_of : Ty → Option InferenceDiagnostic → Option InferenceDiagnostic → Option InferenceDiagnostic → InferenceResult
table_of x at_o at_pattern at_x = record (empty_table given.body) {
  type_of_expr = Some pair ∷ Some unit ∷ [];
  type_of_pat = Some pair ∷ Some pair ∷ Some x ∷ [];
  type_of_binding = Some pair ∷ Some x ∷ [];
  binding_modes = Some mode.Move ∷ None ∷ Some mode.Move ∷ [];
  pat_diagnostics = at_o ∷ at_pattern ∷ at_x ∷ [];
  pat_variants = None ∷ Some (v 0) ∷ None ∷ [];
}

abbrev the_complaint : InferenceDiagnostic
the_complaint = wrong_count (node.PatId (p 1)) 2 1

abbrev right : InferenceResult
right = table_of u8 None (Some the_complaint) None

closed_pair : IsClosed pair
closed_pair = has_hole_adt adt []

both_pat : (x : Ty) (at_o at_pattern at_x : Option InferenceDiagnostic) → IsPatOf given (table_of x at_o at_pattern at_x) (p 1) (v 0) both [] []
both_pat x at_o at_pattern at_x = record { is_variant = both_is; is_ctor = both_ctor; has = refl; item = tt }

pattern_obeys : PatRule given right (p 1) (slice_get body.pats 1)
pattern_obeys = record {
  variant = both;
  types = [];
  hidden = [];
  is = both_pat u8 None (Some the_complaint) None;
  parts = ((u8, refl, inl (sym field_is)), tt);
  counted = inr refl;
  resolved = refl;
}

complaint_is_true : IsTruePatDiagnostic given (p 1) the_complaint
complaint_is_true = (
  refl,
  record { named = v 0; parts = p 2 ∷ []; is_pat = refl; variant = both; is_variant = refl; is_expected = refl; is_found = refl; differ = λ same. absurd (omega arith) },
)

right_long : (c : Column) → IsLong given.body (index c) (length (col right c))
right_long column.type_of_placeholder = tt
right_long _ = refl

right_closed : (c : Column) → TypesHave IsClosed (entry_kind c) (col right c)
right_closed column.type_of_expr = (closed_pair, (closed_unit, tt))
right_closed column.type_of_pat = (closed_pair, (closed_pair, (closed_u8, tt)))
right_closed column.type_of_binding = (closed_pair, (closed_u8, tt))
right_closed _ = tt

right_made : IsMade given right
right_made = record {
  shape = record {
    of_body = record { long = right_long };
    closed = all_types_by IsClosed right right_closed;
    modes = λ x. each_placed (λ k m. IsBinder body (p k)) right.binding_modes ((b 0, None, refl), ((b 1, None, refl), tt)) x.0;
    placeholders = none_placed given right refl;
    variants = record {
      exprs = λ x. each_entry (NamesVariant given.body x) right.expr_variants tt x.0;
      pats = λ x. each_placed (λ k. IsVariantPat given.body (p k)) right.pat_variants (inr (p 2 ∷ [], refl), tt) x.0;
    };
    items = no_pat_items given right tt;
  };
  clauses = λ x h.
      each_below (λ k. ObeysOrMismatch given right (e k)) 2 x.0
      ((tt, (pair, refl, refl)), record { statements = ((pair, refl, (pair, refl, inl refl)), tt); type = unit; has = refl; ends = inl refl }) h;
  kinds = λ x h.
      each_below (λ k. PatRule given right (p k) (slice_get body.pats k)) 3 x.0
      (((tt, (pair, refl, refl, refl)), pattern_obeys), (u8, refl, refl, refl)) h;
  params = one_param given right (p 0) (w 2) refl refl (subst (PatTy right (p 0)) (sym written) refl);
  bindings = λ x h. each_below (λ k. (s : Ty) × BindingTy right (b k) s) 2 x.0 ((tt, (pair, refl)), (u8, refl)) h;
  body_clause = (unit, refl, inl refl);
  misfits = λ x. each_entry (IsMisfit given right x) right.expr_mismatches tt x.0;
  demands = λ x. each_entry (λ m. Demand given right x m.expected) right.expr_mismatches tt x.0;
  complaints = record {
    diagnostics = λ x. each_entry (IsTrueDiagnostic given right x) right.expr_diagnostics tt x.0;
    pat_diagnostics = λ x. each_placed (λ k. IsTruePatDiagnostic given (p k)) right.pat_diagnostics (complaint_is_true, tt) x.0;
    pat_truths = λ x. each_entry (IsTruePatMismatch given right x) right.pat_mismatches tt x.0;
    seen = λ i x found. absurd (cc);
    said = λ i x found. absurd (cc);
  };
}

pub right_typed : IsTyped given right
right_typed = typed_by_schedule given right schedule is_schedule right_made

-- ---- refused

-- no complaint
pub none : IsTyped given (table_of u8 None None None) → ⊥
none h =
    (let c = (h.pats (p 1) (omega arith)).kind in
    let found = c.is.is_variant.found in
    let one : both ≡ c.variant = cc in
    elim c.counted [
      | inl same ↦ (let count : length both.fields ≡ 1 = subst (λ (x : RawVariant). length x.fields ≡ 1) (sym one) same in absurd (omega arith))
      | inr said ↦ (let clash = said in cc)
    ])

-- the numbers that a true complaint at the pattern has
counted : (n : ExprOrPatId) (expected found : ℕ) → IsTruePatDiagnostic given (p 1) (wrong_count n expected found) → (n ≡ node.PatId (p 1)) × (expected ≡ 2) × (found ≡ 1)
counted n expected found (is, c) =
    let there = c.is_variant in
    let here = c.is_pat in
    let named : v 0 ≡ c.named = cc in
    let parts : p 2 ∷ [] ≡ c.parts = cc in
    let at : slice_get (both ∷ []) 0 ≡ Some c.variant = subst (λ i. slice_get (both ∷ []) i.0 ≡ Some c.variant) (sym named) there in
    let one : both ≡ c.variant = cc in
    (is, c.is_expected ∙ sym (ap (λ (x : RawVariant). length x.fields) one), c.is_found ∙ sym (ap length parts))

-- a complaint with other numbers, or about another node
pub other_count : (n : ExprOrPatId) (expected found : ℕ) → ((n ≡ node.PatId (p 1)) × (expected ≡ 2) × (found ≡ 1) → ⊥)
    → IsTyped given (table_of u8 None (Some (wrong_count n expected found)) None) → ⊥
other_count n expected found differ h = differ (counted n expected found (h.complaints.pat_diagnostics (p 1) (wrong_count n expected found) refl))

-- the numbers exchanged
pub exchanged : IsTyped given (table_of u8 None (Some (wrong_count (node.PatId (p 1)) 1 2)) None) → ⊥
exchanged = other_count (node.PatId (p 1)) 1 2 (λ same. (let one = same.1 in absurd (omega arith)))

-- a complaint about arguments of a call
pub of_call : (n : ExprId) (expected found : ℕ) → IsTyped given (table_of u8 None (Some (diagnostic.MismatchedArgCount n expected found)) None) → ⊥
of_call n expected found h = h.complaints.pat_diagnostics (p 1) (diagnostic.MismatchedArgCount n expected found) refl

-- that what is called is no function
pub of_callee : (n : ExprId) (s : Ty) → IsTyped given (table_of u8 None (Some (diagnostic.ExpectedFunction n s)) None) → ⊥
of_callee n s h = h.complaints.pat_diagnostics (p 1) (diagnostic.ExpectedFunction n s) refl

-- one more at the parameter `o`, or at the part `x`
pub at_parameter : (n : ExprOrPatId) (expected found : ℕ) → IsTyped given (table_of u8 (Some (wrong_count n expected found)) (Some the_complaint) None) → ⊥
at_parameter n expected found h = (let is = (h.complaints.pat_diagnostics (p 0) (wrong_count n expected found) refl).1.is_pat in cc)

pub at_binding : (n : ExprOrPatId) (expected found : ℕ) → IsTyped given (table_of u8 None (Some the_complaint) (Some (wrong_count n expected found))) → ⊥
at_binding n expected found h = (let is = (h.complaints.pat_diagnostics (p 2) (wrong_count n expected found) refl).1.is_pat in cc)

-- `x` has another type than the first field
pub other_field : (x : Ty) → (x ≡ u8 → ⊥) → IsTyped given (table_of x None (Some the_complaint) None) → ⊥
other_field x differ h =
    (let c = (h.pats (p 2) (omega arith)).incoming u8 (record {
      parent = inner (node.PatId (p 1));
      at_part = 0;
      role = subpattern 0;
      stands = record { node_is = omega arith; part = refl };
      gives = inr (record { named = v 0; parts = p 2 ∷ []; is_pat = refl; variant = both; types = []; hidden = []; is = both_pat x None (Some the_complaint) None; field = ap Some field_is });
    }) in
    elim c.2 [ inl same ↦ differ (only x c.0 c.1 ∙ same) | inr m ↦ absurd m ])
