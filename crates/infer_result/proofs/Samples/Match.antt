-- `fn f(t: (u8, i32)) -> u8 { match t { (a, 7) => a, _ => 1u8 } }`: patterns at the scrutinee and its components, arms at the `match`.
use Rattle.std.proofs.Common.{◌+◌, ◌<◌, ◌≡◌, inl, inr, true, List, [], ◌∷◌, refl, sym, ap, subst, ◌∙◌, arith, Option, Some, None, slice_get, length}
use Rattle.std.specs.Prelude.{codes}
use Rattle.hir_types.specs.declared.ids.ExprOrPatId.TheVariants as node
use Rattle.infer_result.specs.Words.{Ty, Ty-F, out-Ty, RawType, RawExpr, RawBody, Schedule, filled_within, written_type, erased, IsClosed, arm_pattern, subpattern, the_body, inner, IsSchedule, start, end, after, Fits, parts}
use Rattle.hir_types.specs.declared.ty.Ty.TheVariants as ty
use Rattle.hir_types.specs.declared.ty.IntTy.TheVariants as int
use Rattle.hir_types.specs.declared.ty.UintTy.TheVariants as uint
use Rattle.hir_types.specs.declared.ty.IntegerTy.TheVariants as integer
use Rattle.infer_result.specs.Words.hir_raw.declared.raw.RawType.TheVariants as type
use Rattle.infer_result.specs.Words.hir_raw.declared.raw.RawLiteral.TheVariants as literal
use Rattle.infer_result.specs.Words.hir_raw.declared.raw.RawPath.TheVariants as path
use Rattle.infer_result.specs.Words.hir_raw.declared.raw.RawExpr.TheVariants as expr
use Rattle.infer_result.specs.Words.hir_raw.declared.raw.RawPat.TheVariants as pat
use Rattle.infer_result.proofs.Words.{has_hole_tuple, has_hole_integer}
use Rattle.infer_result.specs.Own.{empty_table, Column, entry_kind, index, col, IsLong, InferenceResult, TypeMismatch, PatTy, BindingTy, mismatch, Given, Demand, ObeysOrMismatch, PatRule, IsTruePatMismatch, IsTrueDiagnostic, IsTruePatDiagnostic, IsBinder, NamesVariant, IsVariantPat, IsMisfit, IsMade, IsTyped}
use Rattle.infer_result.specs.Columns as column
use Rattle.infer_result.specs.declared.modes.BindingMode.TheVariants as mode
use Rattle.infer_result.proofs.Derived.{typed_by_schedule}
use Rattle.infer_result.proofs.Samples.Small.{scope_with, e, p, b, w, u8, one_u8, plain, body_with, each_below, each_node, apart_by, comes, one_param, only, each_entry, TypesHave, all_types_by, nowhere, closed_u8, top_uint, top_int, u8_is_no_bool, u8_is_no_tuple, u8_differs_bool, each_placed, none_placed, no_pat_items}

-- the body with another expression in the last arm
abbrev body_of : RawExpr → RawBody
body_of last =
    body_with (p 0 ∷ [])
    (expr.Path (path.Local (b 0)) ∷ expr.Lit (literal.Int (codes "7") None) ∷ expr.Path (path.Local (b 1)) ∷ last
    ∷ expr.Match (e 0) (record { pat = p 1; guard = None; expr = e 2 } ∷ record { pat = p 4; guard = None; expr = e 3 } ∷ []) ∷ expr.Block None [] (Some (e 4)) ∷ [])
    5 (pat.Bind (b 0) None ∷ pat.Tuple (p 2 ∷ p 3 ∷ []) ∷ pat.Bind (b 1) None ∷ pat.Lit (e 1) ∷ pat.Wild ∷ []) (plain ∷ plain ∷ [])

abbrev i32 : Ty
i32 = ty.Int int.I32

abbrev pair : Ty
pair = ty.Tuple (u8 ∷ i32 ∷ [])

abbrev types : List RawType
types = type.Integer (integer.Uint uint.U8) ∷ type.Integer (integer.Int int.I32) ∷ type.Tuple (w 0 ∷ w 1 ∷ []) ∷ []

abbrev given_of : RawExpr → Given
given_of last = record { scope = scope_with types; body = body_of last; inputs = Some (written_type types (w 2)) ∷ []; output = Some u8; aliases = [] }

abbrev body : RawBody
body = body_of (expr.Lit one_u8)

abbrev given : Given
given = given_of (expr.Lit one_u8)

written : written_type types (w 2) ≡ pair
unfolding filled_within
written = refl

abbrev schedule : Schedule
schedule = record {
  starts = 4 ∷ 8 ∷ 10 ∷ 11 ∷ 3 ∷ 2 ∷ 1 ∷ 5 ∷ 6 ∷ 7 ∷ 9 ∷ 0 ∷ [];
  ends = 5 ∷ 9 ∷ 11 ∷ 12 ∷ 12 ∷ 12 ∷ 2 ∷ 9 ∷ 7 ∷ 9 ∷ 10 ∷ 12 ∷ [];
  depths = 3 ∷ 5 ∷ 3 ∷ 3 ∷ 2 ∷ 1 ∷ 1 ∷ 3 ∷ 4 ∷ 4 ∷ 3 ∷ 0 ∷ [];
}

is_schedule : IsSchedule body schedule
is_schedule = record {
  starts_size = refl;
  ends_size = refl;
  first = refl;
  fits = each_node body (λ n. Fits body schedule (start body schedule n + 1) (parts body n)) (
    (omega arith, refl, (omega arith, refl, tt)),
    ((((((tt, tt), tt), tt), tt), (omega arith, refl, (omega arith, refl, (omega arith, refl, (omega arith, refl, (omega arith, refl, tt)))))), (omega arith, refl, tt)),
    (((((tt, tt), (omega arith, refl, (omega arith, refl, tt))), tt), (omega arith, refl, tt)), tt),
  );
  ends = each_node body (λ n. after body schedule (start body schedule n + 1) (parts body n) ≡ end body schedule n)
      (refl, ((((((tt, refl), refl), refl), refl), refl), refl), (((((tt, refl), refl), refl), refl), refl));
  order = each_node body (λ n. start body schedule n < end body schedule n)
      (omega arith, ((((((tt, omega arith), omega arith), omega arith), omega arith), omega arith), omega arith), (((((tt, omega arith), omega arith), omega arith), omega arith), omega arith));
  reached = each_node body (λ n. start body schedule n < end body schedule the_body)
      (omega arith, ((((((tt, omega arith), omega arith), omega arith), omega arith), omega arith), omega arith), (((((tt, omega arith), omega arith), omega arith), omega arith), omega arith));
  apart = apart_by body schedule
      (the_body ∷ inner (node.PatId (p 0)) ∷ inner (node.ExprId (e 5)) ∷ inner (node.ExprId (e 4)) ∷ inner (node.ExprId (e 0)) ∷ inner (node.PatId (p 1)) ∷ inner (node.PatId (p 2))
      ∷ inner (node.PatId (p 3)) ∷ inner (node.ExprId (e 1)) ∷ inner (node.PatId (p 4)) ∷ inner (node.ExprId (e 2)) ∷ inner (node.ExprId (e 3)) ∷ [])
      (refl, ((((((tt, refl), refl), refl), refl), refl), refl), (((((tt, refl), refl), refl), refl), refl));
}

-- the types of the literal in the pattern, of the path `a`, of the last arm; of `a` as a pattern, of the wildcard; of `a` as a binding
abbrev table_of : Ty → Ty → Ty → Ty → Ty → Ty → List (Option TypeMismatch) → List (Option TypeMismatch) → InferenceResult
table_of seven name last a wild bound mismatches pat_mismatches = record (empty_table given.body) {
  type_of_expr = Some pair ∷ Some seven ∷ Some name ∷ Some last ∷ Some u8 ∷ Some u8 ∷ [];
  type_of_pat = Some pair ∷ Some pair ∷ Some a ∷ Some i32 ∷ Some wild ∷ [];
  type_of_binding = Some pair ∷ Some bound ∷ [];
  binding_modes = Some mode.Move ∷ None ∷ Some mode.Move ∷ None ∷ None ∷ [];
  expr_mismatches = mismatches;
  pat_mismatches = pat_mismatches;
}

abbrev silent : List (Option TypeMismatch)
silent = None ∷ None ∷ None ∷ None ∷ None ∷ None ∷ []

abbrev silent_pats : List (Option TypeMismatch)
silent_pats = None ∷ None ∷ None ∷ None ∷ None ∷ []

abbrev right : InferenceResult
right = table_of i32 u8 u8 u8 pair u8 silent silent_pats

closed_i32 : IsClosed i32
closed_i32 = has_hole_integer (integer.Int int.I32)

closed_pair : IsClosed pair
closed_pair = has_hole_tuple (u8 ∷ i32 ∷ []) ∙ rw (closed_u8, closed_i32) refl

match_obeys : ObeysOrMismatch given right (e 4)
match_obeys = record {
  scrutinee = pair;
  comes = refl;
  patterns = ((pair, refl, inl refl), ((pair, refl, inl refl), tt));
  type = u8;
  has = refl;
  alternatives = ((tt, inl (u8, refl, refl)), ((tt, inl (u8, refl, refl)), tt));
}

right_long : (c : Column) → IsLong given.body (index c) (length (col right c))
right_long column.type_of_placeholder = tt
right_long _ = refl

right_closed : (c : Column) → TypesHave IsClosed (entry_kind c) (col right c)
right_closed column.type_of_expr = (closed_pair, (closed_i32, (closed_u8, (closed_u8, (closed_u8, (closed_u8, tt))))))
right_closed column.type_of_pat = (closed_pair, (closed_pair, (closed_u8, (closed_i32, (closed_pair, tt)))))
right_closed column.type_of_binding = (closed_pair, (closed_u8, tt))
right_closed _ = tt

right_made : IsMade given right
right_made = record {
  shape = record {
    of_body = record { long = right_long };
    closed = all_types_by IsClosed right right_closed;
    modes = λ x. each_placed (λ k m. IsBinder body (p k)) right.binding_modes ((b 0, None, refl), ((b 1, None, refl), tt)) x.0;
    placeholders = none_placed given right refl;
    variants = record {
      exprs = λ x. each_entry (NamesVariant given.body x) right.expr_variants tt x.0;
      pats = λ x. each_entry (IsVariantPat given.body x) right.pat_variants tt x.0;
    };
    items = no_pat_items given right tt;
  };
  clauses = λ x h.
      each_below (λ k. ObeysOrMismatch given right (e k)) 6 x.0
      ((((((tt, (pair, refl, refl)), (i32, refl, (integer.Int int.I32, refl))), (u8, refl, refl)), (u8, refl, refl)), match_obeys), record { statements = tt; type = u8; has = refl; ends = (u8, refl, inl refl) }) h;
  kinds = λ x h.
      each_below (λ k. PatRule given right (p k) (slice_get body.pats k)) 5 x.0
      (((((tt, (pair, refl, refl, refl)), (u8 ∷ i32 ∷ [], refl, ((u8, refl, inl refl), ((i32, refl, inl refl), tt)))), (u8, refl, refl, refl)), (i32, refl, refl)), (pair, refl)) h;
  params = one_param given right (p 0) (w 2) refl refl (subst (PatTy right (p 0)) (sym written) refl);
  bindings = λ v h. each_below (λ k. (s : Ty) × BindingTy right (b k) s) 2 v.0 ((tt, (pair, refl)), (u8, refl)) h;
  body_clause = (u8, refl, inl refl);
  misfits = λ x. each_entry (IsMisfit given right x) right.expr_mismatches tt x.0;
  demands = λ x. each_entry (λ m. Demand given right x m.expected) right.expr_mismatches tt x.0;
  complaints = record {
    diagnostics = λ x. each_entry (IsTrueDiagnostic given right x) right.expr_diagnostics tt x.0;
    pat_diagnostics = λ x. each_entry (IsTruePatDiagnostic given x) right.pat_diagnostics tt x.0;
    pat_truths = λ x. each_entry (IsTruePatMismatch given right x) right.pat_mismatches tt x.0;
    seen = λ i x found. absurd (cc);
    said = λ i x found. absurd (cc);
  };
}

pub right_typed : IsTyped given right
right_typed = typed_by_schedule given right schedule is_schedule right_made

-- ---- refused

-- the first arm complains that `a` is a `bool`
abbrev first_arm : List (Option TypeMismatch)
first_arm = None ∷ None ∷ Some (mismatch u8 ty.Bool) ∷ None ∷ None ∷ None ∷ []

-- the binding has another type than its pattern
pub other_binding : IsTyped given (table_of i32 ty.Bool u8 u8 pair ty.Bool first_arm silent_pats) → ⊥
other_binding h = (let c = (h.pats (p 2) (omega arith)).kind in u8_is_no_bool (only u8 c.0 c.1 ∙ sym (only ty.Bool c.0 c.2)))

-- the pattern has another type than the component that comes in
pub other_part : IsTyped given (table_of i32 ty.Bool u8 ty.Bool pair ty.Bool first_arm silent_pats) → ⊥
other_part h =
    (let c = (h.pats (p 2) (omega arith)).incoming u8 (record { parent = inner (node.PatId (p 1)); at_part = 0; role = subpattern 0; stands = record { node_is = omega arith; part = refl }; gives = inl (record { types = u8 ∷ i32 ∷ []; has = refl; component = refl }) }) in
    elim c.2 [ inl same ↦ u8_is_no_bool (sym (only ty.Bool c.0 c.1 ∙ same)) | inr m ↦ absurd m ])

u8_is_no_i32 : u8 ≡ i32 → ⊥
u8_is_no_i32 h = (let k : Ty-F.Uint uint.U8 ≡ Ty-F.Int int.I32 = sym (top_uint uint.U8) ∙ (ap out-Ty h ∙ top_int int.I32) in cc)

-- the literal has another type than the pattern that it is
pub other_literal : IsTyped given (table_of u8 u8 u8 u8 pair u8 silent silent_pats) → ⊥
other_literal h = (let c = (h.pats (p 3) (omega arith)).kind in u8_is_no_i32 (only u8 c.0 c.2 ∙ sym (only i32 c.0 c.1)))

-- an arm of another type, in silence
abbrev silent_arm : InferenceResult
silent_arm = table_of i32 u8 ty.Bool u8 pair u8 silent silent_pats

pub wrong_arm : IsTyped (given_of (expr.Lit (literal.Bool true))) silent_arm → ⊥
wrong_arm h =
    (let c = h.clauses (e 4) (omega arith) in
    let s : u8 ≡ c.type = only u8 c.type c.has in
    elim c.alternatives.1.0.1 [
      | inl at ↦ (let a : ty.Bool ≡ at.0 = only ty.Bool at.0 at.1 in u8_differs_bool (ap erased s ∙ sym (ap erased a ∙ at.2)))
      | inr m ↦ nowhere silent_arm tt (e 2 ∷ e 3 ∷ []) m
    ])

-- the wildcard has another type than the scrutinee
pub other_wildcard : IsTyped given (table_of i32 u8 u8 u8 u8 u8 silent silent_pats) → ⊥
other_wildcard h =
    (let c = (h.pats (p 4) (omega arith)).incoming pair (record { parent = inner (node.ExprId (e 4)); at_part = 2; role = arm_pattern (e 0) 1; stands = record { node_is = omega arith; part = refl }; gives = refl }) in
    elim c.2 [ inl same ↦ u8_is_no_tuple (u8 ∷ i32 ∷ []) (only u8 c.0 c.1 ∙ same) | inr m ↦ absurd m ])

-- a mismatch at the tuple pattern, which has the type of the scrutinee
pub invented : IsTyped given (table_of i32 u8 u8 u8 pair u8 silent (None ∷ Some (mismatch u8 pair) ∷ None ∷ None ∷ None ∷ [])) → ⊥
invented h =
    (let m = h.complaints.pat_truths (p 1) (mismatch u8 pair) refl in
    let a = comes given schedule is_schedule _ (p 1) (inner (node.ExprId (e 4))) 1 (arm_pattern (e 0) 0) u8 (record { node_is = omega arith; part = refl }) m.incoming in
    u8_is_no_tuple (u8 ∷ i32 ∷ []) (sym (only pair u8 a)))

-- one at the part `a`, a binding, which has the type that comes in
pub invented_at_part : IsTyped given (table_of i32 u8 u8 u8 pair u8 silent (None ∷ None ∷ Some (mismatch i32 u8) ∷ None ∷ None ∷ [])) → ⊥
invented_at_part h = (h.complaints.pat_truths (p 2) (mismatch i32 u8) refl).says
