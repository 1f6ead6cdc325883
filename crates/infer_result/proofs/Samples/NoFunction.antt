-- `fn f() { 1u8(2u8); }`: what is called is no function, which is said at the call and kept in what was seen.
use Rattle.std.proofs.Common.{ℕ, zero, suc, ◌+◌, ◌<◌, ◌≡◌, inl, inr, List, [], ◌∷◌, refl, sym, ap, subst, ◌∙◌, arith, Option, Some, None, slice_get, length}
use Rattle.std.specs.Prelude.{Bool, codes, true}
use Rattle.infer_result.specs.Words.{ExprId, CallableDefId, GenericArg, Ty, Ty-F, out-Ty, out-roll-Ty, fold-roll-Ty, RawLiteral, RawType, RawFn, RawBody, Schedule, unit, IsClosed, Assignment, with_holes, replaced_uint, the_body, inner, IsSchedule, start, end, after, Fits, parts, fn_signature}
use Rattle.hir_types.specs.declared.ids.ExprOrPatId.TheVariants as node
use Rattle.hir_types.specs.declared.ids.CallableDefId.TheVariants as callable
use Rattle.hir_types.specs.declared.ty.Ty.TheVariants as ty
use Rattle.hir_types.specs.declared.ty.Const.TheVariants as const
use Rattle.hir_types.specs.declared.ty.UintTy.TheVariants as uint
use Rattle.hir_types.specs.declared.ty.IntegerTy.TheVariants as integer
use Rattle.infer_result.specs.Words.hir_raw.declared.raw.RawLiteral.TheVariants as literal
use Rattle.infer_result.specs.Words.hir_raw.declared.raw.RawPath.TheVariants as path
use Rattle.infer_result.specs.Words.hir_raw.declared.raw.RawStmt.TheVariants as stmt
use Rattle.infer_result.specs.Words.hir_raw.declared.raw.RawExpr.TheVariants as expr
use Rattle.infer_result.specs.Own.{empty_table, Column, entry_kind, index, col, IsLong, InferenceResult, Seen, InferenceDiagnostic, NamesVariant, IsVariantPat, HasTy, HasDiagnostic, Given, Demand, IsOwnType, ObeysOrMismatch, unknown_arg, unknown_step, unknown_bound, unknown_trait, has_unknown, IsKnown, Up, of_literal, of_written, of_initializer, of_parameter, of_call, of_unit, Outermost, HasHead, HeadOf, IsTruePatMismatch, callable_step, IsPathToItem, IsSaid, IsTrueSeen, IsTrueDiagnostic, IsTruePatDiagnostic, IsMisfit, IsMade, IsTyped}
use Rattle.infer_result.specs.Columns as column
use Rattle.infer_result.specs.declared.diagnostics.InferenceDiagnostic.TheVariants as diagnostic
use Rattle.infer_result.proofs.Derived.{typed_by_schedule}
use Rattle.infer_result.proofs.Samples.Small.{scope_with, e, u8, one_u8, body_of, each_below, each_node, apart_by, only, each_entry, TypesHave, all_types_by, each_placed, closed_u8, closed_error, closed_unit, top_uint, u8_is_no_bool, none_placed, no_pat_items}
use Rattle.infer_result.proofs.Samples.Calling.{function, calling, unseen}

abbrev two_u8 : RawLiteral
two_u8 = literal.Int (codes "2") (Some (integer.Uint uint.U8))

-- what is called, the argument, the call and the block
abbrev body : RawBody
body = body_of (expr.Lit one_u8 ∷ expr.Lit two_u8 ∷ expr.Call (e 0) (e 1 ∷ []) ∷ expr.Block None (stmt.Expr (e 2) true ∷ []) None ∷ []) 3 [] []

abbrev given : Given
given = record { scope = scope_with []; body = body; inputs = []; output = Some unit; aliases = [] }

abbrev schedule : Schedule
schedule = record { starts = 3 ∷ 4 ∷ 2 ∷ 1 ∷ 0 ∷ []; ends = 4 ∷ 5 ∷ 5 ∷ 5 ∷ 5 ∷ []; depths = 3 ∷ 3 ∷ 2 ∷ 1 ∷ 0 ∷ [] }

is_schedule : IsSchedule body schedule
is_schedule = record {
  starts_size = refl;
  ends_size = refl;
  first = refl;
  fits = each_node body (λ n. Fits body schedule (start body schedule n + 1) (parts body n))
      ((omega arith, refl, tt), ((((tt, tt), tt), (omega arith, refl, (omega arith, refl, tt))), (omega arith, refl, tt)), tt);
  ends = each_node body (λ n. after body schedule (start body schedule n + 1) (parts body n) ≡ end body schedule n)
      (refl, ((((tt, refl), refl), refl), refl), tt);
  order = each_node body (λ n. start body schedule n < end body schedule n)
      (omega arith, ((((tt, omega arith), omega arith), omega arith), omega arith), tt);
  reached = each_node body (λ n. start body schedule n < end body schedule the_body)
      (omega arith, ((((tt, omega arith), omega arith), omega arith), omega arith), tt);
  apart = apart_by body schedule
      (the_body ∷ inner (node.ExprId (e 3)) ∷ inner (node.ExprId (e 2)) ∷ inner (node.ExprId (e 0)) ∷ inner (node.ExprId (e 1)) ∷ [])
      (refl, ((((tt, refl), refl), refl), refl), tt);
}

-- what is seen to be no function at the call
abbrev at_call : Ty → Seen
at_call s = record { node = node.ExprId (e 2); ty = s; other = None }

abbrev no_function : Ty → InferenceDiagnostic
no_function s = diagnostic.ExpectedFunction (e 2) s

-- the complaint at the call, and what was seen
abbrev table_of : Option InferenceDiagnostic → List Seen → InferenceResult
table_of said seen = record (empty_table given.body) {
  type_of_expr = Some u8 ∷ Some u8 ∷ Some ty.Error ∷ Some unit ∷ [];
  expr_diagnostics = None ∷ None ∷ said ∷ None ∷ [];
  seen = seen;
}

abbrev right : InferenceResult
right = table_of (Some (no_function u8)) (at_call u8 ∷ [])

known_u8 : IsKnown u8
known_u8 = ap has_unknown (sym (ty.rolls-Uint uint.U8)) ∙ fold-roll-Ty Bool Bool Bool Bool unknown_arg unknown_step unknown_bound unknown_trait (Ty-F.Uint uint.U8)

-- ---- what is called has a type by itself

own_type : (l : RawLiteral) (s : Ty) → one_u8 ≡ l → IsOwnType l s → s ≡ u8
own_type l s is own = subst (λ k. IsOwnType k s) (sym is) own

up_is : (m : ExprId) (r : Ty) → m ≡ e 0 → Up given m r → r ≡ u8
up_is m r at (of_literal n l s is own) = (let same : one_u8 ≡ l = cc in own_type l s same own)
up_is m r at (of_written n w init x none) = (let is = x.names in cc)
up_is m r at (of_initializer n i s x u) = (let is = x.names in cc)
up_is m r at (of_parameter n i s x w) = (let is = x.names in cc)
up_is m r at (of_call n σ c) = (let is = c.is_call in cc)
up_is m r at (of_unit n v x) = (let is = x.names in cc)

head_is : (m : ExprId) (h : Outermost) → m ≡ e 0 → HeadOf given m h → HasHead u8 h
head_is m k at (HeadOf.of_up n s h up has) = subst (λ u. HasHead u h) (up_is n s at up) has
head_is m k at (HeadOf.of_tuple n es is) = cc
head_is m k at (HeadOf.of_function n f is) = cc
head_is m k at (HeadOf.of_ctor n v x ts h is found has) = cc
head_is m k at (HeadOf.of_output n σ h c has) = (let is = c.is_call in cc)
head_is m k at (HeadOf.of_written n w init h x has) = (let is = x.names in cc)
head_is m k at (HeadOf.of_initializer n i h x u) = (let is = x.names in cc)
head_is m k at (HeadOf.of_parameter n i s h x w has) = (let is = x.names in cc)

-- ---- right

abbrev by_u8 : Assignment
by_u8 = record { var = λ n. u8; int_var = λ n. u8; const_var = λ n. const.Unknown }

true_seen : IsTrueSeen given right (at_call u8)
true_seen = record {
  call = e 2;
  called = e 0;
  args = e 1 ∷ [];
  is_node = refl;
  is_call = refl;
  alone = refl;
  type = u8;
  has = refl;
  instance = record { types = by_u8; integers = λ n. (integer.Uint uint.U8, refl); is = replaced_uint (with_holes by_u8) uint.U8 };
  not_callable = ap callable_step (top_uint uint.U8);
  no_item = λ i. (let names = i.1 in cc);
  upward = λ s up. sym (up_is (e 0) s refl up);
  head = λ h is. head_is (e 0) h refl is;
}

is_said : IsSaid given right (at_call u8)
is_said call called args s at is has known =
    let here : e 2 ≡ call = cc in
    let callee : e 0 ≡ called = cc in
    let type : u8 ≡ s = cc in
    subst (λ n. HasDiagnostic right n (diagnostic.ExpectedFunction n s)) here (subst (λ u. HasDiagnostic right (e 2) (no_function u)) type refl)

right_long : (c : Column) → IsLong given.body (index c) (length (col right c))
right_long column.type_of_placeholder = tt
right_long _ = refl

right_closed : (c : Column) → TypesHave IsClosed (entry_kind c) (col right c)
right_closed column.type_of_expr = (closed_u8, (closed_u8, (closed_error, (closed_unit, tt))))
right_closed column.expr_diagnostics = (closed_u8, tt)
right_closed _ = tt

right_made : IsMade given right
right_made = record {
  shape = record {
    of_body = record { long = right_long };
    closed = all_types_by IsClosed right right_closed;
    modes = λ x m at. absurd (cc);
    placeholders = none_placed given right refl;
    variants = record {
      exprs = λ x. each_entry (NamesVariant given.body x) right.expr_variants tt x.0;
      pats = λ x. each_entry (IsVariantPat given.body x) right.pat_variants tt x.0;
    };
    items = no_pat_items given right tt;
  };
  clauses = λ x h.
      each_below (λ k. ObeysOrMismatch given right (e k)) 4 x.0 (
        (((tt, (u8, refl, refl)), (u8, refl, refl)), inr (record { position = 0; entry = at_call u8; found = refl; is_node = refl }, (ty.Error, refl))),
        record { statements = (tt, tt); type = unit; has = refl; ends = inl refl },
      ) h;
  kinds = λ x h. absurd (omega arith);
  params = λ i q s found is. absurd (cc);
  bindings = λ v h. absurd (omega arith);
  body_clause = (unit, refl, inl refl);
  misfits = λ x. each_entry (IsMisfit given right x) right.expr_mismatches tt x.0;
  demands = λ x. each_entry (λ m. Demand given right x m.expected) right.expr_mismatches tt x.0;
  complaints = record {
    diagnostics = λ x.
        each_placed (λ k. IsTrueDiagnostic given right (e k)) right.expr_diagnostics
        ((refl, record { called = e 0; args = e 1 ∷ []; is_call = refl; has = refl; seen = record { position = 0; entry = at_call u8; found = refl; is_node = refl }; known = known_u8 }), tt) x.0;
    pat_diagnostics = λ x. each_entry (IsTruePatDiagnostic given x) right.pat_diagnostics tt x.0;
    pat_truths = λ x. each_entry (IsTruePatMismatch given right x) right.pat_mismatches tt x.0;
    seen = λ i x found. subst (IsTrueSeen given right) (first i (at_call u8) x found) true_seen;
    said = λ i x found. subst (IsSaid given right) (first i (at_call u8) x found) is_said;
  };
}
  where
    first : (i : ℕ) (x y : Seen) → slice_get (x ∷ []) i ≡ Some y → x ≡ y
    first zero x y h = cc
    first (suc i) x y h = absurd (cc)

pub right_typed : IsTyped given right
right_typed = typed_by_schedule given right schedule is_schedule right_made

-- ---- refused

top_var : (n : ℕ) → out-Ty (ty.Var n) ≡ Ty-F.Var n
top_var n = ap out-Ty (sym (ty.rolls-Var n)) ∙ out-roll-Ty (Ty-F.Var n)

top_fn_def : (i : CallableDefId) (xs : List GenericArg) → out-Ty (ty.FnDef i xs) ≡ Ty-F.FnDef i xs
top_fn_def i xs = ap out-Ty (sym (ty.rolls-FnDef i xs)) ∙ out-roll-Ty (Ty-F.FnDef i xs)

u8_is_no_hole : (n : ℕ) → ty.Var n ≡ u8 → ⊥
u8_is_no_hole n h = (let k : Ty-F.Var n ≡ Ty-F.Uint uint.U8 = sym (top_var n) ∙ (ap out-Ty h ∙ top_uint uint.U8) in cc)

u8_is_no_item : (i : CallableDefId) (xs : List GenericArg) → u8 ≡ ty.FnDef i xs → ⊥
u8_is_no_item i xs h = (let k : Ty-F.Uint uint.U8 ≡ Ty-F.FnDef i xs = sym (top_uint uint.U8) ∙ (ap out-Ty h ∙ top_fn_def i xs) in cc)

-- no complaint, though the type of what is called is known
pub in_silence : IsTyped given (table_of None (at_call u8 ∷ [])) → ⊥
in_silence h = (let clash = h.complaints.said 0 (at_call u8) refl (e 2) (e 0) (e 1 ∷ []) u8 refl refl refl known_u8 in cc)

-- a hole is seen where what is called has a type by itself
pub hole_seen : (n : ℕ) → IsTyped given (table_of (Some (no_function u8)) (at_call (ty.Var n) ∷ [])) → ⊥
hole_seen n h =
    (let x = h.complaints.seen 0 (at_call (ty.Var n)) refl in
    let at = x.is_node in
    let is = x.is_call in
    let called : e 0 ≡ x.called = cc in
    u8_is_no_hole n (x.upward u8 (subst (λ c. Up given c u8) called (of_literal (e 0) one_u8 u8 refl refl))))

-- nothing is seen, whether the complaint stands or not
pub nothing_seen : (said : Option InferenceDiagnostic) → IsTyped given (table_of said []) → ⊥
nothing_seen said h =
    elim (h.clauses (e 2) (omega arith)) [
      | inl r ↦ (let callee = r.is_callee in u8_is_no_item callee.item _ (only u8 _ callee.has))
      | inr m ↦ unseen _ (e 2) refl m.0
    ]

-- another type found than that of what is called
pub another_found : IsTyped given (table_of (Some (no_function ty.Bool)) (at_call u8 ∷ [])) → ⊥
another_found h =
    (let m = (h.complaints.diagnostics (e 2) (no_function ty.Bool) refl).1 in
    let is = m.is_call in
    let has = m.has in
    let called : e 0 ≡ m.called = cc in
    u8_is_no_bool (only u8 ty.Bool (subst (λ (c : ExprId). HasTy (table_of (Some (no_function ty.Bool)) (at_call u8 ∷ [])) c ty.Bool) (sym called) has)))

-- a path to a function is seen to be no function, at any table
pub function_seen : (types : List RawType) (f : RawFn) (l : RawLiteral) (output s : Ty) (t : InferenceResult) → t.seen ≡ at_call s ∷ [] → IsTyped (calling types f l output) t → ⊥
function_seen types f l output s t seen h =
    (let x = h.complaints.seen 0 (at_call s) (cc) in
    let at = x.is_node in
    let is = x.is_call in
    let called : e 0 ≡ x.called = cc in
    x.no_item (subst (IsPathToItem (calling types f l output)) called
    (path.Function function, refl, record { item = callable.FunctionId function; is_item = refl; signature = fn_signature types f; is_signature = refl })))
