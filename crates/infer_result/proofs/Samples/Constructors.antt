-- `fn f() -> u8 { match Some(1u8) { Some(x) => x, None => 0u8 } }` where `enum Maybe<T> { None, Some(T) }`: a path and a call of a
-- constructor, and patterns of both.
use Rattle.std.proofs.Common.{ℕ, ◌+◌, ◌<◌, ◌≡◌, inl, inr, List, [], ◌∷◌, map, refl, sym, ap, subst, ◌∙◌, arith, Option, Some, None, slice_get, length}
use Rattle.std.specs.Prelude.{codes}
use Rattle.infer_result.specs.Words.{AdtId, VariantId, TypeRefId, Ty, RawType, RawParam, RawAdtKind, RawCtor, RawField, RawVariant, RawAdt, RawBody, Schedule, Same, erased, IsClosed, param_at, filled_within, written_type, Scope, types_scope, Signature, type_args, at_args, own_adt, field_types, own_adt_at, signature_of, subpattern, the_body, inner, IsSchedule, start, end, after, Fits, parts}
use Rattle.hir_types.specs.declared.ids.CallableDefId.TheVariants as callable
use Rattle.hir_types.specs.declared.ids.ExprOrPatId.TheVariants as node
use Rattle.hir_types.specs.declared.ty.Ty.TheVariants as ty
use Rattle.hir_types.specs.declared.ty.UintTy.TheVariants as uint
use Rattle.hir_types.specs.declared.ty.IntegerTy.TheVariants as integer
use Rattle.infer_result.specs.Words.hir_raw.declared.raw.RawType.TheVariants as type
use Rattle.infer_result.specs.Words.hir_raw.declared.raw.RawParam.TheVariants as parameter
use Rattle.infer_result.specs.Words.hir_raw.declared.raw.RawVis.TheVariants as visible
use Rattle.infer_result.specs.Words.hir_raw.declared.raw.RawAdtKind.TheVariants as kind
use Rattle.infer_result.specs.Words.hir_raw.declared.raw.RawCtor.TheVariants as ctor
use Rattle.infer_result.specs.Words.hir_raw.declared.raw.RawLiteral.TheVariants as literal
use Rattle.infer_result.specs.Words.hir_raw.declared.raw.RawPath.TheVariants as path
use Rattle.infer_result.specs.Words.hir_raw.declared.raw.RawExpr.TheVariants as expr
use Rattle.infer_result.specs.Words.hir_raw.declared.raw.RawPat.TheVariants as pat
use Rattle.infer_result.proofs.Words.{has_hole_adt, has_hole_fn_def}
use Rattle.infer_result.specs.Own.{empty_table, Column, entry_kind, index, col, IsLong, InferenceResult, TypeMismatch, HasTy, BindingTy, WasSeen, mismatch, Given, IsVariantAt, IsCtorAt, IsCallee, ArgsRule, IsPatOf, Demand, at_or_mismatch, ObeysOrMismatch, PatRule, IsTruePatMismatch, IsTrueDiagnostic, IsTruePatDiagnostic, IsBinder, NamesVariant, IsVariantPat, IsMisfit, IsMade, IsTyped}
use Rattle.infer_result.specs.Columns as column
use Rattle.infer_result.specs.declared.modes.BindingMode.TheVariants as mode
use Rattle.infer_result.proofs.Derived.{one_at, fn_def_parts, same_type_args, typed_by_schedule}
use Rattle.infer_result.proofs.Samples.Small.{facts_with, e, p, b, w, u8, one_u8, plain, body_of, each_below, each_node, apart_by, only, each_entry, TypesHave, all_types_by, each_placed, closed_u8, u8_is_no_bool, u8_differs_bool, none_placed, no_pat_items}
use Rattle.infer_result.proofs.Samples.Calling.{unseen}

-- ---- adts

abbrev pub v : ℕ → VariantId
v n = record { 0 = n }

-- the one adt of the facts
abbrev pub adt : AdtId
adt = record { 0 = 0 }

abbrev pub adt_of : RawAdtKind → List RawParam → List VariantId → RawAdt
adt_of k params variants = record {
  name = codes "A";
  kind = k;
  params = params;
  preds = [];
  variants = variants;
  repr = None;
  unsize = None;
}

abbrev pub field : TypeRefId → RawField
field t = record { name = codes "0"; type_ = t; vis = visible.Pub }

-- a variant of that adt, with fields of these types
abbrev pub variant_of : RawCtor → List TypeRefId → RawVariant
variant_of k ts = record {
  adt = adt;
  name = codes "V";
  ctor = k;
  fields = map field ts;
  body = None;
}

-- the scope of a definition without generic parameters where there are these types, this adt and these variants
abbrev pub scope_of_adt : List RawType → RawAdt → List RawVariant → Scope
scope_of_adt types a variants = types_scope (record (facts_with types []) { adts = a ∷ []; variants = variants }) 0

-- ---- the body

abbrev body : RawBody
body =
    body_of
    (expr.Path (path.Ctor (v 1)) ∷ expr.Lit one_u8 ∷ expr.Call (e 0) (e 1 ∷ []) ∷ expr.Path (path.Local (b 0)) ∷ expr.Lit (literal.Int (codes "0") (Some (integer.Uint uint.U8)))
    ∷ expr.Match (e 2) (record { pat = p 0; guard = None; expr = e 3 } ∷ record { pat = p 2; guard = None; expr = e 4 } ∷ []) ∷ expr.Block None [] (Some (e 5)) ∷ [])
    6 (pat.TupleStruct (v 1) (p 1 ∷ []) ∷ pat.Bind (b 0) None ∷ pat.Path (path.Ctor (v 0)) ∷ []) (plain ∷ [])

abbrev types : List RawType
types = type.Param 0 ∷ []

-- `None` and `Some(T)`
abbrev none : RawVariant
none = variant_of ctor.Unit []

abbrev some : RawVariant
some = variant_of ctor.Tuple (w 0 ∷ [])

abbrev given : Given
given = record { scope = scope_of_adt types (adt_of kind.Enum (parameter.Type ∷ []) (v 0 ∷ v 1 ∷ [])) (none ∷ some ∷ []); body = body; inputs = []; output = Some u8; aliases = [] }

-- `Maybe` and the path to `Some`, at this type
abbrev maybe : Ty → Ty
maybe s = ty.Adt adt (type_args (s ∷ []))

abbrev some_at : Ty → Ty
some_at s = ty.FnDef (callable.VariantId (v 1)) (type_args (s ∷ []))

some_is : (s : Ty) → IsVariantAt given (v 1) some (s ∷ [])
some_is s = record { found = refl; count = refl }

none_ctor : (s : Ty) → IsCtorAt given (v 0) none (s ∷ [])
none_ctor s = record { found = refl; count = refl }

some_ctor : (s : Ty) → IsCtorAt given (v 1) some (s ∷ [])
some_ctor s = record { found = refl; count = refl }

written : written_type types (w 0) ≡ ty.Param 0
unfolding filled_within
written = refl

-- the type of the field at this type
field_at : (s : Ty) → at_args (s ∷ []) (written_type types (w 0)) ≡ s
field_at s = ap (at_args (s ∷ [])) written ∙ param_at (s ∷ []) 0 s refl

abbrev schedule : Schedule
schedule = record {
  starts = 4 ∷ 5 ∷ 3 ∷ 9 ∷ 10 ∷ 2 ∷ 1 ∷ 6 ∷ 7 ∷ 8 ∷ 0 ∷ [];
  ends = 5 ∷ 6 ∷ 6 ∷ 10 ∷ 11 ∷ 11 ∷ 11 ∷ 8 ∷ 8 ∷ 9 ∷ 11 ∷ [];
  depths = 4 ∷ 4 ∷ 3 ∷ 3 ∷ 3 ∷ 2 ∷ 1 ∷ 3 ∷ 4 ∷ 3 ∷ 0 ∷ [];
}

is_schedule : IsSchedule body schedule
is_schedule = record {
  starts_size = refl;
  ends_size = refl;
  first = refl;
  fits = each_node body (λ n. Fits body schedule (start body schedule n + 1) (parts body n)) (
    (omega arith, refl, tt),
    (((((((tt, tt), tt), (omega arith, refl, (omega arith, refl, tt))), tt), tt), (omega arith, refl, (omega arith, refl, (omega arith, refl, (omega arith, refl, (omega arith, refl, tt)))))), (omega arith, refl, tt)),
    (((tt, (omega arith, refl, tt)), tt), tt),
  );
  ends = each_node body (λ n. after body schedule (start body schedule n + 1) (parts body n) ≡ end body schedule n)
      (refl, (((((((tt, refl), refl), refl), refl), refl), refl), refl), (((tt, refl), refl), refl));
  order = each_node body (λ n. start body schedule n < end body schedule n)
      (omega arith, (((((((tt, omega arith), omega arith), omega arith), omega arith), omega arith), omega arith), omega arith), (((tt, omega arith), omega arith), omega arith));
  reached = each_node body (λ n. start body schedule n < end body schedule the_body)
      (omega arith, (((((((tt, omega arith), omega arith), omega arith), omega arith), omega arith), omega arith), omega arith), (((tt, omega arith), omega arith), omega arith));
  apart = apart_by body schedule
      (the_body ∷ inner (node.ExprId (e 6)) ∷ inner (node.ExprId (e 5)) ∷ inner (node.ExprId (e 2)) ∷ inner (node.ExprId (e 0)) ∷ inner (node.ExprId (e 1)) ∷ inner (node.PatId (p 0))
      ∷ inner (node.PatId (p 1)) ∷ inner (node.PatId (p 2)) ∷ inner (node.ExprId (e 3)) ∷ inner (node.ExprId (e 4)) ∷ [])
      (refl, (((((((tt, refl), refl), refl), refl), refl), refl), refl), (((tt, refl), refl), refl));
}

-- the types of the path to `Some`, of the call, of the path `x`; of the patterns `Some(x)` and `None`, of `x` as a pattern; of
-- `x` as a binding
abbrev table_of : Ty → Ty → Ty → Ty → Ty → Ty → List (Option TypeMismatch) → List (Option VariantId) → List (Option VariantId) → InferenceResult
table_of callee call name whole x bound mismatches expr_variants pat_variants = record (empty_table given.body) {
  type_of_expr = Some callee ∷ Some u8 ∷ Some call ∷ Some name ∷ Some u8 ∷ Some u8 ∷ Some u8 ∷ [];
  type_of_pat = Some whole ∷ Some x ∷ Some whole ∷ [];
  type_of_binding = Some bound ∷ [];
  binding_modes = None ∷ Some mode.Move ∷ None ∷ [];
  expr_mismatches = mismatches;
  expr_variants = expr_variants;
  pat_variants = pat_variants;
}

abbrev silent : List (Option TypeMismatch)
silent = None ∷ None ∷ None ∷ None ∷ None ∷ None ∷ None ∷ []

-- the variants that the paths and the patterns name
abbrev named : List (Option VariantId)
named = Some (v 1) ∷ None ∷ None ∷ None ∷ None ∷ None ∷ None ∷ []

abbrev named_pats : List (Option VariantId)
named_pats = Some (v 1) ∷ None ∷ Some (v 0) ∷ []

-- the right types, with these variants
abbrev recording : List (Option VariantId) → List (Option VariantId) → InferenceResult
recording expr_variants pat_variants = table_of (some_at u8) (maybe u8) u8 (maybe u8) u8 u8 silent expr_variants pat_variants

abbrev right : InferenceResult
right = recording named named_pats

closed_maybe : IsClosed (maybe u8)
closed_maybe = has_hole_adt adt (u8 ∷ []) ∙ rw (closed_u8) refl

closed_some : IsClosed (some_at u8)
closed_some = has_hole_fn_def (callable.VariantId (v 1)) (u8 ∷ []) ∙ rw (closed_u8) refl

abbrev signature : Signature
signature = record { params = 1; inputs = field_types types some; output = own_adt adt 1 }

call_obeys : ObeysOrMismatch given right (e 2)
call_obeys = inl (record {
  signature = signature;
  types = u8 ∷ [];
  is_callee = record { item = callable.VariantId (v 1); has = refl; signature = refl };
  arguments = inl ((u8, refl, inl (ap erased (sym (field_at u8)))), tt);
  has = subst (HasTy right (e 2)) (sym (own_adt_at adt (u8 ∷ []))) refl;
})

match_obeys : ObeysOrMismatch given right (e 5)
match_obeys = record {
  scrutinee = maybe u8;
  comes = refl;
  patterns = ((maybe u8, refl, inl refl), ((maybe u8, refl, inl refl), tt));
  type = u8;
  has = refl;
  alternatives = ((tt, inl (u8, refl, refl)), ((tt, inl (u8, refl, refl)), tt));
}

-- the pattern `Some(x)` is of `Some` at `u8`, in whose field no associated type stands
some_pat : (name x bound : Ty) (mismatches : List (Option TypeMismatch)) → IsPatOf given (table_of (some_at u8) (maybe u8) name (maybe u8) x bound mismatches named named_pats) (p 0) (v 1) some (u8 ∷ []) []
some_pat name x bound mismatches = record { is_variant = some_is u8; is_ctor = some_ctor u8; has = refl; item = tt }

some_obeys : PatRule given right (p 0) (slice_get body.pats 0)
some_obeys = record {
  variant = some;
  types = u8 ∷ [];
  hidden = [];
  is = some_pat u8 u8 u8 silent;
  parts = ((u8, refl, inl (sym (field_at u8))), tt);
  counted = inl refl;
  resolved = refl;
}

right_long : (c : Column) → IsLong given.body (index c) (length (col right c))
right_long column.type_of_placeholder = tt
right_long _ = refl

right_closed : (c : Column) → TypesHave IsClosed (entry_kind c) (col right c)
right_closed column.type_of_expr = (closed_some, (closed_u8, (closed_maybe, (closed_u8, (closed_u8, (closed_u8, (closed_u8, tt)))))))
right_closed column.type_of_pat = (closed_maybe, (closed_u8, (closed_maybe, tt)))
right_closed column.type_of_binding = (closed_u8, tt)
right_closed _ = tt

right_made : IsMade given right
right_made = record {
  shape = record {
    of_body = record { long = right_long };
    closed = all_types_by IsClosed right right_closed;
    modes = λ x. each_placed (λ k m. IsBinder body (p k)) right.binding_modes ((b 0, None, refl), tt) x.0;
    placeholders = none_placed given right refl;
    variants = record {
      exprs = λ x. each_placed (λ k. NamesVariant given.body (e k)) right.expr_variants (refl, tt) x.0;
      pats = λ x. each_placed (λ k. IsVariantPat given.body (p k)) right.pat_variants (inr (p 1 ∷ [], refl), (inl refl, tt)) x.0;
    };
    items = no_pat_items given right tt;
  };
  clauses = λ x h.
      each_below (λ k. ObeysOrMismatch given right (e k)) 7 x.0 (
        ((((((tt, (some_at u8, refl, record { variant = some; types = u8 ∷ []; is_ctor = some_ctor u8; is = refl }, refl)), (u8, refl, refl)), call_obeys), (u8, refl, refl)), (u8, refl, refl)), match_obeys),
        record { statements = tt; type = u8; has = refl; ends = (u8, refl, inl refl) },
      ) h;
  kinds = λ x h.
      each_below (λ k. PatRule given right (p k) (slice_get body.pats k)) 3 x.0
      (((tt, some_obeys), (u8, refl, refl, refl)), (maybe u8, refl, record { variant = none; types = u8 ∷ []; is_ctor = none_ctor u8; is = refl }, refl)) h;
  params = λ i q s found is. absurd (cc);
  bindings = λ x h. each_below (λ k. (s : Ty) × BindingTy right (b k) s) 1 x.0 (tt, (u8, refl)) h;
  body_clause = (u8, refl, inl refl);
  misfits = λ x. each_entry (IsMisfit given right x) right.expr_mismatches tt x.0;
  demands = λ x. each_entry (λ m. Demand given right x m.expected) right.expr_mismatches tt x.0;
  complaints = record {
    diagnostics = λ x. each_entry (IsTrueDiagnostic given right x) right.expr_diagnostics tt x.0;
    pat_diagnostics = λ x. each_entry (IsTruePatDiagnostic given x) right.pat_diagnostics tt x.0;
    pat_truths = λ x. each_entry (IsTruePatMismatch given right x) right.pat_mismatches tt x.0;
    seen = λ i x found. absurd (cc);
    said = λ i x found. absurd (cc);
  };
}

pub right_typed : IsTyped given right
right_typed = typed_by_schedule given right schedule is_schedule right_made

-- ---- refused: types

-- `x` is bound at another type than the field has, whatever the type of the pattern `x` and whatever mismatches stand
pub other_field : (name x bound : Ty) (mismatches : List (Option TypeMismatch)) → (u8 ≡ bound → ⊥)
    → IsTyped given (table_of (some_at u8) (maybe u8) name (maybe u8) x bound mismatches named named_pats) → ⊥
other_field name x bound mismatches differ h =
    (let o = h.pats (p 1) (omega arith) in
    let c = o.incoming u8 (record {
      parent = inner (node.PatId (p 0));
      at_part = 0;
      role = subpattern 0;
      stands = record { node_is = omega arith; part = refl };
      gives = inr (record { named = v 1; parts = p 1 ∷ []; is_pat = refl; variant = some; types = u8 ∷ []; hidden = []; is = some_pat name x bound mismatches; field = ap Some (field_at u8) });
    }) in
    elim c.2 [
      | inl same ↦ differ (sym same ∙ (sym (only x c.0 c.1) ∙ (only x o.kind.0 o.kind.1 ∙ sym (only bound o.kind.0 o.kind.2))))
      | inr m ↦ absurd m
    ])

-- the arm complains that `x` is a `bool`
abbrev first_arm : List (Option TypeMismatch)
first_arm = None ∷ None ∷ None ∷ Some (mismatch u8 ty.Bool) ∷ None ∷ None ∷ None ∷ []

pub bound_at_bool : IsTyped given (table_of (some_at u8) (maybe u8) ty.Bool (maybe u8) ty.Bool ty.Bool first_arm named named_pats) → ⊥
bound_at_bool = other_field ty.Bool ty.Bool ty.Bool first_arm u8_is_no_bool

module _ (t : InferenceResult) (s : Ty) (stands : HasTy t (e 0) (some_at s)) where
  -- the constructor is called at the type that stands at its path, and has its own signature
  callee_is : (σ : Signature) (us : List Ty) → IsCallee given t (e 0) σ us → (us ≡ s ∷ []) × (σ ≡ signature)
  callee_is σ us is =
      let same = fn_def_parts is.item (callable.VariantId (v 1)) (type_args us) (type_args (s ∷ [])) (one_at t.type_of_expr 0 _ _ is.has stands) in
      let made : signature_of given.scope.facts (callable.VariantId (v 1)) ≡ Some σ = subst (λ i. signature_of given.scope.facts i ≡ Some σ) same.0 is.signature in
      (same_type_args us (s ∷ []) same.1, cc)

  -- the rule of the call, with the field as input and the adt as output
  obeyed : ObeysOrMismatch given t (e 2) → (WasSeen t (e 2) → ⊥) → ArgsRule (at_or_mismatch given t) (e 2) (e 1 ∷ []) (at_args (s ∷ []) (written_type types (w 0)) ∷ []) × HasTy t (e 2) (maybe s)
  obeyed (inr (m, k)) unseen = absurd (unseen m)
  obeyed (inl r) unseen =
      let σ = r.signature in
      let (at, own) = callee_is r.signature r.types r.is_callee in (
        subst (λ (x : Signature). ArgsRule (at_or_mismatch given t) (e 2) (e 1 ∷ []) (map (at_args (s ∷ [])) x.inputs)) own (subst (λ vs. ArgsRule (at_or_mismatch given t) (e 2) (e 1 ∷ []) (map (at_args vs) σ.inputs)) at r.arguments),
        subst (HasTy t (e 2)) (own_adt_at adt (s ∷ [])) (subst (λ (x : Signature). HasTy t (e 2) (at_args (s ∷ []) x.output)) own (subst (λ vs. HasTy t (e 2) (at_args vs σ.output)) at r.has)),
      )

-- the path to `Some` is at another type than the argument has, of which no mismatch tells, whatever the types of the call, of
-- the patterns and of `x`
pub callee_at_other : (s call name whole x bound : Ty) (first : Option TypeMismatch) (others : List (Option TypeMismatch)) → (Same u8 s → ⊥)
    → IsTyped given (table_of (some_at s) call name whole x bound (first ∷ None ∷ others) named named_pats) → ⊥
callee_at_other s call name whole x bound first others differ h =
    elim (obeyed (table_of (some_at s) call name whole x bound (first ∷ None ∷ others) named named_pats) s refl (h.clauses (e 2) (omega arith)) (unseen _ (e 2) refl)).0 [
      | inr said ↦ (let clash = said in cc)
      | inl all ↦
          (let (a, has, same_or) = all.0 in
          elim same_or [
            | inl same ↦ differ (ap erased (only u8 a has) ∙ (same ∙ ap erased (field_at s)))
            | inr m ↦ (let clash = m.1 in cc)
          ])
    ]

-- at `bool`, with the call, the patterns and `x` at that
pub callee_at_bool : IsTyped given (table_of (some_at ty.Bool) (maybe ty.Bool) ty.Bool (maybe ty.Bool) ty.Bool ty.Bool first_arm named named_pats) → ⊥
callee_at_bool = callee_at_other ty.Bool (maybe ty.Bool) ty.Bool (maybe ty.Bool) ty.Bool ty.Bool None (None ∷ Some (mismatch u8 ty.Bool) ∷ None ∷ None ∷ None ∷ []) u8_differs_bool

-- the call has another type than `Maybe` at the type of the path
pub call_at_other : (call name whole x bound : Ty) (mismatches : List (Option TypeMismatch)) → (call ≡ maybe u8 → ⊥)
    → IsTyped given (table_of (some_at u8) call name whole x bound mismatches named named_pats) → ⊥
call_at_other call name whole x bound mismatches differ h =
    differ (only call (maybe u8) (obeyed (table_of (some_at u8) call name whole x bound mismatches named named_pats) u8 refl (h.clauses (e 2) (omega arith)) (unseen _ (e 2) refl)).1)

-- ---- refused: variants

-- the pattern `Some(x)` resolves to another variant, or to none
pub pattern_misresolved : (o : Option VariantId) → (o ≡ Some (v 1) → ⊥) → IsTyped given (recording named (o ∷ None ∷ Some (v 0) ∷ [])) → ⊥
pattern_misresolved o differ h = (let r = (h.pats (p 0) (omega arith)).kind.resolved in differ (cc))

pub pattern_unrecorded : IsTyped given (recording named (None ∷ None ∷ Some (v 0) ∷ [])) → ⊥
pattern_unrecorded = pattern_misresolved None (λ k. cc)

-- the pattern `None`
pub path_pattern_misresolved : (o : Option VariantId) → (o ≡ Some (v 0) → ⊥) → IsTyped given (recording named (Some (v 1) ∷ None ∷ o ∷ [])) → ⊥
path_pattern_misresolved o differ h = (let r = (h.pats (p 2) (omega arith)).kind.3 in differ (cc))

pub path_pattern_unrecorded : IsTyped given (recording named (Some (v 1) ∷ None ∷ None ∷ [])) → ⊥
path_pattern_unrecorded = path_pattern_misresolved None (λ k. cc)

-- the path to `Some`
pub path_misresolved : (o : Option VariantId) → (o ≡ Some (v 1) → ⊥) → IsTyped given (recording (o ∷ None ∷ None ∷ None ∷ None ∷ None ∷ None ∷ []) named_pats) → ⊥
path_misresolved o differ h = (let r = (h.clauses (e 0) (omega arith)).3 in differ (cc))

pub path_unrecorded : IsTyped given (recording (None ∷ None ∷ None ∷ None ∷ None ∷ None ∷ None ∷ []) named_pats) → ⊥
path_unrecorded = path_misresolved None (λ k. cc)

-- a variant is recorded at the argument, at the call, at the pattern `x`
pub recorded_at_argument : (i : VariantId) → IsTyped given (recording (Some (v 1) ∷ Some i ∷ None ∷ None ∷ None ∷ None ∷ None ∷ []) named_pats) → ⊥
recorded_at_argument i h = (let names = h.shape.variants.exprs (e 1) i refl in cc)

pub recorded_at_call : (i : VariantId) → IsTyped given (recording (Some (v 1) ∷ None ∷ Some i ∷ None ∷ None ∷ None ∷ None ∷ []) named_pats) → ⊥
recorded_at_call i h = (let names = h.shape.variants.exprs (e 2) i refl in cc)

pub recorded_at_binding : (i : VariantId) → IsTyped given (recording named (Some (v 1) ∷ Some i ∷ Some (v 0) ∷ [])) → ⊥
recorded_at_binding i h = elim (h.shape.variants.pats (p 1) i refl) [ inl is ↦ (let clash = is in cc) | inr is ↦ (let clash = is.1 in cc) ]
