-- `fn f(o: W<u8>) { let W(x) = o; }` where `struct W<T: Tr>(T::Out);`: which type `<u8 as Tr>::Out` is stands in the item that the pattern
-- is of, so `x` has that type. That it is this one is a goal that the pattern needs.
use Rattle.std.proofs.Common.{◌+◌, ◌<◌, ◌≡◌, inl, inr, List, [], ◌∷◌, ◌++◌, length, refl, sym, ap, subst, ◌∙◌, arith, append-nil, Option, Some, None, slice_get}
use Rattle.hir_types.specs.declared.ids.CallableDefId.TheVariants as callable
use Rattle.hir_types.specs.declared.ids.ExprOrPatId.TheVariants as node
use Rattle.infer_result.specs.Words.{TypeAliasId, GenericArg, Ty, Ty-F, out-Ty, out-roll-Ty, RawType, RawVariant, RawBody, Schedule, unit, IsClosed, param_at, filled_within, written_type, adt_params, type_args, at_args, variant_types, ctor_item, subpattern, the_body, inner, IsSchedule, start, end, after, Fits, parts, Asked}
use Rattle.hir_types.specs.declared.ty.Ty.TheVariants as ty
use Rattle.hir_types.specs.declared.ty.UintTy.TheVariants as uint
use Rattle.hir_types.specs.declared.ty.IntegerTy.TheVariants as integer
use Rattle.infer_result.specs.Words.hir_raw.declared.raw.RawType.TheVariants as type
use Rattle.infer_result.specs.Words.hir_raw.declared.raw.RawParam.TheVariants as parameter
use Rattle.infer_result.specs.Words.hir_raw.declared.raw.RawAdtKind.TheVariants as kind
use Rattle.infer_result.specs.Words.hir_raw.declared.raw.RawCtor.TheVariants as ctor
use Rattle.infer_result.specs.Words.hir_raw.declared.raw.RawStmt.TheVariants as stmt
use Rattle.infer_result.specs.Words.hir_raw.declared.raw.RawPath.TheVariants as path
use Rattle.infer_result.specs.Words.hir_raw.declared.raw.RawExpr.TheVariants as expr
use Rattle.infer_result.specs.Words.hir_raw.declared.raw.RawPat.TheVariants as pat
use Rattle.infer_result.proofs.Words.{has_hole_adt, has_hole_fn_def}
use Rattle.infer_result.specs.Own.{empty_table, Column, entry_kind, index, col, IsLong, InferenceResult, alias_goal, PatTy, BindingTy, Given, IsVariantAt, IsCtorAt, IsItemOf, IsPatOf, Demand, ObeysOrMismatch, PatRule, IsTruePatMismatch, IsTrueDiagnostic, IsTruePatDiagnostic, IsBinder, NamesVariant, IsVariantPat, IsItemOfPat, IsMisfit, IsMade, IsNeeded, pat_needs_by, IsTyped}
use Rattle.infer_result.specs.Columns as column
use Rattle.infer_result.specs.declared.modes.BindingMode.TheVariants as mode
use Rattle.infer_result.proofs.Derived.{typed_by_schedule}
use Rattle.infer_result.proofs.Samples.Small.{e, p, b, w, u8, plain, body_with, each_below, each_node, apart_by, one_param, only, each_entry, TypesHave, all_types_by, each_placed, closed_u8, closed_unit, none_placed}
use Rattle.infer_result.proofs.Samples.Constructors.{v, adt, adt_of, variant_of, scope_of_adt}

abbrev body : RawBody
body =
    body_with (p 0 ∷ []) (expr.Path (path.Local (b 0)) ∷ expr.Block None (stmt.Let (p 1) None (Some (e 0)) None ∷ []) None ∷ []) 1
    (pat.Bind (b 0) None ∷ pat.TupleStruct (v 0) (p 2 ∷ []) ∷ pat.Bind (b 1) None ∷ []) (plain ∷ plain ∷ [])

abbrev alias : TypeAliasId
alias = record { 0 = 0 }

-- `T`, `T::Out`, `u8` and `W<u8>`
abbrev types : List RawType
types = type.Param 0 ∷ type.Projection alias (w 0 ∷ []) ∷ type.Integer (integer.Uint uint.U8) ∷ type.Adt adt (w 2 ∷ []) ∷ []

abbrev single : RawVariant
single = variant_of ctor.Tuple (w 1 ∷ [])

abbrev whole : Ty
whole = ty.Adt adt (type_args (u8 ∷ []))

-- the constructor at `u8`, where the associated type is this type
abbrev item : Ty → Ty
item s = ctor_item (v 0) (u8 ∷ s ∷ [])

abbrev given : Given
given = record {
  scope = scope_of_adt types (adt_of kind.Struct (parameter.Type ∷ []) (v 0 ∷ [])) (single ∷ []);
  body = body;
  inputs = Some (written_type types (w 3)) ∷ [];
  output = Some unit;
  aliases = [];
}

single_is : IsVariantAt given (v 0) single (u8 ∷ [])
single_is = record { found = refl; count = refl }

-- it has a parameter more than the adt
single_ctor : (s : Ty) → IsCtorAt given (v 0) single (u8 ∷ s ∷ [])
single_ctor s = record { found = refl; count = refl }

written : written_type types (w 3) ≡ whole
unfolding filled_within
written = refl

field_written : written_type (variant_types types 1 single) (w 1) ≡ ty.Param 1
unfolding filled_within
field_written = refl

-- the type of the field is that of the associated type
field_is : (s : Ty) → at_args (u8 ∷ s ∷ []) (written_type (variant_types types 1 single) (w 1)) ≡ s
field_is s = ap (at_args (u8 ∷ s ∷ [])) field_written ∙ param_at (u8 ∷ s ∷ []) 1 s refl

abbrev schedule : Schedule
schedule = record { starts = 3 ∷ 2 ∷ 1 ∷ 4 ∷ 5 ∷ 0 ∷ []; ends = 4 ∷ 6 ∷ 2 ∷ 6 ∷ 6 ∷ 6 ∷ []; depths = 2 ∷ 1 ∷ 1 ∷ 2 ∷ 3 ∷ 0 ∷ [] }

is_schedule : IsSchedule body schedule
is_schedule = record {
  starts_size = refl;
  ends_size = refl;
  first = refl;
  fits = each_node body (λ n. Fits body schedule (start body schedule n + 1) (parts body n))
      ((omega arith, refl, (omega arith, refl, tt)), ((tt, tt), (omega arith, refl, (omega arith, refl, tt))), (((tt, tt), (omega arith, refl, tt)), tt));
  ends = each_node body (λ n. after body schedule (start body schedule n + 1) (parts body n) ≡ end body schedule n) (refl, ((tt, refl), refl), (((tt, refl), refl), refl));
  order = each_node body (λ n. start body schedule n < end body schedule n) (omega arith, ((tt, omega arith), omega arith), (((tt, omega arith), omega arith), omega arith));
  reached = each_node body (λ n. start body schedule n < end body schedule the_body) (omega arith, ((tt, omega arith), omega arith), (((tt, omega arith), omega arith), omega arith));
  apart = apart_by body schedule
      (the_body ∷ inner (node.PatId (p 0)) ∷ inner (node.ExprId (e 1)) ∷ inner (node.ExprId (e 0)) ∷ inner (node.PatId (p 1)) ∷ inner (node.PatId (p 2)) ∷ [])
      (refl, ((tt, refl), refl), (((tt, refl), refl), refl));
}

-- the item of the pattern `W(x)`, and the type of `x`
abbrev table_of : Option Ty → Ty → InferenceResult
table_of found x = record (empty_table given.body) {
  type_of_expr = Some whole ∷ Some unit ∷ [];
  type_of_pat = Some whole ∷ Some whole ∷ Some x ∷ [];
  item_of_pat = None ∷ found ∷ None ∷ [];
  type_of_binding = Some whole ∷ Some x ∷ [];
  binding_modes = Some mode.Move ∷ None ∷ Some mode.Move ∷ [];
  pat_variants = None ∷ Some (v 0) ∷ None ∷ [];
}

-- the pattern is of the constructor where the associated type is s
pat_is : (s x : Ty) → IsPatOf given (table_of (Some (item s)) x) (p 1) (v 0) single (u8 ∷ []) (s ∷ [])
pat_is s x = record { is_variant = single_is; is_ctor = single_ctor s; has = refl; item = refl }

module _ (s : Ty) (closed_s : IsClosed s) where
  abbrev right : InferenceResult
  right = table_of (Some (item s)) s

  closed_whole : IsClosed whole
  closed_whole = has_hole_adt adt (u8 ∷ []) ∙ rw (closed_u8) refl

  closed_item : IsClosed (item s)
  closed_item = has_hole_fn_def (callable.VariantId (v 0)) (u8 ∷ s ∷ []) ∙ rw (closed_u8, closed_s) refl

  pattern_obeys : PatRule given right (p 1) (slice_get body.pats 1)
  pattern_obeys = record {
    variant = single;
    types = u8 ∷ [];
    hidden = s ∷ [];
    is = pat_is s s;
    parts = ((s, refl, inl (sym (field_is s))), tt);
    counted = inl refl;
    resolved = refl;
  }

  item_is : IsItemOfPat given.scope.facts body (p 1) (item s)
  item_is = record {
    named = v 0;
    parts = p 2 ∷ [];
    is_pat = refl;
    variant = single;
    found = refl;
    has_aliases = λ none. (let clash : 1 ∷ [] ≡ [] = none in cc);
    types = u8 ∷ s ∷ [];
    is = refl;
  }

  right_long : (c : Column) → IsLong given.body (index c) (length (col right c))
  right_long column.type_of_placeholder = tt
  right_long _ = refl

  right_closed : (c : Column) → TypesHave IsClosed (entry_kind c) (col right c)
  right_closed column.type_of_expr = (closed_whole, (closed_unit, tt))
  right_closed column.type_of_pat = (closed_whole, (closed_whole, (closed_s, tt)))
  right_closed column.type_of_binding = (closed_whole, (closed_s, tt))
  right_closed column.item_of_pat = (closed_item, tt)
  right_closed _ = tt

  right_made : IsMade given right
  right_made = record {
    shape = record {
      of_body = record { long = right_long };
      closed = all_types_by IsClosed right right_closed;
      modes = λ x. each_placed (λ k m. IsBinder body (p k)) right.binding_modes ((b 0, None, refl), ((b 1, None, refl), tt)) x.0;
      placeholders = none_placed given right refl;
      variants = record {
        exprs = λ x. each_entry (NamesVariant given.body x) right.expr_variants tt x.0;
        pats = λ x. each_placed (λ k. IsVariantPat given.body (p k)) right.pat_variants (inr (p 2 ∷ [], refl), tt) x.0;
      };
      items = λ x. each_placed (λ k. IsItemOfPat given.scope.facts given.body (p k)) right.item_of_pat (item_is, tt) x.0;
    };
    clauses = λ x h.
        each_below (λ k. ObeysOrMismatch given right (e k)) 2 x.0
        ((tt, (whole, refl, refl)), record { statements = ((whole, refl, (whole, refl, inl refl)), tt); type = unit; has = refl; ends = inl refl }) h;
    kinds = λ x h.
        each_below (λ k. PatRule given right (p k) (slice_get body.pats k)) 3 x.0
        (((tt, (whole, refl, refl, refl)), pattern_obeys), (s, refl, refl, refl)) h;
    params = one_param given right (p 0) (w 3) refl refl (subst (PatTy right (p 0)) (sym written) refl);
    bindings = λ x h. each_below (λ k. (u : Ty) × BindingTy right (b k) u) 2 x.0 ((tt, (whole, refl)), (s, refl)) h;
    body_clause = (unit, refl, inl refl);
    misfits = λ x. each_entry (IsMisfit given right x) right.expr_mismatches tt x.0;
    demands = λ x. each_entry (λ m. Demand given right x m.expected) right.expr_mismatches tt x.0;
    complaints = record {
      diagnostics = λ x. each_entry (IsTrueDiagnostic given right x) right.expr_diagnostics tt x.0;
      pat_diagnostics = λ x. each_entry (IsTruePatDiagnostic given x) right.pat_diagnostics tt x.0;
      pat_truths = λ x. each_entry (IsTruePatMismatch given right x) right.pat_mismatches tt x.0;
      seen = λ i x found. absurd (cc);
      said = λ i x found. absurd (cc);
    };
  }

  -- the rules hold whatever type it is
  pub right_typed : IsTyped given right
  right_typed = typed_by_schedule given right schedule is_schedule right_made

-- ---- what the pattern needs

-- that the associated type is the type in the item
abbrev needed : Ty → Asked
needed s = alias_goal given.scope.facts (type_args (u8 ∷ s ∷ [])) 1 alias (w 0 ∷ [])

top_item : (xs : List GenericArg) → out-Ty (ty.FnDef (callable.VariantId (v 0)) xs) ≡ Ty-F.FnDef (callable.VariantId (v 0)) xs
top_item xs = ap out-Ty (sym (ty.rolls-FnDef (callable.VariantId (v 0)) xs)) ∙ out-roll-Ty (Ty-F.FnDef (callable.VariantId (v 0)) xs)

pub is_needed : (s x : Ty) → IsNeeded given (table_of (Some (item s)) x) (node.PatId (p 1)) (needed s)
is_needed s x = record { «at» = 0; among = ap (λ t. slice_get (pat_needs_by given.scope.facts t) 0) (top_item (type_args (u8 ∷ s ∷ []))) }

-- ---- refused

-- `x` has another type than the item says
pub other_part : (s x : Ty) → (x ≡ s → ⊥) → IsTyped given (table_of (Some (item s)) x) → ⊥
other_part s x differ h =
    (let c = (h.pats (p 2) (omega arith)).incoming s (record {
      parent = inner (node.PatId (p 1));
      at_part = 0;
      role = subpattern 0;
      stands = record { node_is = omega arith; part = refl };
      gives = inr (record { named = v 0; parts = p 2 ∷ []; is_pat = refl; variant = single; types = u8 ∷ []; hidden = s ∷ []; is = pat_is s x; field = ap Some (field_is s) });
    }) in
    elim c.2 [ inl same ↦ differ (only x c.0 c.1 ∙ same) | inr m ↦ absurd m ])

none_hidden : (x : Ty) (ts hs : List Ty) → IsItemOf (table_of None x) (p 1) (v 0) ts hs → hs ≡ []
none_hidden x ts [] h = refl
none_hidden x ts (t ∷ hs) h = absurd (cc)

-- no item
pub no_item : (x : Ty) → IsTyped given (table_of None x) → ⊥
no_item x h =
    (let c = (h.pats (p 1) (omega arith)).kind in
    let found = c.is.is_variant.found in
    let one : single ≡ c.variant = cc in
    let own : Some 1 ≡ Some (length c.types) = subst (λ (y : RawVariant). adt_params given.scope.facts y.adt ≡ Some (length c.types)) (sym one) c.is.is_variant.count in
    let all : Some 2 ≡ Some (length (c.types ++ c.hidden)) = c.is.is_ctor.count in
    let none : length (c.types ++ c.hidden) ≡ length c.types = ap (λ hs. length (c.types ++ hs)) (none_hidden x c.types c.hidden c.is.item) ∙ ap length (append-nil c.types) in
    let first : 1 ≡ length c.types = cc in
    let both : 2 ≡ length (c.types ++ c.hidden) = cc in
    absurd (omega (arith, none, first, both)))
