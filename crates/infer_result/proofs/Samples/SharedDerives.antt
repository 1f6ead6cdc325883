-- Each closing by a plain type of the types with one shared hole, of `GeneralShared`, is a derivation.
use Rattle.std.proofs.Common.{ℕ, ◌+◌, ◌<◌, ◌≡◌, inl, [], ◌∷◌, refl, sym, ap, subst, ◌∙◌, arith, Some, None, length}
use Rattle.std.specs.Prelude.{IsTrue}
use Rattle.hir_types.specs.declared.ids.CallableDefId.TheVariants as callable
use Rattle.hir_types.specs.declared.ids.ExprOrPatId.TheVariants as node
use Rattle.infer_result.specs.Words.{Ty, RawAdt, RawVariant, RawFn, Schedule, erased, IsClosed, param_at, Assignment, unit, ty_fits, ty_fits_tuple, parameter as a_parameter, let_pattern, the_body, inner, IsSchedule, start, end, after, Fits, parts, IsPlainIn, plain_bool, fn_signature, at_args, filled_within, written_type, fn_aliases, variant_aliases}
use Rattle.hir_types.specs.declared.ty.Ty.TheVariants as ty
use Rattle.infer_result.specs.Own.{Column, Entry, entry_kind, index, col, IsIn, IsLong, AreComplaints, InferenceResult, IsBinder, NamesVariant, IsVariantPat, AllTypes, IsDerivation, IsGeneralType, general_bool, closed_by, IsGeneralOf, Given, ObeysExpression, ObeysPattern, HasTy, PatTy, BindingTy, given, IsKnown, has_unknown_bool, has_unknown_tuple}
use Rattle.infer_result.specs.Columns as column
use Rattle.infer_result.proofs.NoNeeds.{no_gaps, needs_hold}
use Rattle.infer_result.proofs.Samples.Small.{e, p, b, w, each_below, each_node, apart_by, comes, only, each_entry, TypesHave, all_types_by, each_placed, closed_bool, closed_unit, none_placed, no_pat_items}
use Rattle.infer_result.proofs.Samples.Calling.{function, item}
use Rattle.infer_result.proofs.Samples.Holes.{each_in, closed_at, known_at, fits_at}
use Rattle.infer_result.proofs.Samples.GeneralKnown.{general_is_known}
use Rattle.infer_result.proofs.Samples.PlainKinds.{plain_is_general, plain_is_closed, general_fits}
use Rattle.infer_result.proofs.Samples.GeneralShared.{types, mk, body, facts, f, scope, general, table_at, general_for, has_types, unknown_is_fallback}

abbrev Here : Given
Here = given facts f body

written_param : written_type types (w 0) ≡ ty.Param 0
unfolding filled_within
written_param = refl

written_bool : written_type types (w 1) ≡ ty.Bool
unfolding filled_within
written_bool = refl

written_unit : written_type types (w 2) ≡ unit
unfolding filled_within
written_unit = refl

-- the output of `mk` at this type
at_type : (s : Ty) → at_args (s ∷ []) (written_type types (w 0)) ≡ s
at_type s = ap (at_args (s ∷ [])) written_param ∙ param_at (s ∷ []) 0 s refl

abbrev schedule : Schedule
schedule = record {
  starts = 4 ∷ 7 ∷ 6 ∷ 5 ∷ 10 ∷ 9 ∷ 8 ∷ 3 ∷ 2 ∷ 1 ∷ 11 ∷ 0 ∷ [];
  ends = 5 ∷ 8 ∷ 8 ∷ 8 ∷ 11 ∷ 11 ∷ 11 ∷ 11 ∷ 12 ∷ 2 ∷ 12 ∷ 12 ∷ [];
  depths = 3 ∷ 5 ∷ 4 ∷ 3 ∷ 5 ∷ 4 ∷ 3 ∷ 2 ∷ 1 ∷ 1 ∷ 2 ∷ 0 ∷ [];
}

is_schedule : IsSchedule body schedule
is_schedule = record {
  starts_size = refl;
  ends_size = refl;
  first = refl;
  fits = each_node body (λ n. Fits body schedule (start body schedule n + 1) (parts body n)) (
    (omega arith, refl, (omega arith, refl, tt)),
    (((((((((tt, tt), tt), (omega arith, refl, tt)), (omega arith, refl, tt)), tt), (omega arith, refl, tt)), (omega arith, refl, tt)), (omega arith, refl, (omega arith, refl, (omega arith, refl, tt)))), (omega arith, refl, (omega arith, refl, tt))),
    ((tt, tt), tt),
  );
  ends = each_node body (λ n. after body schedule (start body schedule n + 1) (parts body n) ≡ end body schedule n)
      (refl, (((((((((tt, refl), refl), refl), refl), refl), refl), refl), refl), refl), ((tt, refl), refl));
  order = each_node body (λ n. start body schedule n < end body schedule n)
      (omega arith, (((((((((tt, omega arith), omega arith), omega arith), omega arith), omega arith), omega arith), omega arith), omega arith), omega arith), ((tt, omega arith), omega arith));
  reached = each_node body (λ n. start body schedule n < end body schedule the_body)
      (omega arith, (((((((((tt, omega arith), omega arith), omega arith), omega arith), omega arith), omega arith), omega arith), omega arith), omega arith), ((tt, omega arith), omega arith));
  apart = apart_by body schedule (
      the_body ∷ inner (node.PatId (p 0)) ∷ inner (node.ExprId (e 8)) ∷ inner (node.ExprId (e 7)) ∷ inner (node.ExprId (e 0))
      ∷ inner (node.ExprId (e 3)) ∷ inner (node.ExprId (e 2)) ∷ inner (node.ExprId (e 1))
      ∷ inner (node.ExprId (e 6)) ∷ inner (node.ExprId (e 5)) ∷ inner (node.ExprId (e 4)) ∷ inner (node.PatId (p 1)) ∷ []
      ) (refl, (((((((((tt, refl), refl), refl), refl), refl), refl), refl), refl), refl), ((tt, refl), refl));
}

module _ (s : Ty) where
  abbrev table : InferenceResult
  table = table_at s s

  types_have : (P : Ty → Type 0) → P ty.Bool → P (item (s ∷ [])) → P s → P unit → (c : Column) → TypesHave P (entry_kind c) (col table c)
  types_have P truth callee own empty column.type_of_expr = (truth, (callee, (own, (own, (callee, (own, (own, (own, (empty, tt)))))))))
  types_have P truth callee own empty column.type_of_pat = (truth, (own, tt))
  types_have P truth callee own empty column.type_of_binding = (truth, (own, tt))
  types_have P truth callee own empty _ = tt

  all_types : (P : Ty → Type 0) → P ty.Bool → P (item (s ∷ [])) → P s → P unit → AllTypes P table
  all_types P truth callee own empty = all_types_by P table (types_have P truth callee own empty)

  first_call : ObeysExpression Here table (e 2)
  first_call = inl (record { signature = fn_signature types mk; types = s ∷ []; is_callee = record { item = callable.FunctionId function; has = refl; signature = refl }; arguments = inl tt; has = subst (HasTy table (e 2)) (sym (at_type s)) refl })

  second_call : ObeysExpression Here table (e 5)
  second_call = inl (record { signature = fn_signature types mk; types = s ∷ []; is_callee = record { item = callable.FunctionId function; has = refl; signature = refl }; arguments = inl tt; has = subst (HasTy table (e 5)) (sym (at_type s)) refl })

  input_obeys : ObeysPattern Here table (p 0)
  input_obeys = record {
    incoming = λ u into.
        let both : Some (Some (written_type types (w 1))) ≡ Some (Some u) = comes Here schedule is_schedule table (p 0) the_body 0 (a_parameter 0) u (record { node_is = tt; part = refl }) into in
        let is : written_type types (w 1) ≡ u = cc in
        (ty.Bool, refl, inl (sym written_bool ∙ is));
    kind = (ty.Bool, refl, refl, refl);
  }

  local_obeys : ObeysPattern Here table (p 1)
  local_obeys = record {
    incoming = λ u into. (s, refl, inl (only s u (comes Here schedule is_schedule table (p 1) (inner (node.ExprId (e 8))) 1 (let_pattern None (Some (e 7))) u (record { node_is = omega arith; part = refl }) into)));
    kind = (s, refl, refl, refl);
  }

  no_complaint : (c : Column) → AreComplaints (entry_kind c) → (n : ℕ) (x : Entry c) → IsIn table c n x → ⊥
  no_complaint column.expr_mismatches is = each_entry (λ x. ⊥) table.expr_mismatches tt
  no_complaint column.expr_diagnostics is = each_entry (λ x. ⊥) table.expr_diagnostics tt
  no_complaint column.pat_mismatches is = each_entry (λ x. ⊥) table.pat_mismatches tt
  no_complaint column.pat_diagnostics is = each_entry (λ x. ⊥) table.pat_diagnostics tt
  no_complaint _ is = absurd is

  is_long : (c : Column) → IsLong body (index c) (length (col table c))
  is_long column.type_of_placeholder = tt
  is_long _ = refl

  -- at each plain type the table is one
  pub plain_derives : IsPlainIn scope s → IsDerivation facts f table
  plain_derives is_plain = let of_hole : IsGeneralType scope s = plain_is_general scope s is_plain in record {
    body = body;
    is_body = refl;
    shape = record {
      of_body = record { long = is_long };
      closed = let own : IsClosed s = plain_is_closed scope s is_plain in all_types IsClosed closed_bool (closed_at s own) own closed_unit;
      modes = λ x. each_placed (λ k m. IsBinder body (p k)) table.binding_modes ((b 0, None, refl), ((b 1, None, refl), tt)) x.0;
      placeholders = none_placed Here table refl;
      variants = record {
        exprs = λ x. each_entry (NamesVariant body x) table.expr_variants tt x.0;
        pats = λ x. each_entry (IsVariantPat body x) table.pat_variants tt x.0;
      };
      items = no_pat_items Here table tt;
    };
    total = record {
      exprs = λ x h. each_below (λ k. (u : Ty) × HasTy table (e k) u) 9 x.0
          (((((((((tt, (ty.Bool, refl)), (item (s ∷ []), refl)), (s, refl)), (s, refl)), (item (s ∷ []), refl)), (s, refl)), (s, refl)), (s, refl)), (unit, refl)) h;
      pats = λ x h. each_below (λ k. (u : Ty) × PatTy table (p k) u) 2 x.0 ((tt, (ty.Bool, refl)), (s, refl)) h;
      bindings = λ v h. each_below (λ k. (u : Ty) × BindingTy table (b k) u) 2 v.0 ((tt, (ty.Bool, refl)), (s, refl)) h;
    };
    known = let own : IsKnown s = general_is_known scope s of_hole in all_types IsKnown has_unknown_bool (known_at s own) own (has_unknown_tuple []);
    fit = all_types (λ u. IsTrue (ty_fits scope u)) (general_fits scope ty.Bool general_bool) (fits_at scope s refl (general_fits scope s of_hole)) (general_fits scope s of_hole) (ty_fits_tuple scope []);
    clean = record {
      complaints = no_complaint;
      gaps = no_gaps table refl refl;
    };
    exprs = λ x h. each_below (λ k. ObeysExpression Here table (e k)) 9 x.0 (
      (
        (((((((tt, (ty.Bool, refl, refl)), (s ∷ [], refl, refl)), first_call), record { statements = tt; type = s; has = refl; ends = (s, refl, refl) }), (s ∷ [], refl, refl)), second_call), record { statements = tt; type = s; has = refl; ends = (s, refl, refl) }),
        record { condition = (ty.Bool, refl, refl); type = s; has = refl; branch = (s, refl, refl); otherwise = (s, refl, refl) },
      ),
      record { statements = ((s, refl, (s, refl, inl refl)), tt); type = unit; has = refl; ends = refl },
    ) h;
    pats = λ x h. each_below (λ k. ObeysPattern Here table (p k)) 2 x.0 ((tt, input_obeys), local_obeys) h;
    root = (unit, refl, ap erased (sym written_unit));
    goals = needs_hold facts (each_in (λ (x : RawFn). x.preds ≡ []) facts.fns (refl, (refl, tt))) (each_in (λ (x : RawAdt). x.preds ≡ []) facts.adts tt) (each_in (λ (x : RawFn). fn_aliases facts.types x ≡ []) facts.fns (refl, (refl, tt))) (each_in (λ (x : RawVariant). variant_aliases facts.types x ≡ []) facts.variants tt) f body table;
  }

pub bool_derives : IsDerivation facts f (table_at ty.Bool ty.Bool)
bool_derives = plain_derives ty.Bool plain_bool

-- ---- so these types are those of the table at `{unknown}`

closing_is : (a : Assignment) (u : Ty) → table_at (a.var 0) (a.var 0) ≡ closed_by a general (table_at u u)
closing_is a u = let h = has_types a (a.var 0) refl in λ j. record (table_at u u) { type_of_expr = h.exprs j; type_of_pat = h.pats j; type_of_binding = h.bindings j }

pub is_general : IsGeneralOf facts f (table_at ty.Error ty.Error) general
is_general = record {
  body = body;
  is_body = refl;
  types = general_for;
  falls_back = unknown_is_fallback;
  closings = λ structs clean a plain_types. subst (IsDerivation facts f) (closing_is a ty.Error) (plain_derives (a.var 0) (plain_types.var 0));
}
