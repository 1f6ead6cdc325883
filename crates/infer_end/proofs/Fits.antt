-- What is typed in a scope names in the end what there is.
use Rattle.std.specs.List.{list_all}
use Rattle.std.proofs.Common.{◌≡◌, ap, ◌∙◌, Bool, true, ◌&&◌, ℕ, refl, Option, Some, None, option_map, length, List, [], ◌∷◌, map, sym, subst, inl, inr}
use Rattle.std.proofs.lemmas.List.{length-map}
use Rattle.infer_end.specs.Words.{CallableDefId, Ty, folded_twice, replaced_bool, replaced_char, replaced_int, replaced_uint, replaced_tuple, replaced_param, replaced_var, replaced_int_var, folded_itself, Assignment, with_holes, folded, each_itself, Hole, Term, hole, leaf, pair, apply, term, terms_of, term_error, term_int, term_folded, IsRead, has_params, callable_params, Scope, adt_params, alias_params, RawFacts, Signature, signature_of, type_args, ty_fits, arg_fits, ty_fits_bool, ty_fits_char, ty_fits_int, ty_fits_uint, ty_fits_tuple, ty_fits_adt, ty_fits_fndef, ty_fits_param, arg_fits_ty, ty_fits_var, ty_fits_intvar, ty_fits_error, ty_fits_associated, fallback, completion, resolution, made_of_resolved_term, bindings, resolved_type, TypeMismatch, AllTypes, AllSeen, is_fine_head, item_params, HasFineHeads, IsFine, Every, InferenceContext, closed_mismatch, closed_table, IsSound}
use Rattle.hir_types.specs.declared.ty.Ty.TheVariants as ty
use Rattle.hir_types.specs.declared.head.Hole.TheVariants as hole_of
use Rattle.hir_types.specs.declared.ty.IntTy.TheVariants as int
use Rattle.infer_end.specs.Words.infer_result.declared.diagnostics.InferenceDiagnostic.TheVariants as diagnostic
use Rattle.infer_end.proofs.Words.{signature_count, over_fine, adt_closed, fn_def_closed, associated_closed, entries_all_under, At-stems, said-cases, bound_heads}
use Rattle.infer_end.proofs.SizedTypes.{heads_are_read}
use Rattle.std.specs.Cmp.{second_so}
use Rattle.infer_end.specs.Words.infer_result.Columns.{Column, Entry, entry_kind, col, IsIn, AllIn, AllInDiagnostic}
use Rattle.infer_end.specs.Words.infer_result.Columns as column
use Rattle.infer_end.specs.Words.infer_result.declared.diagnostics.InferenceDiagnostic.{InferenceDiagnostic}

both_true : (a b : Bool) → a ≡ true → b ≡ true → (a && b) ≡ true
both_true a b h k = ap (λ (x : Bool). x && b) h ∙ k

-- an item takes as many types as its signature says
pub item_counted : (facts : RawFacts) (id : CallableDefId) (n : ℕ) → has_params (item_params facts id) n ≡ true → has_params (callable_params facts id) n ≡ true
item_counted facts id n h = by_signature (signature_of facts id) refl h
  where
    by_signature : (o : Option Signature) → signature_of facts id ≡ o → has_params (option_map (λ σ. σ.params) o) n ≡ true → has_params (callable_params facts id) n ≡ true
    by_signature None at k = absurd (cc)
    by_signature (Some σ) at k = ap (λ o. has_params o n) (signature_count facts id σ at) ∙ k

-- types for holes that fit make a type that fits
module _ (sc : Scope) (a : Assignment) where
  abbrev FitsUnder : Ty → Type 0
  FitsUnder t = ty_fits sc (folded a t) ≡ true

  fits_by : (t u : Ty) → folded a t ≡ u → ty_fits sc u ≡ true → FitsUnder t
  fits_by t u e h = ap (ty_fits sc) e ∙ h

  all_fit : (ts : List Ty) → Every FitsUnder ts → list_all (ty_fits sc) (map (folded a) ts) ≡ true
  all_fit [] h = refl
  all_fit (t ∷ ts) h = both_true (ty_fits sc (folded a t)) (list_all (ty_fits sc) (map (folded a) ts)) h.0 (all_fit ts h.1)

  args_fit : (ts : List Ty) → list_all (ty_fits sc) ts ≡ true → list_all (arg_fits sc) (type_args ts) ≡ true
  args_fit ts h = args_as_types ts ∙ h
    where
      args_as_types : (us : List Ty) → list_all (arg_fits sc) (type_args us) ≡ list_all (ty_fits sc) us
      args_as_types [] = refl
      args_as_types (u ∷ us) = λ i. arg_fits_ty sc u i && args_as_types us i

  arg_count : (ts : List Ty) → length (type_args (map (folded a) ts)) ≡ length ts
  arg_count ts = length-map (map (folded a) ts) _ ∙ length-map ts (folded a)

  pub heads_fit : ((n : ℕ) → ty_fits sc (a.var n) ≡ true) → ((n : ℕ) → ty_fits sc (a.int_var n) ≡ true) → (t : Ty) → HasFineHeads sc t → FitsUnder t
  heads_fit var int_var = over_fine sc FitsUnder (record {
    bool = fits_by ty.Bool ty.Bool (replaced_bool (with_holes a)) (ty_fits_bool sc);
    char = fits_by ty.Char ty.Char (replaced_char (with_holes a)) (ty_fits_char sc);
    int = λ i. fits_by (ty.Int i) (ty.Int i) (replaced_int (with_holes a) i) (ty_fits_int sc i);
    uint = λ i. fits_by (ty.Uint i) (ty.Uint i) (replaced_uint (with_holes a) i) (ty_fits_uint sc i);
    var = λ n. fits_by (ty.Var n) (a.var n) (replaced_var (with_holes a) n) (var n);
    int_var = λ n. fits_by (ty.IntVar n) (a.int_var n) (replaced_int_var (with_holes a) n) (int_var n);
    tuple = λ ts h. fits_by (ty.Tuple ts) (ty.Tuple (map (folded a) ts)) (replaced_tuple (with_holes a) ts) (ty_fits_tuple sc (map (folded a) ts) ∙ all_fit ts h);
    adt = λ id ts k h.
        let us = map (folded a) ts in
        fits_by (ty.Adt id (type_args ts)) (ty.Adt id (type_args us)) (adt_closed a id ts) (ty_fits_adt sc id (type_args us)
        ∙ both_true (has_params (adt_params sc.facts id) (length (type_args us))) (list_all (arg_fits sc) (type_args us)) (ap (has_params (adt_params sc.facts id)) (arg_count ts) ∙ k) (args_fit us (all_fit ts h)));
    fn_def = λ id ts k h.
        let us = map (folded a) ts in
        fits_by (ty.FnDef id (type_args ts)) (ty.FnDef id (type_args us)) (fn_def_closed a id ts) (ty_fits_fndef sc id (type_args us)
        ∙ both_true (has_params (callable_params sc.facts id) (length (type_args us))) (list_all (arg_fits sc) (type_args us)) (ap (has_params (callable_params sc.facts id)) (arg_count ts) ∙ item_counted sc.facts id (length ts) k) (args_fit us (all_fit ts h)));
    associated = λ id ts k h.
        let us = map (folded a) ts in
        let count = second_so sc.associated (has_params (alias_params sc.facts id) (length ts)) k in
        fits_by (ty.AssociatedType id (type_args ts)) (ty.AssociatedType id (type_args us)) (associated_closed a id ts) (ty_fits_associated sc id (type_args us)
        ∙ both_true (has_params (alias_params sc.facts id) (length (type_args us))) (list_all (arg_fits sc) (type_args us)) (ap (has_params (alias_params sc.facts id)) (arg_count ts) ∙ count) (args_fit us (all_fit ts h)));
    param = λ n k. fits_by (ty.Param n) (ty.Param n) (replaced_param (with_holes a) n) (ty_fits_param sc n ∙ k);
  })

-- a fine type fits as it is, its holes too
pub fine_fits : (sc : Scope) (t : Ty) → HasFineHeads sc t → ty_fits sc t ≡ true
fine_fits sc t h = ap (ty_fits sc) (sym (folded_itself t)) ∙ heads_fit sc each_itself (λ n. ty_fits_var sc n) (λ n. ty_fits_intvar sc n) t h

-- ---- nothing to be read

read_under : (s : Hole → Term) → ((k : Hole) → IsRead (s k)) → (t : Term) → IsRead t → IsRead (apply s t)
read_under s f (hole k) h = f k
read_under s f (leaf g) h = h
read_under s f (pair a b) h = (read_under s f a h.0, read_under s f b h.1)

fallback_read : (k : Hole) → IsRead (terms_of fallback k)
fallback_read (hole_of.Ty n) = subst IsRead (sym term_error) (tt, tt)
fallback_read (hole_of.Int n) = subst IsRead (sym (term_int int.I32)) (tt, tt)
fallback_read (hole_of.Const n) = (tt, tt)

-- ---- of a table

-- what holds of fine types, and of them under an assignment, holds of each type of the table that it closes
module _ (sc : Scope) (c : InferenceContext) (s : IsSound sc c) (a : Assignment) (P : Ty → Type 0) (as_is : (t : Ty) → HasFineHeads sc t → P t) (under : (t : Ty) → IsFine sc c.goals.table t → P (folded a t)) where
  abbrev Fine : Ty → Type 0
  Fine = IsFine sc c.goals.table

  both_under : (m x : TypeMismatch) → closed_mismatch a m ≡ x → Fine m.expected × Fine m.actual → P x.expected × P x.actual
  both_under m x e h = subst (λ (y : TypeMismatch). P y.expected × P y.actual) e (under m.expected h.0, under m.actual h.1)

  about_as_is : (d : InferenceDiagnostic) → AllInDiagnostic Fine d → AllInDiagnostic P d
  about_as_is (diagnostic.MismatchedArgCount n expected actual) h = h
  about_as_is (diagnostic.MismatchedTupleStructPatArgCount n expected actual) h = h
  about_as_is (diagnostic.ExpectedFunction n t) h = as_is t h.heads

  each_in : (k : Column) (n : ℕ) (x : Entry k) → IsIn (closed_table a c.asked c.result) k n x → AllIn P (entry_kind k) x
  each_in column.expr_mismatches n x i =
      (let q = At-stems a c.asked c.result.expr_mismatches n x i in
      both_under q.0 x q.2 (elim q.1 [ inl z ↦ s.asked n q.0 z | inr z ↦ s.fine.each column.expr_mismatches n q.0 z ]))
  each_in column.expr_diagnostics n x i = elim (said-cases a c.result.seen c.result.expr_diagnostics n x i) [
    | inl q ↦ about_as_is x (s.fine.each column.expr_diagnostics n x q)
    | inr q ↦ subst (AllInDiagnostic P) (sym q.3.is) (under q.1.ty (s.seen.types q.0 q.1 q.2))
  ]
  each_in k n x i = entries_all_under Fine P a under (entry_kind k) (col c.result k) (s.fine.each k) n x i

  pub each_type : AllTypes P (closed_table a c.asked c.result)
  each_type = record { each = each_in }

module _ (sc : Scope) (c : InferenceContext) (s : IsSound sc c) where
  fallen_back : (t : Ty) → HasFineHeads sc t → ty_fits sc (folded fallback t) ≡ true
  fallen_back t h = heads_fit sc fallback (λ n. ty_fits_error sc) (λ n. ty_fits_int sc int.I32) t h

  completed_fits : (t : Ty) → IsFine sc c.goals.table t → ty_fits sc (folded (completion c.goals.table) t) ≡ true
  completed_fits t h =
      let known = resolution (bindings c.goals.table) in
      heads_fit sc (completion c.goals.table) (λ n. fallen_back (known.var n) (bound_heads sc c.goals.table s.bound (hole_of.Ty n))) (λ n. fallen_back (known.int_var n) (bound_heads sc c.goals.table s.bound (hole_of.Int n))) t h.heads

  -- each type of the completed table fits
  pub completed_table_fits : AllTypes (λ t. ty_fits sc t ≡ true) (closed_table (completion c.goals.table) c.asked c.result)
  completed_table_fits = each_type sc c s (completion c.goals.table) (λ t. ty_fits sc t ≡ true) (fine_fits sc) completed_fits

  completed_read : (t : Ty) → IsFine sc c.goals.table t → IsRead (term (folded (completion c.goals.table) t))
  completed_read t h =
      let known = resolved_type c.goals.table t in
      let heads : HasFineHeads sc known = made_of_resolved_term (is_fine_head sc) c.goals.table t s.bound h.heads in
      subst (λ u. IsRead (term u)) (folded_twice fallback (resolution (bindings c.goals.table)) t)
      (subst IsRead (sym (term_folded fallback known)) (read_under (terms_of fallback) fallback_read (term known) (heads_are_read sc known heads)))

  -- and in none of them an associated type is left to be read
  pub completed_table_read : AllTypes (λ t. IsRead (term t)) (closed_table (completion c.goals.table) c.asked c.result)
  completed_table_read = each_type sc c s (completion c.goals.table) (λ t. IsRead (term t)) (heads_are_read sc) completed_read

  -- so does each that a failed look-up saw
  pub seen_fits : AllSeen (λ t. ty_fits sc t ≡ true) (closed_table (completion c.goals.table) c.asked c.result)
  seen_fits = record {
    types = λ i x at. fine_fits sc x.ty (s.seen.types i x at).heads;
    others = λ i x t at is. fine_fits sc t (s.seen.others i x t at is).heads;
  }
