-- Types and tables under an assignment: what is made of types, and what is recorded.
use Rattle.std.proofs.Common.{ℕ, zero, suc, ◌≡◌, inl, inr, refl, sym, ap, subst, ◌∙◌, List, [], ◌∷◌, map, length, Option, Some, None, option_map, option_and_then, slice_get, unwrap_or}
use Rattle.std.proofs.lemmas.List.{length-map}
use Rattle.std.proofs.lemmas.Option.{slice_get-map}
use Rattle.infer_result.specs.Words.{AdtId, CallableDefId, ExprId, PatId, TypeRefId, VariantId, IntegerTy, Ty, Same, term_tells, erased_tells, replaced_int, replaced_uint, replaced_tuple, replaced_adt, replaced_fn_def, replaced_error, folded_twice, types_args_folded, Assignment, with_holes, folded, composed, term_folded, apply, terms_of, integer_type, unit, RawCtor, RawVariant, filled_agree, filled_folded, type_args, ctor_type_by, ctor_type}
use Rattle.hir_types.specs.declared.ids.CallableDefId.TheVariants as callable
use Rattle.hir_types.specs.declared.ty.IntegerTy.TheVariants.{Int, Uint}
use Rattle.hir_types.specs.declared.ty.Ty.TheVariants as ty
use Rattle.infer_result.specs.Words.hir_raw.declared.raw.RawCtor.TheVariants as ctor
use Rattle.infer_result.specs.Own.{InferenceResult, TypeMismatch, InferenceDiagnostic, At, HasTy, PatTy, PlaceholderTy, HasMismatch, AnyMismatch, HasPatMismatch, WasSeen, Given, let_types, hole_type, declared, AreRecorded, IsVariantAt, IsCtorAt, Column, EntryKind, EntryOf, entry_kind, col, with_columns, each_under, mismatch_under, diagnostic_under, entries_under, column_under, table_under, IsStable}
use Rattle.infer_result.specs.declared.diagnostics.InferenceDiagnostic.TheVariants as diagnostic
use Rattle.infer_result.specs.Columns as column

-- ---- lists under a function

module _ {A : Type 0} (f : A → A) where
  pub At-under : (xs : List (Option A)) (n : ℕ) (x : A) → At xs n x → At (each_under f xs) n (f x)
  At-under xs n x h = slice_get-map (option_map f) xs n ∙ ap (option_map (option_map f)) h

  -- what is recorded comes from what was
  pub At-before : (xs : List (Option A)) (n : ℕ) (y : A) → At (each_under f xs) n y → (x : A) × At xs n x × (f x ≡ y)
  At-before [] n y h = absurd (cc)
  At-before (None ∷ xs) zero y h = absurd (cc)
  At-before (Some x ∷ xs) zero y h = (x, refl, cc)
  At-before (o ∷ xs) (suc n) y h = At-before xs n y h

  pub entry_before : (xs : List A) (n : ℕ) (y : A) → slice_get (map f xs) n ≡ Some y → (x : A) × (slice_get xs n ≡ Some x) × (f x ≡ y)
  entry_before [] n y h = absurd (cc)
  entry_before (x ∷ xs) zero y h = (x, refl, cc)
  entry_before (x ∷ xs) (suc n) y h = entry_before xs n y h

-- two functions in turn are one
entry_twice : {A : Type 0} (f g h : A → A) → ((x : A) → f (g x) ≡ h x) → (o : Option A) → option_map f (option_map g o) ≡ option_map h o
entry_twice f g h is None = refl
entry_twice f g h is (Some x) = ap (λ y. Some y) (is x)

each_twice : {A : Type 0} (f g h : A → A) → ((x : A) → f (g x) ≡ h x) → (xs : List (Option A)) → each_under f (each_under g xs) ≡ each_under h xs
each_twice f g h is [] = refl
each_twice f g h is (o ∷ xs) = λ i. entry_twice f g h is o i ∷ each_twice f g h is xs i

-- ---- types

module _ (a : Assignment) where
  pub tuple_under : (ts : List Ty) → folded a (ty.Tuple ts) ≡ ty.Tuple (map (folded a) ts)
  tuple_under ts = replaced_tuple (with_holes a) ts

  pub adt_under : (id : AdtId) (ts : List Ty) → folded a (ty.Adt id (type_args ts)) ≡ ty.Adt id (type_args (map (folded a) ts))
  adt_under id ts = replaced_adt (with_holes a) id (type_args ts) ∙ ap (ty.Adt id) (types_args_folded a ts)

  pub item_under : (id : CallableDefId) (ts : List Ty) → folded a (ty.FnDef id (type_args ts)) ≡ ty.FnDef id (type_args (map (folded a) ts))
  item_under id ts = replaced_fn_def (with_holes a) id (type_args ts) ∙ ap (ty.FnDef id) (types_args_folded a ts)

  pub unit_under : folded a unit ≡ unit
  unit_under = replaced_tuple (with_holes a) []

  pub integer_under : (i : IntegerTy) → folded a (integer_type i) ≡ integer_type i
  integer_under (Int i) = replaced_int (with_holes a) i
  integer_under (Uint i) = replaced_uint (with_holes a) i

  by_ctor : (c : RawCtor) (id : AdtId) (v : VariantId) (ts : List Ty) → folded a (ctor_type_by c id v ts) ≡ ctor_type_by c id v (map (folded a) ts)
  by_ctor ctor.Unit id v ts = adt_under id ts
  by_ctor ctor.Tuple id v ts = item_under (callable.VariantId v) ts
  by_ctor ctor.Record id v ts = replaced_error (with_holes a)

  pub ctor_under : (x : RawVariant) (v : VariantId) (ts : List Ty) → folded a (ctor_type x v ts) ≡ ctor_type x v (map (folded a) ts)
  ctor_under x v ts = by_ctor x.ctor x.adt v ts

  -- types that are the same but for labels stay so, since terms tell them
  pub same_under : (s t : Ty) → Same s t → Same (folded a s) (folded a t)
  same_under s t h =
      term_tells (folded a s) (folded a t) (term_folded a s ∙ (ap (apply (terms_of a)) (erased_tells s t h) ∙ sym (term_folded a t)))

  pub count_under : (o : Option ℕ) (ts : List Ty) → o ≡ Some (length ts) → o ≡ Some (length (map (folded a) ts))
  count_under o ts h = h ∙ ap (λ n. Some n) (sym (length-map ts (folded a)))

  pub variant_under : (g : Given) (v : VariantId) (x : RawVariant) (ts : List Ty) → IsVariantAt g v x ts → IsVariantAt g v x (map (folded a) ts)
  variant_under g v x ts h = record { found = h.found; count = count_under _ ts h.count }

  pub ctor_at_under : (g : Given) (v : VariantId) (x : RawVariant) (ts : List Ty) → IsCtorAt g v x ts → IsCtorAt g v x (map (folded a) ts)
  ctor_at_under g v x ts h = record { found = h.found; count = count_under _ ts h.count }

-- ---- tables

-- under one assignment and then another, a table is under the two composed
mismatch_twice : (r s : Assignment) (m : TypeMismatch) → mismatch_under r (mismatch_under s m) ≡ mismatch_under (composed r s) m
mismatch_twice r s m = λ i. record { expected = folded_twice r s m.expected i; actual = folded_twice r s m.actual i }

diagnostic_twice : (r s : Assignment) (d : InferenceDiagnostic) → diagnostic_under r (diagnostic_under s d) ≡ diagnostic_under (composed r s) d
diagnostic_twice r s (diagnostic.MismatchedArgCount n expected found) = refl
diagnostic_twice r s (diagnostic.MismatchedTupleStructPatArgCount n expected found) = refl
diagnostic_twice r s (diagnostic.ExpectedFunction n found) = ap (diagnostic.ExpectedFunction n) (folded_twice r s found)

entries_twice : (r s : Assignment) (k : EntryKind) (xs : List (Option (EntryOf k))) → entries_under r k (entries_under s k xs) ≡ entries_under (composed r s) k xs
entries_twice r s column.a_type xs = each_twice (folded r) (folded s) (folded (composed r s)) (folded_twice r s) xs
entries_twice r s column.a_mismatch xs = each_twice (mismatch_under r) (mismatch_under s) (mismatch_under (composed r s)) (mismatch_twice r s) xs
entries_twice r s column.a_diagnostic xs = each_twice (diagnostic_under r) (diagnostic_under s) (diagnostic_under (composed r s)) (diagnostic_twice r s) xs
entries_twice r s _ xs = refl

column_twice : (r s : Assignment) (t : InferenceResult) (c : Column) → column_under r (table_under s t) c ≡ column_under (composed r s) t c
column_twice r s t column.type_of_expr = entries_twice r s column.a_type t.type_of_expr
column_twice r s t c = entries_twice r s (entry_kind c) (col t c)

table_twice : (r s : Assignment) (t : InferenceResult) → table_under r (table_under s t) ≡ table_under (composed r s) t
table_twice r s t = λ i. with_columns t (λ c. column_twice r s t c i)

-- so it is enough that what holds of a table holds of it under each assignment
pub stable_where : (Holds : InferenceResult → Type 0) → ((a : Assignment) (t : InferenceResult) → Holds t → Holds (table_under a t)) → IsStable Holds
stable_where Holds each t s r h = subst Holds (table_twice r s t) (each r (table_under s t) h)

-- ---- what is recorded in a table

module _ (a : Assignment) (t : InferenceResult) where
  abbrev after : InferenceResult
  after = table_under a t

  pub type_under : (e : ExprId) (s u : Ty) → HasTy t e s → folded a s ≡ u → HasTy (table_under a t) e u
  type_under e s u h is = subst (λ v. At after.type_of_expr e.0 v) is (At-under (folded a) t.type_of_expr e.0 s h)

  pub pat_type_under : (p : PatId) (s u : Ty) → PatTy t p s → folded a s ≡ u → PatTy (table_under a t) p u
  pat_type_under p s u h is = subst (λ v. At after.type_of_pat p.0 v) is (At-under (folded a) t.type_of_pat p.0 s h)

  pub has_mismatch_under : (e : ExprId) → HasMismatch t e → HasMismatch (table_under a t) e
  has_mismatch_under e (m, h) = (mismatch_under a m, At-under (mismatch_under a) t.expr_mismatches e.0 m h)

  pub any_mismatch_under : (es : List ExprId) → AnyMismatch t es → AnyMismatch (table_under a t) es
  any_mismatch_under [] h = h
  any_mismatch_under (e ∷ es) (inl h) = inl (has_mismatch_under e h)
  any_mismatch_under (e ∷ es) (inr h) = inr (any_mismatch_under es h)

  pub has_pat_mismatch_under : (p : PatId) → HasPatMismatch t p → HasPatMismatch (table_under a t) p
  has_pat_mismatch_under p (m, h) = (mismatch_under a m, At-under (mismatch_under a) t.pat_mismatches p.0 m h)

  pub seen_under : (e : ExprId) → WasSeen t e → WasSeen (table_under a t) e
  seen_under e h = record { position = h.position; entry = h.entry; found = h.found; is_node = h.is_node }

  -- ---- the types of `let`s

  hole_at : (x : InferenceResult) (k : ℕ) (s : Ty) → PlaceholderTy x k s → hole_type x k ≡ s
  hole_at x k s h = ap (λ o. unwrap_or (option_and_then (λ y. y) o) ty.Error) h

  module _ (g : Given) (w : TypeRefId) where
    pub recorded_under : AreRecorded g t w → AreRecorded g (table_under a t) w
    recorded_under h k stands = let q = h k stands in (folded a q.0, At-under (folded a) t.type_of_placeholder k q.0 q.1)

    pub recorded_before : AreRecorded g (table_under a t) w → AreRecorded g t w
    recorded_before h k stands = let q = h k stands in let x = At-before (folded a) t.type_of_placeholder k q.0 q.1 in (x.0, x.1)

    pub declared_under : AreRecorded g t w → folded a (declared g t w) ≡ declared g (table_under a t) w
    declared_under h =
        filled_folded a (hole_type t) (let_types g) w
        ∙ filled_agree (λ k. folded a (hole_type t k)) (hole_type after) (let_types g) w (λ k stands.
        (let q = h k stands in
        ap (folded a) (hole_at t k q.0 q.1) ∙ sym (hole_at after k (folded a q.0) (At-under (folded a) t.type_of_placeholder k q.0 q.1))))
