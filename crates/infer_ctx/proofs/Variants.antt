-- The constructors that a body names, and what is recorded of them.
use Rattle.std.proofs.Common.{ℕ, zero, suc, ◌≡◌, refl, List, [], ◌∷◌, map, Some, slice_get, ap, inl, inr, ◌∙◌, sym, subst, option_map}
use Rattle.std.proofs.lemmas.Option.{slice_get-map}
use Rattle.infer_ctx.specs.Words.{VariantId, PatId, ExprId, RawPath, RawExpr, RawPat, RawBody, IsVariantPat, NamesVariant, OnlyNamedVariants, InferenceResult, ExprVariant, PatVariant}
use Rattle.infer_ctx.specs.Words.hir_raw.declared.raw.RawPath.TheVariants as path
use Rattle.infer_ctx.specs.Words.hir_raw.declared.raw.RawExpr.TheVariants as expr
use Rattle.infer_ctx.specs.Words.hir_raw.declared.raw.RawPat.TheVariants as pat
use Rattle.infer_ctx.specs.Own.{path_variant, expr_variant, pat_variant, RecordsVariants}

-- what is made of the entry at n
entry_of : {A B : Type 0} (f : A → B) (xs : List A) (n : ℕ) (y : B) → slice_get (map f xs) n ≡ Some y → (x : A) × (slice_get xs n ≡ Some x) × (f x ≡ y)
entry_of f [] n y h = absurd (cc)
entry_of f (x ∷ xs) zero y h = (x, refl, cc)
entry_of f (x ∷ xs) (suc n) y h = entry_of f xs n y h

names_ctor : (p : RawPath) (v : VariantId) → path_variant p ≡ Some v → p ≡ path.Ctor v
names_ctor (path.Ctor w) v h = (let k : w ≡ v = cc in ap path.Ctor k)
names_ctor _ v h = absurd (cc)

is_ctor_path : (x : RawExpr) (v : VariantId) → expr_variant x ≡ Some v → x ≡ expr.Path (path.Ctor v)
is_ctor_path (expr.Path p) v h = ap expr.Path (names_ctor p v h)
is_ctor_path _ v h = absurd (cc)

is_ctor_pat : (b : RawBody) (p : PatId) (x : RawPat) (v : VariantId) → slice_get b.pats p.0 ≡ Some x → pat_variant x ≡ Some v → IsVariantPat b p v
is_ctor_pat b p (pat.TupleStruct w ps) v is h = (let k : w ≡ v = cc in inr (ps, is ∙ ap (λ u. Some (pat.TupleStruct u ps)) k))
is_ctor_pat b p (pat.Path q) v is h = inl (is ∙ ap (λ u. Some (pat.Path u)) (names_ctor q v h))
is_ctor_pat b p _ v is h = absurd (cc)

module _ (b : RawBody) (t : InferenceResult) (h : RecordsVariants b t) where
  -- only constructors are recorded
  pub only_named : OnlyNamedVariants b t
  only_named = record {
    exprs = λ e v k.
        (let q = entry_of expr_variant b.exprs e.0 (Some v) (subst (λ xs. slice_get xs e.0 ≡ Some (Some v)) h.exprs k) in
        q.1 ∙ ap (λ x. Some x) (is_ctor_path q.0 v q.2));
    pats = λ p v k.
        (let q = entry_of pat_variant b.pats p.0 (Some v) (subst (λ xs. slice_get xs p.0 ≡ Some (Some v)) h.pats k) in
        is_ctor_pat b p q.0 v q.1 q.2);
  }

  -- and each of them
  pub expr_named : (e : ExprId) (v : VariantId) → NamesVariant b e v → ExprVariant t e v
  expr_named e v is = subst (λ xs. slice_get xs e.0 ≡ Some (Some v)) (sym h.exprs) (slice_get-map expr_variant b.exprs e.0 ∙ ap (option_map expr_variant) is)

  pat_entry : (p : PatId) (x : RawPat) (v : VariantId) → slice_get b.pats p.0 ≡ Some x → pat_variant x ≡ Some v → PatVariant t p v
  pat_entry p x v is k = subst (λ xs. slice_get xs p.0 ≡ Some (Some v)) (sym h.pats) (slice_get-map pat_variant b.pats p.0 ∙ (ap (option_map pat_variant) is ∙ ap (λ o. Some o) k))

  pub pat_named : (p : PatId) (v : VariantId) → IsVariantPat b p v → PatVariant t p v
  pat_named p v (inl is) = pat_entry p (pat.Path (path.Ctor v)) v is refl
  pat_named p v (inr is) = pat_entry p (pat.TupleStruct v is.0) v is.1 refl
