-- Where no function and no adt has predicates, and no signature and no field an associated type, no node needs a goal.
use Rattle.std.proofs.Common.{◌≡◌, ◌∙◌, ℕ, List, [], map, slice_get, Option, Some, None, option_map, ap, refl, subst}
use Rattle.infer_result.specs.Words.{DefWithBodyId, ExprOrPatId, AliasBound, GenericArg, TraitRef, Ty, Ty-F, out-Ty, RawExpr, RawGoal, RawPath, RawVariant, RawFn, RawAdt, RawBody, RawFacts, fn_aliases, variant_aliases, Asked, goal_at, preds_or_none}
use Rattle.hir_types.specs.declared.ids.ExprOrPatId.TheVariants as node
use Rattle.infer_result.specs.Words.hir_raw.declared.raw.RawExpr.TheVariants as expr
use Rattle.infer_result.specs.Words.hir_raw.declared.raw.RawPath.TheVariants as path
use Rattle.infer_result.specs.Own.{Gap, InferenceResult, none_for_aliases, variant_preds, path_preds, expr_preds, item_args, item_path, needs_preds, needs_of, pat_needs_by, pat_needs_of, node_needs, IsNeeded, HasGap, NeedsHold, recorded, given}

none_at : {X : Type 0} (n : ℕ) (x : X) → slice_get [] n ≡ Some x → ⊥
none_at n x h = absurd (cc)

-- no gap is listed where there are no lists of them
pub no_gaps : (r : InferenceResult) → r.expr_gaps ≡ [] → r.pat_gaps ≡ [] → (n : ExprOrPatId) (x : Gap) → HasGap r n x → ⊥
no_gaps r none no_pats (node.ExprId e) x h = none_at e.0 h.gaps (subst (λ gs. slice_get gs e.0 ≡ Some h.gaps) none h.at)
no_gaps r none no_pats (node.PatId p) x h = none_at p.0 h.gaps (subst (λ gs. slice_get gs p.0 ≡ Some h.gaps) no_pats h.at)

-- the predicates of each entry are none
abbrev pub HaveNone : {X : Type 0} → (X → List RawGoal) → List X → Type 0
HaveNone {X} preds xs = (n : ℕ) (x : X) → slice_get xs n ≡ Some x → preds x ≡ []

entry_none : {X : Type 0} (preds : X → List RawGoal) (o : Option X) → ((x : X) → o ≡ Some x → preds x ≡ []) → preds_or_none (option_map preds o) ≡ []
entry_none preds None h = refl
entry_none preds (Some x) h = h x refl

module _
    (raw : RawFacts) (fns : HaveNone (λ (f : RawFn). f.preds) raw.fns) (adts : HaveNone (λ (a : RawAdt). a.preds) raw.adts)
    (aliases : (n : ℕ) (f : RawFn) → slice_get raw.fns n ≡ Some f → fn_aliases raw.types f ≡ []) (fields : (n : ℕ) (x : RawVariant) → slice_get raw.variants n ≡ Some x → variant_aliases raw.types x ≡ []) where
  variant_none : (o : Option RawVariant) → variant_preds raw o ≡ []
  variant_none None = refl
  variant_none (Some v) = entry_none (λ (a : RawAdt). a.preds) (slice_get raw.adts v.adt.0) (adts v.adt.0)

  path_none : (p : RawPath) → path_preds raw p ≡ []
  path_none (path.Local v) = refl
  path_none (path.Function f) = entry_none (λ (x : RawFn). x.preds) (slice_get raw.fns f.0) (fns f.0)
  path_none (path.Ctor v) = variant_none (slice_get raw.variants v.0)

  expr_none : (x : RawExpr) → expr_preds raw x ≡ []
  expr_none (expr.Path p) = path_none p
  expr_none _ = refl

  expr_needs_none : (o : Option RawExpr) (t : Option Ty) → needs_of raw o t ≡ []
  expr_needs_none None t = refl
  expr_needs_none (Some x) None = refl
  expr_needs_none (Some x) (Some t) = (let xs = item_args (out-Ty t) in needs_preds raw x t (none_for_aliases raw aliases fields xs x) ∙ ap (map (goal_at raw xs)) (expr_none x))

  item_needs_none : (t : Ty-F GenericArg Ty AliasBound TraitRef) → pat_needs_by raw t ≡ []
  item_needs_none (Ty-F.FnDef id xs) = none_for_aliases raw aliases fields xs (expr.Path (item_path id))
  item_needs_none _ = refl

  pat_needs_none : (o : Option Ty) → pat_needs_of raw o ≡ []
  pat_needs_none None = refl
  pat_needs_none (Some t) = item_needs_none (out-Ty t)

  node_needs_none : (b : RawBody) (r : InferenceResult) (n : ExprOrPatId) → node_needs raw b r n ≡ []
  node_needs_none b r (node.ExprId e) = expr_needs_none (slice_get b.exprs e.0) (recorded r.type_of_expr e.0)
  node_needs_none b r (node.PatId p) = pat_needs_none (recorded r.item_of_pat p.0)

  pub none_needed : (d : DefWithBodyId) (b : RawBody) (r : InferenceResult) (n : ExprOrPatId) (a : Asked) → IsNeeded (given raw d b) r n a → ⊥
  none_needed d b r n a is = none_at is.at a (subst (λ gs. slice_get gs is.at ≡ Some a) (node_needs_none b r n) is.among)

  pub needs_hold : (d : DefWithBodyId) (b : RawBody) (r : InferenceResult) → NeedsHold d (given raw d b) r
  needs_hold d b r f are n a is = absurd (none_needed d b r n a is)
