-- Entries that were read of types that fit, or that nodes' needs say, fit; and so do the gaps.
use Rattle.std.specs.Prelude.{◌≡◌, ◌⊎◌, ℕ, zero, suc, List, length, slice_get, Some, refl}
use Rattle.std.proofs.Common.{inl, inr, sym, subst}
use Rattle.infer_needs.specs.Words.{DefWithBodyId, ExprOrPatId, TypeAliasId, GenericArg, Ty, term, term_projection, RawBody, RawFacts, Scope, scope_of, generic_params, body_of, IsLawful, Asked, System, Each, asked_goal, Proof, IsSystemOf, Gap, InferenceResult, with_goals, scope_item, needs_at, pat_needs_at, node_needs, IsNeeded, IsTrueGap, HasGap, GoalReads, stays_at, IsTableOf, given}
use Rattle.hir_types.specs.declared.ids.ExprOrPatId.TheVariants as node
use Rattle.hir_types.specs.declared.goal.Goal.TheVariants as goal
use Rattle.hir_types.specs.declared.ty.Ty.TheVariants as ty
use Rattle.infer_needs.proofs.Words.{each_append, each_get}
use Rattle.infer_result.specs.declared.gaps.Gap.TheVariants as gap
use Rattle.infer_needs.specs.Own.{IsFitType, IsFitGap, EntriesFit, Fits, GoalIsFit, EntryFitsIn, IsProvable, IsEntry, AreEntries, IsSaidBy, FitOrAreSaid, first_needs, first_pat_needs, all_needs}
use Rattle.infer_needs.proofs.FitNeeds.{needs_fit, goal_reads_fit}
use Rattle.infer_needs.proofs.FitTypes.{fit_type, fit_alias, fit_goal}
use Rattle.infer_needs.proofs.Provable.{same_scope, node_provable}
use Rattle.infer_needs.proofs.ReadsYes.{term_reads_written}

module _
    (raw : RawFacts) (law : IsLawful raw) (d : DefWithBodyId) (b : RawBody) (of_body : body_of raw d ≡ Some b) (r : InferenceResult) (table : IsTableOf raw d r)
    (f : System) (of_item : IsSystemOf raw (scope_item raw d) f) where
  abbrev sc : Scope
  sc = scope_of raw d

  abbrev depth : ℕ
  depth = raw.limits.goal_depth

  abbrev same : generic_params raw (scope_item raw d) ≡ sc.params
  same = same_scope raw d b of_body

  -- it fits, and is without holes
  pub record IsRight (a : Asked) : Type 0 where
    pub fits : GoalIsFit raw sc.params a
    pub written : IsProvable a

  pub need_right : (m : ExprOrPatId) (k : ℕ) (a : Asked) → slice_get (node_needs raw b r m) k ≡ Some a → IsRight a
  need_right m k a among = record {
    fits = each_get (GoalIsFit raw sc.params) (node_needs raw b r m) k a (needs_fit raw law d r table b m) among;
    written = each_get IsProvable (node_needs raw b r m) k a (node_provable raw law d r table b m) among;
  }

  read_fits : (a c : Asked) → GoalReads f depth a c → GoalIsFit raw sc.params a → GoalIsFit raw sc.params c
  read_fits a c reads h = subst (λ (m : ℕ). GoalIsFit raw m c) same (goal_reads_fit raw law (scope_item raw d) f of_item depth a c reads (subst (λ (m : ℕ). GoalIsFit raw m a) (sym same) h))

  pub read_right : (a c : Asked) → GoalReads f depth a c → IsRight a → IsRight c
  read_right a c reads h = record {
    fits = read_fits a c reads h.fits;
    written = term_reads_written raw law (scope_item raw d) f of_item depth a.parts c.parts reads.parts h.written;
  }

  -- ---- entries

  first_fit : (m : ℕ) → Each (GoalIsFit raw sc.params) (first_needs raw b r m)
  first_fit zero = tt
  first_fit (suc m) = each_append (GoalIsFit raw sc.params) (first_needs raw b r m) (needs_at raw b r m) (first_fit m) (needs_fit raw law d r table b (node.ExprId (record { 0 = m })))

  first_pats_fit : (m : ℕ) → Each (GoalIsFit raw sc.params) (first_pat_needs raw r m)
  first_pats_fit zero = tt
  first_pats_fit (suc m) = each_append (GoalIsFit raw sc.params) (first_pat_needs raw r m) (pat_needs_at raw r m) (first_pats_fit m) (needs_fit raw law d r table b (node.PatId (record { 0 = m })))

  all_needs_fit : Each (GoalIsFit raw sc.params) (all_needs raw b r)
  all_needs_fit = each_append (GoalIsFit raw sc.params) (first_needs raw b r (length b.exprs)) (first_pat_needs raw r (length b.pats)) (first_fit (length b.exprs)) (first_pats_fit (length b.pats))

  -- the associated type that stays fits where the one that is written does
  as_written : (k : TypeAliasId) (xs : List GenericArg) → Fits raw sc.params (stays_at k xs) → Fits raw sc.params (term (ty.Projection k xs))
  as_written k xs h = subst (Fits raw sc.params) (sym (term_projection k xs)) h

  as_staying : (k : TypeAliasId) (xs : List GenericArg) → Fits raw sc.params (term (ty.Projection k xs)) → Fits raw sc.params (stays_at k xs)
  as_staying k xs h = subst (Fits raw sc.params) (term_projection k xs) h

  said_fits : (x : Ty × Ty) → IsSaidBy f depth (all_needs raw b r) x → Fits raw sc.params (term x.0) × Fits raw sc.params (term x.1)
  said_fits x h =
      let a = asked_goal (goal.Projection h.alias h.args x.1) in
      let need = each_get (GoalIsFit raw sc.params) (all_needs raw b r) h.at h.need all_needs_fit h.among in
      let q = read_fits h.need a h.reads need in
      (subst (λ t. Fits raw sc.params (term t)) (sym h.is) (as_written h.alias h.args q.0), q.1)

  both_fit : (x : Ty × Ty) → EntryFitsIn raw (scope_item raw d) x ⊎ IsSaidBy f depth (all_needs raw b r) x → Fits raw sc.params (term x.0) × Fits raw sc.params (term x.1)
  both_fit x (inl h) = (subst (λ m. Fits raw m (term x.0)) same h.0, subst (λ m. Fits raw m (term x.1)) same h.1)
  both_fit x (inr h) = said_fits x h

  entry_fits : (ps : List Proof) (x : Ty × Ty) → IsEntry ps x → EntryFitsIn raw (scope_item raw d) x ⊎ IsSaidBy f depth (all_needs raw b r) x → IsFitType sc x.0 × IsFitType sc x.1
  entry_fits ps x e from =
      let fit = both_fit x from in
      let own = as_staying e.alias e.args (subst (λ t. Fits raw sc.params (term t)) e.is fit.0) in
      (subst (IsFitType sc) (sym e.is) (fit_alias sc e.alias e.args own e.written.0), fit_type sc x.1 fit.1 e.written.1)

  -- those that fit, or that needs say
  pub entries_fit : (ps : List Proof) (js : List (Ty × Ty)) → AreEntries ps js → FitOrAreSaid raw (scope_item raw d) f (all_needs raw b r) js
      → (k : ℕ) (x : Ty × Ty) → slice_get js k ≡ Some x → IsFitType sc x.0 × IsFitType sc x.1
  entries_fit ps js entries from k x at = entry_fits ps x (entries k x at) (from k x at)

  -- ---- gaps

  module _ (z : InferenceResult) (needs : (m : ExprOrPatId) → node_needs raw b z m ≡ node_needs raw b r m) (entries : (k : ℕ) (x : Ty × Ty) → slice_get z.projections k ≡ Some x → IsFitType sc x.0 × IsFitType sc x.1) where
    needed : (m : ExprOrPatId) (a : Asked) → IsNeeded (given raw d b) z m a → IsRight a
    needed m a h = need_right m h.at a (subst (λ xs. slice_get xs h.at ≡ Some a) (needs m) h.among)

    pub gap_fits : (m : ExprOrPatId) (x : Gap) → IsTrueGap (given raw d b) f z m x → IsFitGap sc x
    gap_fits m (gap.Unproved n q) (same_node, h) = (let k = needed m (asked_goal q) h.needed in fit_goal sc q k.fits k.written)
    gap_fits m (gap.Clash n a t u) (same_node, h) =
        let k = read_right h.need (asked_goal (goal.Projection h.alias h.args u)) h.reads (needed m h.need h.needed) in
        let q = fit_goal sc (goal.Projection h.alias h.args u) k.fits k.written in
        (subst (IsFitType sc) (sym h.is) q.0, (entries h.listed.0 (ty.Projection h.alias h.args, t) h.listed.1).1, q.1)

    pub all_fit : ((m : ExprOrPatId) (x : Gap) → HasGap z m x → IsTrueGap (given raw d b) f z m x) → EntriesFit (given raw d b) z
    all_fit gaps = record { entries = entries; gaps = λ m x has. gap_fits m x (gaps m x has) }

-- what could not be shown and what was found are no matter for what nodes need
pub same_needs : (raw : RawFacts) (b : RawBody) (r : InferenceResult) (ps : List Proof) (js : List (Ty × Ty)) (gss hss : List (List Gap)) (m : ExprOrPatId) → node_needs raw b (with_goals ps js gss hss r) m ≡ node_needs raw b r m
same_needs raw b r ps js gss hss (node.ExprId e) = refl
same_needs raw b r ps js gss hss (node.PatId p) = refl
