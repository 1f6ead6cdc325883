-- Proofs that no list of a table may hold beside those that are asked for: about an associated type that the facts lack, or by an impl at arguments that
-- are no types of theirs, or that its head does not tell.
use Rattle.std.specs.Prelude.{◌≡◌, ℕ, true, false, List, map, slice_get, Some, None}
use Rattle.std.proofs.Common.{sym, ap, ◌∙◌, subst, true≢false}
use Rattle.hir_types.specs.declared.goal.Goal.TheVariants as goal
use Rattle.hir_types.specs.declared.head.Head.TheVariants as head
use Rattle.hir_types.specs.declared.ty.GenericArg.TheVariants as arg
use Rattle.hir_types.specs.declared.ty.Ty.TheVariants as ty
use Rattle.infer_needs.specs.Words.goal_facts.declared.proof.ProofSource.TheVariants as source
use Rattle.infer_needs.specs.Words.{DefWithBodyId, ImplId, TypeAliasId, GenericArg, GenericArg-F, out-GenericArg, Ty, Ty-F, has_hole, folds_follow, leaf, chain, term, arg_term, term_projection, Scope, alias_params, has_params, width, Proof, ProofSource, IsTaken, TakesFrom, Given, InferenceResult}
use Rattle.infer_needs.proofs.Words.{top_type}
use Rattle.infer_needs.specs.Own.{IsFitGoal, AreFitArgs, IsFitSource, ProofsFit, are_types, is_fit}
use Rattle.infer_needs.proofs.Closed.{both, hole_steps}
use Rattle.infer_needs.proofs.FitTerms.{type_same}
use Rattle.infer_needs.proofs.ReadsFit.{split}

module _ (sc : Scope) where
  -- an associated type that there isn't
  unknown_alias : (k : TypeAliasId) (xs : List GenericArg) (t : Ty) → alias_params sc.facts k ≡ None → IsFitGoal sc (goal.Projection k xs t) → ⊥
  unknown_alias k xs t none h =
      let c = chain (map arg_term xs) in
      let fits : is_fit sc.facts sc.params (term (ty.Projection k xs)) ≡ true = sym (type_same sc (ty.Projection k xs)) ∙ h.0.fits in
      let parts = subst (λ u. is_fit sc.facts sc.params u ≡ true) (term_projection k xs) fits in
      let taken = (split sc.facts sc.params (leaf (head.Projection k)) c parts).follow in
      let many = (both (has_params (alias_params sc.facts k) (width c)) (are_types c) taken).0 in
      true≢false (sym many ∙ ap (λ o. has_params o (width c)) none)

  var_has_hole : (n : ℕ) → has_hole (ty.Var n) ≡ true
  var_has_hole n = ap has_hole (sym (ty.rolls-Var n)) ∙ (folds_follow hole_steps).ty (Ty-F.Var n)

  same_arg : (t u : Ty) → arg.Ty t ≡ arg.Ty u → t ≡ u
  same_arg t u e = (let rolled : GenericArg-F.Ty t ≡ GenericArg-F.Ty u = sym (top_type t) ∙ (ap out-GenericArg e ∙ top_type u) in cc)

  -- a hole
  hole_at : (n k : ℕ) (xs : List GenericArg) → slice_get xs k ≡ Some (arg.Ty (ty.Var n)) → AreFitArgs sc xs → ⊥
  hole_at n k xs at h =
      let q = h k (arg.Ty (ty.Var n)) at in
      let is : ty.Var n ≡ q.0 = same_arg (ty.Var n) q.0 q.1 in
      true≢false (sym (var_has_hole n) ∙ (ap has_hole is ∙ q.2.closed))

module _ (d : DefWithBodyId) (g : Given) (r : InferenceResult) (fit : ProofsFit d g r) (n : ℕ) (x : Proof) (listed : slice_get r.proofs n ≡ Some x) where
  pub no_unknown_alias : (k : TypeAliasId) (xs : List GenericArg) (t : Ty) → alias_params g.scope.facts k ≡ None → x.goal ≡ goal.Projection k xs t → ⊥
  no_unknown_alias k xs t none is = unknown_alias g.scope k xs t none (subst (IsFitGoal g.scope) is (fit.each n x listed).goal)

  pub no_hole : (id : ImplId) (xs : List GenericArg) (m k : ℕ) → slice_get xs k ≡ Some (arg.Ty (ty.Var m)) → x.source ≡ source.Impl id xs → ⊥
  no_hole id xs m k at is = hole_at g.scope m k xs at (subst (IsFitSource g.scope) is (fit.each n x listed).source)

  -- what stands for a parameter is `{unknown}`, or stands in what the goal reads as
  pub only_told : (id : ImplId) (xs : List GenericArg) (k : ℕ) (y : GenericArg) → slice_get xs k ≡ Some y → x.source ≡ source.Impl id xs → IsTaken (fit.drawn n x listed).target y
  only_told id xs k y at is = taken x.source is (fit.drawn n x listed).takes
    where
      taken : (s : ProofSource) → s ≡ source.Impl id xs → TakesFrom (fit.drawn n x listed).target s → IsTaken (fit.drawn n x listed).target y
      taken s e h = subst (TakesFrom (fit.drawn n x listed).target) e h k y at
