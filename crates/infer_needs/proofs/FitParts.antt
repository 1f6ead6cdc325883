-- Associated types in types and goals that fit do, and so does what they read as.
use Rattle.std.specs.Prelude.{◌≡◌, ℕ, zero, suc, true, List, [], ◌∷◌, map, slice_get, Some}
use Rattle.std.proofs.Common.{inl, inr, sym, ap, ◌∙◌, subst, true≢false}
use Rattle.std.proofs.lemmas.Option.{same_Some}
use Rattle.infer_needs.specs.Words.{Goal, GenericDefId, TypeAliasId, GenericArg, Ty, Term, hole, leaf, pair, chain, term, arg_term, term_projection, RawFacts, alias_params, has_params, generic_params, IsLawful, width, Kind, implements, projects, Asked, System, alias, role, alias_at, asked_goal, TypeReads, IsSystemOf, IsPartOf, staying}
use Rattle.hir_types.specs.declared.head.Head.TheVariants as head
use Rattle.hir_types.specs.declared.ty.Ty.TheVariants as ty
use Rattle.infer_needs.specs.Own.{are_types, takes, is_fit, Fits, AskedFits, FitsIn, GoalFitsIn, GoalsFitIn, TakesThese, AliasesFitIn, AliasFitsHere, EntryFitsIn}
use Rattle.infer_needs.proofs.Closed.{both}
use Rattle.infer_needs.proofs.FitSources.{both_true}
use Rattle.infer_needs.proofs.ReadsFit.{split, role_alias, reads_fit}
use Rattle.hir_types.specs.declared.goal.Goal.TheVariants as goal

-- ---- what stands in a term that fits

pub part_fits : (raw : RawFacts) (n : ℕ) (x t : Term) → IsPartOf x t → Fits raw n t → Fits raw n x
part_fits raw n x (hole k) p h = absurd p
part_fits raw n x (leaf g) p h = absurd p
part_fits raw n x (pair a b) (inl e) h = subst (Fits raw n) (sym e) h
part_fits raw n x (pair a b) (inr (inl p)) h = part_fits raw n x a p (split raw n a b h).first
part_fits raw n x (pair a b) (inr (inr p)) h = part_fits raw n x b p (split raw n a b h).rest

module _ (raw : RawFacts) (item : GenericDefId) where
  abbrev own : ℕ
  own = generic_params raw item

  pub aliases_fit : (t : Term) → FitsIn raw item t → AliasesFitIn raw item t
  aliases_fit t h k w p = part_fits raw own (alias_at k w) t p h

  -- of two terms
  pub first_aliases : (a b : Term) → AliasesFitIn raw item (pair a b) → AliasesFitIn raw item a
  first_aliases a b h k w p = h k w (inr (inl p))

  pub rest_aliases : (a b : Term) → AliasesFitIn raw item (pair a b) → AliasesFitIn raw item b
  rest_aliases a b h k w p = h k w (inr (inr p))

  pub here_aliases : (a b : Term) → AliasesFitIn raw item (pair a b) → AliasFitsHere raw item a b
  here_aliases a b h k is = h k b (inl (ap (λ x. pair x b) (sym is)))

  pub alias_here : (a b : Term) (k : TypeAliasId) → role a ≡ alias k → AliasFitsHere raw item a b → FitsIn raw item (alias_at k b)
  alias_here a b k is h = h k (role_alias a k is)

  -- of an associated type that fits
  pub alias_takes : (k : TypeAliasId) (w : Term) → FitsIn raw item (alias_at k w) → TakesThese raw k w
  alias_takes k w h = (split raw own (leaf (head.Projection k)) w h).follow

  pub alias_args : (k : TypeAliasId) (w : Term) → FitsIn raw item (alias_at k w) → FitsIn raw item w
  alias_args k w h = (split raw own (leaf (head.Projection k)) w h).rest

  -- ---- goals

  no_types : (k : TypeAliasId) (w x y : Term) → alias_at k w ≡ pair x y → are_types x ≡ true → ⊥
  no_types k w x y e h =
      let first : leaf (head.Projection k) ≡ x = cc in
      true≢false (sym (subst (λ z. are_types z ≡ true) (sym first) h))

  in_goal : (c : Kind) (t : Term) → AskedFits raw own c t → AliasesFitIn raw item t
  in_goal (implements i) t h k w p = aliases_fit t h.1 k w p
  in_goal (projects j) (pair x y) h k w (inl e) =
      let s = split raw own (leaf (head.AssociatedType j)) x h.0 in
      let taken : takes (alias_params raw j) x ≡ true = s.follow in
      absurd (no_types k w x y e (both (has_params (alias_params raw j) (width x)) (are_types x) taken).1)
  in_goal (projects j) (pair x y) h k w (inr (inl p)) = part_fits raw own (alias_at k w) x p (split raw own (leaf (head.AssociatedType j)) x h.0).rest
  in_goal (projects j) (pair x y) h k w (inr (inr p)) = part_fits raw own (alias_at k w) y p h.1
  in_goal (projects j) (hole i) h k w p = absurd h
  in_goal (projects j) (leaf x) h k w p = absurd h

  pub goal_aliases : (a : Asked) → GoalFitsIn raw item a → AliasesFitIn raw item a.parts
  goal_aliases a h = in_goal a.kind a.parts h

  pub goal_fits_at : (qs : List Goal) (i : ℕ) (q : Goal) → GoalsFitIn raw item (map asked_goal qs) → slice_get qs i ≡ Some q → GoalFitsIn raw item (asked_goal q)
  goal_fits_at [] i q h at = absurd (cc)
  goal_fits_at (x ∷ qs) zero q h at = subst (λ y. GoalFitsIn raw item (asked_goal y)) (same_Some x q at) h.0
  goal_fits_at (x ∷ qs) (suc i) q h at = goal_fits_at qs i q h.1 at

-- the goal that it is a type that fits
pub entry_goal : (raw : RawFacts) (item : GenericDefId) (k : TypeAliasId) (w : Term) (zs : List GenericArg) (u : Ty) → chain (map arg_term zs) ≡ w → TakesThese raw k w → FitsIn raw item w → EntryFitsIn raw item (ty.Projection k zs, u)
    → GoalFitsIn raw item (asked_goal (goal.Projection k zs u))
entry_goal raw item k w zs u is many fits entry =
    let own = generic_params raw item in
    (subst (λ c. Fits raw own (staying k c)) (sym is) (both_true (takes (alias_params raw k) w) (is_fit raw own w) many fits), entry.1)

-- ---- what is read

module _ (raw : RawFacts) (law : IsLawful raw) (item : GenericDefId) (f : System) (of : IsSystemOf raw item f) (n : ℕ) where
  -- an associated type that takes these arguments, which fit, and what it reads as
  pub entry_reads : (k : TypeAliasId) (w : Term) (zs : List GenericArg) (u : Ty) → chain (map arg_term zs) ≡ w → TakesThese raw k w → FitsIn raw item w → TypeReads f n (ty.Projection k zs) u → EntryFitsIn raw item (ty.Projection k zs, u)
  entry_reads k w zs u is many fits reads =
      let at : FitsIn raw item (alias_at k w) = both_true (takes (alias_params raw k) w) (is_fit raw (generic_params raw item) w) many fits in
      let itself : FitsIn raw item (term (ty.Projection k zs)) = subst (FitsIn raw item) (sym (term_projection k zs ∙ ap (alias_at k) is)) at in
      (itself, reads_fit raw law item f of n (term (ty.Projection k zs)) (term u) itself reads)
