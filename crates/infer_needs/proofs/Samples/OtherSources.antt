-- Proofs by a source that is none, over `Impls`: by a clause where the item states nothing, and of `u8: Tr` as if it were built in.
use Rattle.std.proofs.Common.{◌≡◌, ℕ, inl, inr, List, [], sym, ap, subst, true, true≢false, Some, slice_get}
use Rattle.infer_needs.specs.Words.{Goal, Fill, Aliases, Asked, System, implements, asked_at, is_among, Proof, IsListed, asked_goal, filled_goal, IsSource, AreProofs, IsSystemOf}
use Rattle.infer_needs.specs.Words.goal_facts.declared.proof.ProofSource.TheVariants as source
use Rattle.infer_needs.proofs.Samples.Impls.{tr, facts, own, u8_term, implemented, nothing_follows, nothing_listed, no_clauses}

module _ (s : System) (of : IsSystemOf facts own s) (A : Aliases) (p : Fill) (ps : List Proof) (n : ℕ) (x : Proof) (is : slice_get ps n ≡ Some x) (h : AreProofs facts s A p ps) where
  -- whatever the clause and the goal
  pub by_clause : (c : Goal) → x.source ≡ source.Clause c → ⊥
  by_clause c by =
      (let holds = h n x is in
      let clause = subst (λ y. IsSource facts s A p (filled_goal p x.goal) y holds.asks) by holds.source in
      let listed : slice_get [] clause.at ≡ Some clause.clause = subst (λ rs. slice_get rs clause.at ≡ Some clause.clause) (no_clauses s of) clause.listed in
      cc)

  none_built_in : (qs : List Asked) → IsSource facts s A p (implemented u8_term) source.BuiltIn qs → ⊥
  none_built_in qs (inl itself) = itself.1.2
  none_built_in qs (inr (_, inl size)) = true≢false (sym (subst (λ ts. is_among ts (implements tr) ≡ true) of.sized size.1))
  none_built_in qs (inr (_, inr (inl bound))) = nothing_follows (IsListed facts) nothing_listed 8 bound.1.0 bound.1.2
  none_built_in qs (inr (_, inr (inr parts))) = true≢false (sym (subst (λ ts. is_among ts (implements tr) ≡ true) of.copied parts.3.among))

  pub built_in : asked_goal x.goal ≡ implemented u8_term → x.source ≡ source.BuiltIn → ⊥
  built_in goal by =
      let holds = h n x is in
      none_built_in holds.asks (subst (λ a. IsSource facts s A p a source.BuiltIn holds.asks) (ap (asked_at p) goal) (subst (λ y. IsSource facts s A p (filled_goal p x.goal) y holds.asks) by holds.source))
