-- What holds of a tree holds of its copy.
use Rattle.std.proofs.Common.{◌≡◌, ◌⊎◌, ℕ, length, sym, ap, ◌∙◌, subst}
use Rattle.std.specs.Prelude.{Some, slice_get}
use Rattle.goal_tree.specs.Words.{ProofSource}
use Rattle.goal_tree.specs.declared.obligation.Standing.TheVariants as standing
use Rattle.goal_tree.specs.Own.{GoalTree, IsSelectedAt, IsProvedBy, HasSource, AreAskedBy, IsAskedBy, IsProofAt, SomeUnproved, IsTree, IsCopied}

module _ (t u : GoalTree) (same : IsCopied t u) where
  pub copied_source : (i m n : ℕ) (src : ProofSource) → HasSource u i src m n → HasSource t i src m n
  copied_source i m n src h =
      let ss = t.standings.items in
      let stood = subst (λ zs. IsSelectedAt zs i src m n ⊎ IsProvedBy zs u.proofs.items i src m n) same.standings h in
      subst (λ ps. IsSelectedAt ss i src m n ⊎ IsProvedBy ss ps i src m n) same.proofs stood

  proof_at : (i k m n : ℕ) → IsProofAt t.obligations.items t.standings.items t.proofs.items i k m n → IsProofAt u.obligations.items u.standings.items u.proofs.items i k m n
  proof_at i k m n h =
      let asked = subst (λ os. IsProofAt os t.standings.items t.proofs.items i k m n) (sym same.obligations) h in
      let stood = subst (λ ss. IsProofAt u.obligations.items ss t.proofs.items i k m n) (sym same.standings) asked in
      subst (λ ps. IsProofAt u.obligations.items u.standings.items ps i k m n) (sym same.proofs) stood

  pub copied_tree : IsTree t → IsTree u
  copied_tree tree = record {
    as_many = ap length same.standings ∙ tree.as_many ∙ sym (ap length same.obligations);
    parents = λ i p o e q. subst (λ ss. IsAskedBy ss i p) (sym same.standings) (tree.parents i p o (subst (λ os. slice_get os i ≡ Some o) same.obligations e) q);
    selected = λ i m n src h. subst (λ os. AreAskedBy os i m n) (sym same.obligations) (tree.selected i m n src (copied_source i m n src h));
    proved = λ i k m n e. proof_at i k m n (tree.proved i k m n (subst (λ ss. slice_get ss i ≡ Some (standing.Proved k m n)) same.standings e));
    owned = λ k x e. subst (λ ss. (i : ℕ) × (m : ℕ) × (n : ℕ) × (slice_get ss i ≡ Some (standing.Proved k m n))) (sym same.standings) (tree.owned k x (subst (λ ps. slice_get ps k ≡ Some x) same.proofs e));
    waits = λ i m n src e not. subst (λ ss. SomeUnproved ss m n) (sym same.standings) (tree.waits i m n src (subst (λ ss. IsSelectedAt ss i src m n) same.standings e) not);
  }
