-- The node rules of the bodies of lawful facts are stable.
use Rattle.std.proofs.Common.{◌≡◌, ◌<◌, length, Option, Some, None, slice_get, subst, refl}
use Rattle.infer_result.specs.Words.{PatId, Ty, Assignment, folded, RawFacts, IsLawful}
use Rattle.infer_result.specs.Own.{InferenceResult, Given, IsAt, IsAtOrMismatch, IsAtMaybe, IsAtMaybeOrMismatch, ObeysOrMismatch, ObeysExpression, BodyObeysOrMismatch, BodyObeys, ObeysPattern, table_under, WholeObeys, IsClosedType, HasClosedTypes, RulesAreStable, NodeRulesAreStable, given_by}
use Rattle.infer_result.proofs.Under.{stable_where, type_under}
use Rattle.infer_result.proofs.StableExprs.{is_at_under, at_or_mismatch_under, expression_under, clauses_under}
use Rattle.infer_result.proofs.StablePats.{kind_under, pattern_under}

module _ (g : Given) (law : IsLawful g.scope.facts) (closed : HasClosedTypes g) where
  module _ (a : Assignment) (t : InferenceResult) where
    whole_under : (p : PatId) → WholeObeys g t p → WholeObeys g (table_under a t) p
    whole_under p h q k role stands = kind_under g law a t q (slice_get g.body.pats q.0) (h q k role stands)

    all_under : ((p : PatId) → p.0 < length g.body.pats → ObeysPattern g t p) → (p : PatId) → p.0 < length g.body.pats → ObeysPattern g (table_under a t) p
    all_under h p inside = pattern_under g law a t closed.inputs p (λ q k role stands. (h q stands.node_is).kind) (h p inside)

    root_by : (o : Option Ty) → ((u : Ty) → o ≡ Some u → IsClosedType u) → IsAtMaybe t g.body.root o → IsAtMaybe (table_under a t) g.body.root o
    root_by None same (u, has) = (folded a u, type_under a t g.body.root u (folded a u) has refl)
    root_by (Some u) same h = subst (λ s. IsAt (table_under a t) g.body.root s) (same u refl a) (is_at_under g a t g.body.root u h)

    root_under : BodyObeys g t → BodyObeys g (table_under a t)
    root_under h = root_by g.output closed.output h

    clause_by : (o : Option Ty) → ((u : Ty) → o ≡ Some u → IsClosedType u) → IsAtMaybeOrMismatch t g.body.root o → IsAtMaybeOrMismatch (table_under a t) g.body.root o
    clause_by None same (u, has) = (folded a u, type_under a t g.body.root u (folded a u) has refl)
    clause_by (Some u) same h = subst (λ s. IsAtOrMismatch (table_under a t) g.body.root s) (same u refl a) (at_or_mismatch_under g a t g.body.root u h)

    root_clause_under : BodyObeysOrMismatch g t → BodyObeysOrMismatch g (table_under a t)
    root_clause_under h = clause_by g.output closed.output h

  rules_stable : RulesAreStable g
  rules_stable = record {
    exprs = λ e. stable_where (λ t. ObeysExpression g t e) (λ a t h. expression_under g law a t e h);
    clauses = λ e. stable_where (λ t. ObeysOrMismatch g t e) (λ a t h. clauses_under g law a t e h);
    pats = λ p. stable_where (λ t. WholeObeys g t p × ObeysPattern g t p) (λ a t h. (whole_under a t p h.0, pattern_under g law a t closed.inputs p h.0 h.1));
    all_pats = stable_where (λ t. (p : PatId) → p.0 < length g.body.pats → ObeysPattern g t p) (λ a t h. all_under a t h);
    root = stable_where (λ t. BodyObeys g t) (λ a t h. root_under a t h);
    root_clause = stable_where (λ t. BodyObeysOrMismatch g t) (λ a t h. root_clause_under a t h);
  }

pub node_rules_are_stable : (raw : RawFacts) → IsLawful raw → NodeRulesAreStable raw
node_rules_are_stable raw law d b is inputs output aliases closed = rules_stable (given_by raw d b inputs output aliases) law closed
