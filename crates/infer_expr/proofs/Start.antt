-- Goals before a body is walked: there are none.
use Rattle.std.specs.Prelude.{replicate}
use Rattle.std.proofs.Common.{◌≡◌, ◌∙◌, ℕ, zero, suc, List, [], ◌∷◌, refl, sym, ap, subst, length, slice_get, Option, Some, None, flat_map}
use Rattle.hir_types.specs.declared.ids.DefWithBodyId.{DefWithBodyId}
use Rattle.hir_types.specs.declared.ids.GenericDefId.{GenericDefId}
use Rattle.hir_types.specs.declared.ty.Ty.{Ty}
use Rattle.hir_raw.specs.Scope.{scope_of}
use Rattle.hir_raw.specs.declared.raw.RawBody.{RawBody}
use Rattle.hir_raw.specs.declared.raw.RawExpr.{RawExpr}
use Rattle.hir_raw.specs.declared.raw.RawFacts.{RawFacts}
use Rattle.hir_facts.specs.Bodies.{body_of}
use Rattle.hir_facts.specs.Lawful.{IsLawful}
use Rattle.infer_goals.specs.Words.{ItemSources, IsSystemOf, Obligation}
use Rattle.goal_search.specs.Sources.{system}
use Rattle.infer_goals.specs.Stays.{IsUnused}
use Rattle.infer_goals.proofs.Counting.{none_counted}
use Rattle.infer_result.specs.Needs.{needs_of, needs_at, scope_item}
use Rattle.infer_result.specs.Places.{Given}
use Rattle.infer_result.specs.Table.{recorded}
use Rattle.infer_ctx.specs.Asked.{asked_by_node, AreSourcesIn, AreGoalsOf}
use Rattle.infer_ctx.specs.Context.{empty_context}
use Rattle.infer_ctx.specs.declared.context.InferenceContext.{InferenceContext}
use Rattle.infer_obligations.proofs.FineSources.{sources_fine}

-- those of a definition with a body
pub sources_in : (raw : RawFacts) (law : IsLawful raw) (d : DefWithBodyId) (b : RawBody) → body_of raw d ≡ Some b → (x : ItemSources) → x.facts ≡ raw → x.item ≡ scope_item raw d → AreSourcesIn (scope_of raw d) x
sources_in raw law d b is x facts item = record {
  facts = facts;
  heads = λ are. sources_fine raw law d b is (system x.sources)
      (subst (λ (i : GenericDefId). IsSystemOf raw i (system x.sources)) item (subst (λ (z : RawFacts). IsSystemOf z x.item (system x.sources)) facts are));
}

nothing_there : (os : List Obligation) (i : ℕ) (x : Obligation) → os ≡ [] → slice_get os i ≡ Some x → ⊥
nothing_there [] i x none at = cc
nothing_there (y ∷ os) i x none at = cc

none_recorded : {A : Type 0} (n k : ℕ) → recorded {A = A} (replicate n None) k ≡ None
none_recorded zero k = refl
none_recorded (suc n) zero = refl
none_recorded (suc n) (suc k) = none_recorded n k

nothing_needed : (raw : RawFacts) (o : Option RawExpr) → needs_of raw o None ≡ []
nothing_needed raw None = refl
nothing_needed raw (Some x) = refl

-- nothing is recorded, so nothing is needed, and nothing is registered
module _ (g : Given) (c : InferenceContext) (empty : c ≡ empty_context g.body c.goals) (raw : RawFacts) (item : GenericDefId) (unused : IsUnused raw item c.goals) (sources : AreSourcesIn g.scope c.goals.sources) where
  needs_nothing : (n : ℕ) → needs_at g.scope.facts g.body c.result n ≡ []
  needs_nothing n =
      ap (λ (o : Option Ty). needs_of g.scope.facts (slice_get g.body.exprs n) o)
      (ap (λ (z : InferenceContext). recorded z.result.type_of_expr n) empty ∙ none_recorded (length g.body.exprs) n)
      ∙ nothing_needed g.scope.facts (slice_get g.body.exprs n)

  pub goals_at_start : AreGoalsOf g c
  goals_at_start = record {
    sources = sources;
    bounded = unused.bounded;
    kept = unused.kept;
    all = unused.all;
    heads = λ i x at. absurd (nothing_there c.goals.obligations.tree.obligations.items i x unused.obligations at);
    counted = unused.selected ∙ sym (none_counted c.goals.obligations.tree unused.kept.tree unused.obligations);
    asked = λ n. ap (λ (os : List Obligation). flat_map (asked_by_node n) os) unused.obligations ∙ sym (needs_nothing n);
  }
