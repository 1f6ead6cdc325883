-- What is asked stays so while holes are made and bound, and other things than types of expressions are recorded.
use Rattle.std.proofs.Common.{◌≡◌, ◌∙◌, sym, ap, subst, List, Option, slice_get}
use Rattle.infer_ctx.specs.Words.{Ty, Grew, ItemSources, Obligations, GoalTable, AreCounted, StaysButHoles, kept_still, all_still, stays_itself, InferenceResult, needs_of, Given, recorded, At}
use Rattle.infer_ctx.proofs.Words.{grew_itself}
use Rattle.infer_ctx.specs.Own.{InferenceContext, asked_at, AllAreAsked, TreeHasHeadsOf, AreSourcesIn, AreGoalsOf, IsTold, is_fine_head, TellsRecorded}

module _ (g : Given) (c d : InferenceContext) (exprs : d.result.type_of_expr ≡ c.result.type_of_expr) (stays : StaysButHoles c.goals d.goals) (grew : Grew c.goals.table d.goals.table) where
  asked_still : AllAreAsked g.scope.facts g.body c → AllAreAsked g.scope.facts g.body d
  asked_still asked n =
      ap (λ (o : Obligations). asked_at o.tree n) stays.obligations
      ∙ (asked n ∙ ap (λ (ts : List (Option Ty)). needs_of g.scope.facts (slice_get g.body.exprs n) (recorded ts n)) (sym exprs))

  pub goals_still : AreGoalsOf g c → AreGoalsOf g d
  goals_still h = record {
    sources = subst (λ (z : ItemSources). AreSourcesIn g.scope z) (sym stays.sources) h.sources;
    bounded = stays.bounded ∙ h.bounded;
    kept = kept_still c.goals d.goals h.kept stays grew;
    all = all_still c.goals d.goals h.all stays grew;
    heads = subst (λ (o : Obligations). TreeHasHeadsOf (is_fine_head g.scope) o.tree) (sym stays.obligations) h.heads;
    counted = subst (λ (o : Obligations). AreCounted o) (sym stays.obligations) h.counted;
    asked = asked_still h.asked;
  }

  -- where bindings tell what they did
  pub told_with : (TellsRecorded g c.result → TellsRecorded g d.result) → IsTold g c → IsTold g d
  told_with tells h = record { bindings = tells h.bindings; goals = goals_still h.goals }

-- where nothing is recorded
pub told_same : (g : Given) (c d : InferenceContext) → d.result ≡ c.result → StaysButHoles c.goals d.goals → Grew c.goals.table d.goals.table → IsTold g c → IsTold g d
told_same g c d same stays grew =
    told_with g c d (ap (λ (r : InferenceResult). r.type_of_expr) same) stays grew (λ told. subst (λ r. TellsRecorded g r) (sym same) told)

-- where something else is recorded, and goals are as they were
pub told_beside : (g : Given) (c d : InferenceContext) → d.goals ≡ c.goals → d.result.type_of_expr ≡ c.result.type_of_expr → d.result.type_of_binding ≡ c.result.type_of_binding → IsTold g c → IsTold g d
told_beside g c d goals exprs bindings =
    told_with g c d exprs
    (subst (λ (z : GoalTable). StaysButHoles c.goals z) (sym goals) (stays_itself c.goals))
    (subst (λ (z : GoalTable). Grew c.goals.table z.table) (sym goals) (grew_itself c.goals.table))
    (λ told v t at. told v t (subst (λ (ts : List (Option Ty)). At ts v.0 t) bindings at))
