-- What is kept of goals where the table of goals stays, or holes alone are made and bound.
use Rattle.std.proofs.Common.{◌≡◌, sym, subst}
use Rattle.goal_tests.specs.Words.{State, Grew, Obligations, GoalTable, ItemSources, system, AreKept, HasAllOpen, StaysButHoles, kept_still, all_still, KeepsGoals}

pub keeps_still : (t t' : GoalTable) → KeepsGoals t → StaysButHoles t t' → Grew t.table t'.table → KeepsGoals t'
keeps_still t t' keeps stays grew = record { kept = kept_still t t' keeps.kept stays grew; all = all_still t t' keeps.all stays grew }

pub keeps_same : (t t' : GoalTable) → KeepsGoals t → t'.table ≡ t.table → t'.sources ≡ t.sources → t'.obligations ≡ t.obligations → KeepsGoals t'
keeps_same t t' keeps table sources obligations = record {
  kept =
      subst (λ (o : Obligations). AreKept t'.sources.facts (system t'.sources.sources) t'.table o) (sym obligations)
      (subst (λ (s : State). AreKept t'.sources.facts (system t'.sources.sources) s t.obligations) (sym table)
      (subst (λ (z : ItemSources). AreKept z.facts (system z.sources) t.table t.obligations) (sym sources) keeps.kept));
  all =
      subst (λ (o : Obligations). HasAllOpen (system t'.sources.sources) t'.table o) (sym obligations)
      (subst (λ (s : State). HasAllOpen (system t'.sources.sources) s t.obligations) (sym table)
      (subst (λ (z : ItemSources). HasAllOpen (system z.sources) t.table t.obligations) (sym sources) keeps.all));
}
