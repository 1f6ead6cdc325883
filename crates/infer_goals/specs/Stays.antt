-- What stays of a table of goals while holes are made and bound.
use Rattle.std.specs.Prelude.{◌≡◌, true, [], refl}
use Rattle.std.proofs.Common.{sym, ap, ◌∙◌, subst}
use Rattle.infer_goals.specs.Words.{GenericDefId, RawFacts, State, Grew, system, ItemSources}
use Rattle.infer_goals.specs.declared.obligations.Obligations.{Obligations}
use Rattle.infer_goals.specs.declared.table.GoalTable.{GoalTable}
use Rattle.infer_goals.specs.Kept.{kept_grows, all_grows}
use Rattle.infer_goals.specs.Obligations.{AreKept, HasAllOpen}

-- the table of holes alone may change
pub record StaysButHoles (t t' : GoalTable) : Type 0 where
  pub bounded : t'.bounded ≡ t.bounded
  pub sources : t'.sources ≡ t.sources
  pub obligations : t'.obligations ≡ t.obligations
  pub told : t'.told ≡ t.told
  pub uses : t'.uses ≡ t.uses
  pub projections : t'.projections ≡ t.projections

-- no goal of the item was registered yet, whatever is known of holes
pub record IsUnused (raw : RawFacts) (item : GenericDefId) (t : GoalTable) : Type 0 where
  pub facts : t.sources.facts ≡ raw
  pub scope : t.sources.item ≡ item
  pub bounded : t.bounded ≡ true
  pub kept : AreKept t.sources.facts (system t.sources.sources) t.table t.obligations
  pub all : HasAllOpen (system t.sources.sources) t.table t.obligations
  pub obligations : t.obligations.tree.obligations.items ≡ []
  pub proofs : t.obligations.tree.proofs.items ≡ []
  pub selected : t.obligations.selected ≡ 0

-- ---- one after another

pub stays_itself : (t : GoalTable) → StaysButHoles t t
stays_itself t = record { bounded = refl; sources = refl; obligations = refl; told = refl; uses = refl; projections = refl }

pub stays_with : (t : GoalTable) (s : State) → StaysButHoles t (record t { table = s })
stays_with t s = record { bounded = refl; sources = refl; obligations = refl; told = refl; uses = refl; projections = refl }

pub stays_twice : (x y z : GoalTable) → StaysButHoles x y → StaysButHoles y z → StaysButHoles x z
stays_twice x y z h k = record {
  bounded = k.bounded ∙ h.bounded;
  sources = k.sources ∙ h.sources;
  obligations = k.obligations ∙ h.obligations;
  told = k.told ∙ h.told;
  uses = k.uses ∙ h.uses;
  projections = k.projections ∙ h.projections;
}

-- what is kept of the goals is kept where holes alone were made and bound
pub kept_still : (t t' : GoalTable) → AreKept t.sources.facts (system t.sources.sources) t.table t.obligations → StaysButHoles t t'
    → Grew t.table t'.table
    → AreKept t'.sources.facts (system t'.sources.sources) t'.table t'.obligations
kept_still t t' kept stays grew =
    let f = system t.sources.sources in
    let later : AreKept t.sources.facts f t'.table t.obligations = kept_grows t.sources.facts f t.table t'.table t.obligations kept grew in
    let same : AreKept t'.sources.facts (system t'.sources.sources) t'.table t.obligations =
    subst (λ (z : ItemSources). AreKept z.facts (system z.sources) t'.table t.obligations) (sym stays.sources) later in
    subst (λ (o : Obligations). AreKept t'.sources.facts (system t'.sources.sources) t'.table o) (sym stays.obligations) same

-- so it is of what is to be looked at
pub all_still : (t t' : GoalTable) → HasAllOpen (system t.sources.sources) t.table t.obligations → StaysButHoles t t'
    → Grew t.table t'.table → HasAllOpen (system t'.sources.sources) t'.table t'.obligations
all_still t t' all stays grew =
    let later : HasAllOpen (system t.sources.sources) t'.table t.obligations =
    all_grows (system t.sources.sources) t.table t'.table t.obligations all grew in
    let same : HasAllOpen (system t'.sources.sources) t'.table t.obligations =
    subst (λ (z : ItemSources). HasAllOpen (system z.sources) t'.table t.obligations) (sym stays.sources) later in
    subst (λ (o : Obligations). HasAllOpen (system t'.sources.sources) t'.table o) (sym stays.obligations) same

pub unused_still : (raw : RawFacts) (item : GenericDefId) (t t' : GoalTable) → IsUnused raw item t → StaysButHoles t t'
    → Grew t.table t'.table → IsUnused raw item t'
unused_still raw item t t' h stays grew = record {
  facts = ap (λ (z : ItemSources). z.facts) stays.sources ∙ h.facts;
  scope = ap (λ (z : ItemSources). z.item) stays.sources ∙ h.scope;
  bounded = stays.bounded ∙ h.bounded;
  kept = kept_still t t' h.kept stays grew;
  all = all_still t t' h.all stays grew;
  obligations = ap (λ (o : Obligations). o.tree.obligations.items) stays.obligations ∙ h.obligations;
  proofs = ap (λ (o : Obligations). o.tree.proofs.items) stays.obligations ∙ h.proofs;
  selected = ap (λ (o : Obligations). o.selected) stays.obligations ∙ h.selected;
}
