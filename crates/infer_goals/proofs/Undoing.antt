-- What is kept of the goals is kept where all is gone back.
use Rattle.std.proofs.Common.{◌≡◌, Bool, ℕ, ◌≤◌, List, [], sym, ◌∙◌, ap, subst, append-nil}
use Rattle.infer_goals.specs.Words.{Snapshot, State, IsFront, IsBack, Grew, IsTakenIn, Undoes, Waiting, system, ItemSources}
use Rattle.infer_goals.specs.Own.{Obligations, GoalTable, IsCopied, kept_grows, all_grows, AreKept, HasAllOpen, GoesOn, GoesBack}
use Rattle.infer_goals.proofs.Copying.{copied_kept, copied_all}

front_same : {X : Type 0} (xs ys : List X) → ys ≡ xs → IsFront xs ys
front_same xs ys e = ([], e ∙ sym (append-nil xs))

-- but for the holes that were made, nothing came
grew_back : (before after : State) → IsBack before after → Grew before after
grew_back s t back = record {
  kinds = back.kinds;
  log = front_same s.substitution.log t.substitution.log back.log;
  made = front_same s.pairs.made t.pairs.made (ap (λ (p : Waiting). p.made) back.pairs);
  taken = front_same s.pairs.taken t.pairs.taken (ap (λ (p : Waiting). p.taken) back.pairs);
  diverging = front_same s.diverging t.diverging back.diverging;
}

-- however many are counted
counted_copied : (o u : Obligations) (n : ℕ) → IsCopied o u → IsCopied o (record u { selected = n })
counted_copied o u n same = record { tree = same.tree; todo = same.todo; asleep = same.asleep }

-- what a snapshot holds is put back
pub goes_back : (before during after : GoalTable) (m : Snapshot) (bounded : Bool) (o : Obligations) → IsTakenIn m before.table → IsCopied before.obligations o → bounded ≡ before.bounded → GoesOn before during
    → Undoes m during.table after.table → after.table.substitution.kinds ≡ during.table.substitution.kinds → after.bounded ≡ bounded → after.sources ≡ during.sources
    → after.obligations ≡ record o { selected = during.obligations.selected } → after.told ≡ during.told
    → after.uses.items ≡ before.uses.items → after.projections.items ≡ before.projections.items → GoesBack before during after
goes_back before during after m bounded o taken copied was on undone kinds is sources put told uses projections = record {
  table = record { back = undone before.table taken on.table; kinds = kinds };
  bounded = is ∙ was;
  sources = sources ∙ on.sources;
  obligations = subst (IsCopied before.obligations) (sym put) (counted_copied before.obligations o during.obligations.selected copied);
  selected = ap (λ (z : Obligations). z.selected) put;
  told = told;
  uses = uses;
  projections = projections;
}

module _ (before during after : GoalTable) (on : GoesOn before during) (back : GoesBack before during after) where
  grew : Grew before.table after.table
  grew = grew_back before.table after.table back.table.back

  -- by what the closure may select
  few : after.obligations.selected ≤ before.sources.facts.limits.goal_steps
  few = subst (λ n. n ≤ before.sources.facts.limits.goal_steps) (sym back.selected) (subst (λ (z : ItemSources). during.obligations.selected ≤ z.facts.limits.goal_steps) on.sources on.selected)

  pub kept_back : AreKept before.sources.facts (system before.sources.sources) before.table before.obligations
      → AreKept after.sources.facts (system after.sources.sources) after.table after.obligations
  kept_back kept =
      let raw = before.sources.facts in
      let f = system before.sources.sources in
      let later = kept_grows raw f before.table after.table before.obligations kept grew in
      let copied = copied_kept f before.obligations after.obligations back.obligations raw after.table few later in
      subst (λ (z : ItemSources). AreKept z.facts (system z.sources) after.table after.obligations) (sym back.sources) copied

  pub all_back : HasAllOpen (system before.sources.sources) before.table before.obligations → HasAllOpen (system after.sources.sources) after.table after.obligations
  all_back all =
      let f = system before.sources.sources in
      let later = all_grows f before.table after.table before.obligations all grew in
      let copied = copied_all f before.obligations after.obligations back.obligations after.table later in
      subst (λ (z : ItemSources). HasAllOpen (system z.sources) after.table after.obligations) (sym back.sources) copied
