-- What is kept of obligations while their table grows.
use Rattle.std.specs.Prelude.{List, ◌++◌}
use Rattle.std.proofs.Common.{sym, ap, ◌∙◌, subst, append_assoc}
use Rattle.std.proofs.lemmas.List.{map-append}
use Rattle.infer_goals.specs.Words.{Goal, HoleKind, RawFacts, Binding, solves_left, are_of_more, Log, Solves, AreOf, State, bindings, Meets, IsFront, Grew, Fill, System, asked_goal, GoalIsOf}
use Rattle.infer_goals.specs.Words.infer_table.Solutions.{log_of}
use Rattle.infer_goals.specs.declared.obligations.Obligations.{Obligations}
use Rattle.infer_goals.specs.Obligations.{AreKept, HasAllOpen}

pub meets_earlier : (before after : State) → Grew before after → (s : Fill) → Meets s after → Meets s before
meets_earlier before after grew s m =
    let P : List Binding → Type 0 = λ bs. Solves s (log_of bs) in
    let Q : Log → Type 0 = Solves s in
    let more = grew.log.0 in
    solves_left s (log_of (bindings before)) (log_of more) (subst Q (map-append _ (bindings before) more) (subst P grew.log.1 m))

pub goal_later : (before after : State) → Grew before after → (g : Goal) → GoalIsOf before g → GoalIsOf after g
goal_later before after grew g h =
    let P : List HoleKind → Type 0 = λ kinds. AreOf kinds (asked_goal g).parts in
    subst P (sym grew.kinds.1) (are_of_more before.substitution.kinds grew.kinds.0 (asked_goal g).parts h)

-- where the table alone grew
pub kept_grows : (raw : RawFacts) (f : System) (s s' : State) (o : Obligations) → AreKept raw f s o → Grew s s' → AreKept raw f s' o
kept_grows raw f s s' o kept grew = record {
  tree = kept.tree;
  goals = λ i x e. goal_later s s' grew x.goal (kept.goals i x e);
  depths = kept.depths;
  right = λ z filling m. kept.right z filling (meets_earlier s s' grew z m);
  selected = kept.selected;
}

front_then : {X : Type 0} (xs ys zs : List X) → IsFront xs ys → IsFront ys zs → IsFront xs zs
front_then xs ys zs f g = (f.0 ++ g.0, g.1 ∙ ap (λ us. us ++ g.0) f.1 ∙ append_assoc xs f.0 g.0)

grew_then : (s t u : State) → Grew s t → Grew t u → Grew s u
grew_then s t u f g = record {
  kinds = front_then s.substitution.kinds t.substitution.kinds u.substitution.kinds f.kinds g.kinds;
  log = front_then s.substitution.log t.substitution.log u.substitution.log f.log g.log;
  made = front_then s.pairs.made t.pairs.made u.pairs.made f.made g.made;
  taken = front_then s.pairs.taken t.pairs.taken u.pairs.taken f.taken g.taken;
  diverging = front_then s.diverging t.diverging u.diverging f.diverging g.diverging;
}

-- what is to be looked at, and what sleeps till more is known, is so then too
pub all_grows : (f : System) (s s' : State) (o : Obligations) → HasAllOpen f s o → Grew s s' → HasAllOpen f s' o
all_grows f s s' o all grew = record { earlier = all.earlier; grew = grew_then all.earlier s s' all.grew grew; since = all.since }
