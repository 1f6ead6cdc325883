-- What a choice tells at each filling of the goal's holes.
use Rattle.std.proofs.Common.{◌≡◌, ◌≤◌, ◌+◌, ◌-◌, ◌++◌, map, inl, inr, ℕ, Bool, true, false, nat_eq, refl, sym, ap, ◌∙◌, subst, arith, []}
use Rattle.std.proofs.lemmas.Bool.{eqb-true, eqb-false}
use Rattle.goal_select.specs.Words.{TraitId, Goal, TraitRef, Term, apply, Solves, solves_left, State, bindings, Meets, Grew, RawFacts, Fill, IsRead, IsFilling, Aliases, ReadsAs, Kind, implements, projects, Asked, Rule, System, asked_at, key, IsKnown, is_among, OneIf, Each, Verdicts, Shadows, ShadowsNot, answers, known_below, Choice, IsTraitKind, IsDeep, IsOnlySource, SizeIsBy, Selects, concrete_read, trait_goal, IsSource, filled_goal, IsUnshadowed, MayHaveSource}
use Rattle.hir_types.specs.declared.goal.Goal.TheVariants as goal
use Rattle.goal_select.specs.Words.infer_table.Solutions.{log_of}
use Rattle.goal_select.proofs.Words.{log_of_append, each_map, AliasWithin, read_filled, read_reads, reads_within, answers_stay, shadows_not_filled, IsWithin, deeper, key_tells, not_refuted, answers_sound, answers_are_one, IsLevel, level}
use Rattle.goal_select.specs.Own.{Selected, known_goal, IsRightSource}
use Rattle.goal_select.proofs.Known.{known_filled}

-- ---- kinds

trait_kind : (t u : TraitId) (b : Bool) → nat_eq u.0 t.0 ≡ b → ((implements u ≡ implements t → ⊥) → ⊥) → implements u ≡ implements t
trait_kind t u true e h = let same = eqb-true u.0 t.0 e in λ i. implements (record { 0 = same i })
trait_kind t u false e h = absurd (h (λ same. eqb-false u.0 t.0 e (let number : u.0 ≡ t.0 = cc in number)))

-- what isn't of another kind than a trait's goal is of its kind
pub same_kind : (c d : Kind) → IsTraitKind c → ((d ≡ c → ⊥) → ⊥) → d ≡ c
same_kind (implements t) (implements u) is h = trait_kind t u (nat_eq u.0 t.0) refl h
same_kind (implements t) (projects k) is h = absurd (h (λ same. cc))
same_kind (projects k) d is h = absurd is

key_of_trait : (c : Kind) (w : Term) → IsTraitKind c → IsKnown w → IsKnown (key c w)
key_of_trait (implements t) w is h = h
key_of_trait (projects k) w is h = absurd is

-- ---- depths

pub within : (f : System) (n m : ℕ) → n ≤ m → IsWithin (answers f n) (answers f m)
within f n m le =
    let e : (m - n) + n ≡ m = omega (arith, le) in
    subst (λ k. IsWithin (answers f n) (answers f k)) e (deeper f n (m - n))

-- what isn't chosen for a size is only chosen where goals are answered
pub chosen_deep : (f : System) (n : ℕ) (g : Asked) (by : Choice) → Selects f n g by → (SizeIsBy f (answers f n).Alias (known_below f n) g.kind g.parts by → ⊥) → IsDeep n
chosen_deep f n g by selects none = by_kind (is_among f.sized g.kind) selects.source
  where
    by_kind : (b : Bool) → OneIf b ((answers f n).Yes g × SizeIsBy f (answers f n).Alias (known_below f n) g.kind g.parts by) (IsDeep n × IsOnlySource f (answers f n).Alias (known_below f n) g.kind g.parts by) → IsDeep n
    by_kind true h = absurd (none h.1)
    by_kind false h = h.0

-- ---- at a filling

module _ (raw : RawFacts) (f : System) (n : ℕ) (below : n ≤ raw.limits.goal_depth) (g : Asked) (by : Choice) (selects : Selects f n g by) (s : Fill) (filling : IsFilling s) where
  abbrev pub P : Aliases
  P = (answers f raw.limits.goal_depth).Alias

  abbrev A : Aliases
  A = (answers f n).Alias

  abbrev v : Verdicts
  v = known_below f n

  l : IsLevel A v
  l = level f n n

  pub more_aliases : AliasWithin A P
  more_aliases = (within f n raw.limits.goal_depth below).alias

  pub goal_read : IsRead (apply s g.parts)
  goal_read = read_filled s filling g.parts (concrete_read g.parts selects.selectable.concrete)

  pub goal_reads : ReadsAs P (apply s g.parts) (apply s g.parts)
  goal_reads = read_reads P (apply s g.parts) goal_read

  no_shadow : (r : Rule) → ShadowsNot A v g.kind (apply s g.parts) r → Shadows P g.kind (apply s g.parts) r → ⊥
  no_shadow r (inl m) h = m h.kind
  no_shadow r (inr m) h =
      not_refuted v l.stays (λ g. ⊥) (λ g y m. y) A l.alias_stays P (answers_sound f raw.limits.goal_depth).one (λ p t u x. reads_within A P more_aliases p t u x)
      r (key g.kind r.head.parts) (key g.kind (apply s g.parts)) [] h.at (key_tells g.kind r h.kind) h.head tt m

  pub unshadowed : Each (ShadowsNot A v g.kind g.parts) f.clauses → IsUnshadowed f P (asked_at s g)
  unshadowed free = (
    apply s g.parts,
    goal_reads,
    each_map (λ r m. no_shadow r (shadows_not_filled f s filling v (l.stays s filling) A (l.alias_stays s filling) g.kind g.parts (key_of_trait g.kind g.parts selects.selectable.trait_ selects.selectable.known) r m)) f.clauses free,
  )

  pub has_size : is_among f.sized g.kind ≡ true → (answers f raw.limits.goal_depth).Yes (asked_at s g)
  has_size e =
      let Size : Bool → Type 0 = λ b. OneIf b ((answers f n).Yes g × SizeIsBy f A v g.kind g.parts by) (IsDeep n × IsOnlySource f A v g.kind g.parts by) in
      let yes = (subst Size e selects.source).0 in
      (within f n raw.limits.goal_depth below).yes (asked_at s g) ((answers_stay f n s filling).yes g yes)

  pub sized : MayHaveSource raw f (asked_at s g)
  sized e none = (answers_are_one f raw.limits.goal_depth raw.limits.goal_depth).0 (asked_at s g) (has_size e) none

-- ---- the goal that was asked

pub meets_before : (before after : State) → Grew before after → (t : Fill) → Meets t after → Meets t before
meets_before before after grew t m =
    let bs = bindings before in
    let zs = grew.log.0 in
    let whole : Solves t (log_of bs ++ log_of zs) = subst (λ l. Solves t l) (ap log_of grew.log.1 ∙ log_of_append bs zs) m in
    solves_left t (log_of bs) (log_of zs) whole

-- one that comes to it has the source, at what meets the table
pub right_source : (raw : RawFacts) (f : System) (n : ℕ) → n ≤ raw.limits.goal_depth → (before after : State) (g : Goal) (k : TraitRef) → known_goal before g ≡ goal.Trait k → (by : Choice) → Selects f n (trait_goal k) by → Grew before after
    → (made : Selected)
    → ((t : Fill) → IsFilling t → Meets t after → IsSource raw f (answers f raw.limits.goal_depth).Alias t (asked_at t (trait_goal k)) made.source (map (filled_goal t) made.preds.items))
    → (t : Fill) → IsFilling t → Meets t after → IsRightSource raw f t g made.source made.preds.items
right_source raw f n below before after g k is by selects grew made source t filling m =
    let e : asked_at t (trait_goal k) ≡ filled_goal t g = sym (known_filled before g k is t (meets_before before after grew t m)) in
    record {
      source = subst (λ x. IsSource raw f (answers f raw.limits.goal_depth).Alias t x made.source (map (filled_goal t) made.preds.items)) e (source t filling m);
      sized = subst (MayHaveSource raw f) e (sized raw f n below (trait_goal k) by selects t filling);
      readable =
          let there = apply t (trait_goal k).parts in
          (there, subst (λ (x : Asked). ReadsAs (answers f raw.limits.goal_depth).Alias x.parts there) e (goal_reads raw f n below (trait_goal k) by selects t filling));
    }
