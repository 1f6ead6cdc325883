-- A goal has no proof but by the source that it is selected by.
use Rattle.std.proofs.Common.{◌≡◌, inl, inr, ℕ, zero, suc, Bool, false, refl, sym, ◌∙◌, subst, arith, List, [], ◌∷◌, slice_get, Some}
use Rattle.std.proofs.lemmas.Option.{same_Some}
use Rattle.goal_answers.specs.Words.{Head, Term, hole, leaf, pair, apply}
use Rattle.hir_types.specs.declared.head.Head.TheVariants as head
use Rattle.goal_answers.specs.Own.{Fill, Aliases, role, IsReadLeaf, IsRead, IsFilling, Kind, implements, projects, Asked, Rule, System, key, IsKnown, self_type, only, is_among, OneIf, Each, SomeOf, Verdicts, CopyYes, CopyNo, SizedYes, RuleIsRefuted, ShadowsNot, answers, known_below, Choice, by_clause, by_rule, by_parts, by_size, IsConcreteHead, IsConcrete, IsTraitKind, IsOnlySource, SizeIsBy, IsDeep, IsOne, IsSource, HasProof, IsProvedThrough, SelectedIsTheSource}
use Rattle.goal_answers.specs.Proofs.{HasSource}
use Rattle.goal_answers.proofs.Lists.{each_map, some_each}
use Rattle.goal_answers.proofs.Readings.{AliasWithin, read_filled, read_reads, reads_within, reads_one}
use Rattle.goal_answers.proofs.Filled.{rule_refuted_filled, shadows_not_filled, copy_no_filled}
use Rattle.goal_answers.proofs.Deeper.{one_deeper}
use Rattle.goal_answers.proofs.One.{Never, key_tells, not_refuted, copy_or}
use Rattle.goal_answers.proofs.Proved.{IsProvedBy, refuted_source, no_has_none}
use Rattle.goal_answers.proofs.Levels.{IsLevel, level}

-- ---- concrete goals about traits

concrete_head_is_read : (h : Head) → IsConcreteHead h → IsReadLeaf (role (leaf h))
concrete_head_is_read (head.Projection k) c = absurd c
concrete_head_is_read _ c = tt

pub concrete_is_read : (t : Term) → IsConcrete t → IsRead t
concrete_is_read (hole k) c = tt
concrete_is_read (leaf h) c = concrete_head_is_read h c
concrete_is_read (pair a b) c = (concrete_is_read a c.0, concrete_is_read b c.1)

key_known : (c : Kind) (w : Term) → IsTraitKind c → IsKnown w → IsKnown (key c w)
key_known (implements t) w is h = h
key_known (projects k) w is h = absurd is

-- what isn't about a size is proved by a source
proved_by_source : (f : System) (P : Aliases) (Proved : Asked → Type 0) (c : Kind) (w : Term) → IsTraitKind c → (is_among f.sized c ≡ false) → IsProvedBy f P Proved c w → HasSource f P Proved c w
proved_by_source f P Proved (projects k) w is e h = absurd is
proved_by_source f P Proved (implements t) w is e (inl h) = absurd h
proved_by_source f P Proved (implements t) w is e (inr h) =
    subst (λ (b : Bool). OneIf b (SizedYes f P (λ u. HasSource f P Proved (implements t) (only u)) f.tail (self_type w)) (HasSource f P Proved (implements t) w)) e h

-- ---- the one at a place

none_at_all : {X : Type 0} (P : X → Type 0) (xs : List X) → ((j : ℕ) (x : X) → slice_get xs j ≡ Some x → P x → ⊥) → SomeOf P xs → ⊥
none_at_all P [] none h = h
none_at_all P (x ∷ xs) none (inl h) = none zero x refl h
none_at_all P (x ∷ xs) none (inr h) = none_at_all P xs (λ j y. none (suc j) y) h

-- what holds of some, but of none elsewhere, holds there
some_is_there : {X : Type 0} (P : X → Type 0) (xs : List X) (i : ℕ) → ((j : ℕ) (x : X) → slice_get xs j ≡ Some x → (j ≡ i → ⊥) → P x → ⊥) → SomeOf P xs → (x : X) × (slice_get xs i ≡ Some x) × P x
some_is_there P [] i others h = absurd h
some_is_there P (x ∷ xs) zero others (inl h) = (x, refl, h)
some_is_there P (x ∷ xs) zero others (inr h) = absurd (none_at_all P xs (λ j y e. others (suc j) y e (λ same. omega (arith, same))) h)
some_is_there P (x ∷ xs) (suc i) others (inl h) = absurd (others zero x refl (λ same. omega (arith, same)) h)
some_is_there P (x ∷ xs) (suc i) others (inr h) = some_is_there P xs i (λ j y e apart. others (suc j) y e (λ same. apart (omega (arith, same)))) h

-- ---- one filling

-- what is answered No below the depth has no proof
below_unproved : (f : System) (P : Aliases) → IsOne P → (n height : ℕ) → AliasWithin (answers f n).Alias P → Never (HasProof f P height) (known_below f n)
below_unproved f P one zero height i g y m = m
below_unproved f P one (suc n) height i g y m = no_has_none f P one n height (λ k w u a. i k w u ((one_deeper f n).alias k w u a)) g y m

module _ (f : System) (n : ℕ) (P : Aliases) (one : IsOne P) (i : AliasWithin (answers f n).Alias P) (s : Fill) (filling : IsFilling s) (height : ℕ) where
  abbrev A : Aliases
  A = (answers f n).Alias

  abbrev v : Verdicts
  v = known_below f n

  abbrev Proved : Asked → Type 0
  Proved = HasProof f P height

  never : Never Proved v
  never = below_unproved f P one n height i

  l : IsLevel A v
  l = level f n n

  -- a clause of a trait that shadows nothing is no source
  hidden_source : (c : Kind) (w : Term) (r : Rule) → IsTraitKind c → IsSource P Proved c w r → ShadowsNot A v c w r → ⊥
  hidden_source c w r is h (inl m) = m h.kind
  hidden_source (projects k) w r is h (inr m) = is
  hidden_source (implements t) w r is h (inr m) =
      not_refuted v l.stays Proved never A l.alias_stays P one (λ p t u x. reads_within A P i p t u x) r r.head.parts w [] h.at (key_tells (implements t) r h.kind) h.head tt m

  module _ (c : Kind) (w : Term) (is : IsTraitKind c) (known : IsKnown w) where
    abbrev there : Term
    there = apply s w

    no_clause : Each (ShadowsNot A v c w) f.clauses → SomeOf (IsSource P Proved c there) f.clauses → ⊥
    no_clause h y =
        some_each (λ r x m. hidden_source c there r is x m) f.clauses y
        (each_map (shadows_not_filled f s filling v (l.stays s filling) A (l.alias_stays s filling) c w (key_known c w is known)) f.clauses h)

    no_rule : (r : Rule) → IsSource P Proved c there r → RuleIsRefuted A v c w r → ⊥
    no_rule r y m =
        refuted_source f P one v l.stays A l.alias_stays i Proved never c there r y (rule_refuted_filled f s filling v (l.stays s filling) A (l.alias_stays s filling) c w r m)

    no_copy : CopyYes f Proved c there → CopyNo f v.No c w → ⊥
    no_copy y m =
        copy_or f Proved v.No never c there y (copy_no_filled f s filling v (l.stays s filling) A (l.alias_stays s filling) c w (key_known c w is known) m)

    pub only_through : (by : Choice) → IsOnlySource f A v c w by → HasSource f P Proved c there → IsProvedThrough f P Proved c there by
    only_through (by_clause j) o h = tt
    only_through (by_rule j) o (inl h) = absurd (no_clause o.0 h)
    only_through (by_rule j) o (inr (free, inl h)) = some_is_there (IsSource P Proved c there) f.rules j (λ m r e apart y. no_rule r y (o.2.others m r e apart)) h
    only_through (by_rule j) o (inr (free, inr h)) = absurd (no_copy h o.1)
    only_through by_parts o (inl h) = absurd (no_clause o.0 h)
    only_through by_parts o (inr (free, inl h)) = absurd (some_each no_rule f.rules h o.1)
    only_through by_parts o (inr (free, inr h)) = h
    only_through by_size o h = tt

pub selected_is_the_source : SelectedIsTheSource
selected_is_the_source f n table says g by selects unsized s filling height h =
    let P : Aliases = λ k w u. table k w ≡ Some u in
    let one : IsOne P = λ k w u u' a b. same_Some u u' (sym a ∙ b) in
    let there = apply s g.parts in
    let reads = read_reads P there (read_filled s filling g.parts (concrete_is_read g.parts selects.selectable.concrete)) in
    let e = reads_one P one hole there h.0 there h.1 reads in
    let source = proved_by_source f P (HasProof f P height) g.kind h.0 selects.selectable.trait_ unsized h.2 in
    let A = (answers f n).Alias in
    let v = known_below f n in
    let chosen = subst (λ (b : Bool). OneIf b ((answers f n).Yes g × SizeIsBy f A v g.kind g.parts by) (IsDeep n × IsOnlySource f A v g.kind g.parts by)) unsized selects.source in
    only_through f n P one says s filling height g.kind g.parts selects.selectable.trait_ selects.selectable.known by chosen.1
    (subst (HasSource f P (HasProof f P height) g.kind) e source)
