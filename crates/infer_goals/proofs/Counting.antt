-- Under a bound what was selected is counted.
use Rattle.std.proofs.Common.{◌≡◌, ◌∙◌, ◌⊎◌, inl, inr, ◌+◌, ◌≤◌, ◌<◌, ℕ, zero, suc, refl, sym, ap, subst, arith, true≢false, List, [], ◌∷◌, ◌++◌, length, Option, Some, None, slice_get, Bool, true, false, if◌then◌else◌}
use Rattle.std.proofs.lemmas.Option.{slice_get_past}
use Rattle.infer_goals.specs.Words.{RawFacts, State, System, ProofSource, Obligation, Standing, GoalTree, IsTree, opens}
use Rattle.goal_tree.specs.declared.obligation.Standing.TheVariants as standing
use Rattle.goal_tree.specs.Trees.{HasSource}
use Rattle.infer_goals.specs.Own.{Obligations, IsStep, AreSteps, Went, has_source, sourced, AreCounted}

-- ---- counts of two lists that have sources at the same numbers, or at one more

abbrev there_is : Option Standing → Bool
there_is None = false
there_is (Some s) = has_source s

abbrev one_if : Bool → ℕ → ℕ
one_if b n = if b then suc n else n

none_sourced : (ss : List Standing) → ((i : ℕ) → there_is (slice_get ss i) ≡ false) → sourced ss ≡ 0
none_sourced [] h = refl
none_sourced (s ∷ ss) h = ap (λ b. one_if b (sourced ss)) (h 0) ∙ none_sourced ss (λ i. h (suc i))

as_many_sourced : (ss us : List Standing) → ((i : ℕ) → there_is (slice_get us i) ≡ there_is (slice_get ss i)) → sourced us ≡ sourced ss
as_many_sourced [] us h = none_sourced us h
as_many_sourced (s ∷ ss) [] h = sym (none_sourced (s ∷ ss) (λ i. sym (h i)))
as_many_sourced (s ∷ ss) (u ∷ us) h = ap (λ b. one_if b (sourced us)) (h 0) ∙ ap (one_if (has_source s)) (as_many_sourced ss us (λ i. h (suc i)))

one_if_more : (b : Bool) (n : ℕ) → one_if b (suc n) ≡ suc (one_if b n)
one_if_more true n = refl
one_if_more false n = refl

one_more : (ss us : List Standing) (at : ℕ) → there_is (slice_get ss at) ≡ false → there_is (slice_get us at) ≡ true → ((i : ℕ) → (i ≡ at → ⊥) → there_is (slice_get us i) ≡ there_is (slice_get ss i)) → sourced us ≡ suc (sourced ss)
one_more ss [] at was is same = absurd (true≢false (sym is))
one_more [] (u ∷ us) zero was is same = ap (λ b. one_if b (sourced us)) is ∙ ap suc (none_sourced us (λ i. same (suc i) (λ e. cc)))
one_more [] (u ∷ us) (suc at) was is same =
    ap (λ b. one_if b (sourced us)) (same 0 (λ e. cc)) ∙ one_more [] us at refl is (λ i other. same (suc i) (λ e. other (omega arith)))
one_more (s ∷ ss) (u ∷ us) zero was is same =
    ap (λ b. one_if b (sourced us)) is ∙ (ap suc (as_many_sourced ss us (λ i. same (suc i) (λ e. cc))) ∙ ap (λ b. suc (one_if b (sourced ss))) (sym was))
one_more (s ∷ ss) (u ∷ us) (suc at) was is same =
    ap (λ b. one_if b (sourced us)) (same 0 (λ e. cc))
    ∙ (ap (one_if (has_source s)) (one_more ss us at was is (λ i other. same (suc i) (λ e. other (omega arith)))) ∙ one_if_more (has_source s) (sourced ss))

-- ---- steps

has_one : (t : GoalTree) (i m n : ℕ) (src : ProofSource) → HasSource t i src m n → there_is (slice_get t.standings.items i) ≡ true
has_one t i m n src (inl h) = ap there_is h
has_one t i m n src (inr h) = ap there_is h.proved

module _ (raw : RawFacts) (f : System) where
  module _ (s : State) (t : GoalTree) (s' : State) (t' : GoalTree) (step : IsStep raw f s t s' t') (as_many : length t.standings.items ≡ length t.obligations.items) where
    -- behind what was there all is open, and then there is nothing
    new_has_none : (i : ℕ) → length t.obligations.items ≤ i → there_is (slice_get t'.standings.items i) ≡ false
    new_has_none i from = elim (within_or_not (length t'.obligations.items)) [
      | inl within ↦ ap there_is (step.by.new_open i from within)
      | inr past ↦ (let e = step.as_many in ap there_is (slice_get_past t'.standings.items i (omega (arith, past, e))))
    ]
      where
        within_or_not : (n : ℕ) → (i < n) ⊎ (n ≤ i)
        within_or_not n = grind arith

    others_same : (i : ℕ) → (i ≡ step.at → ⊥) → (o : Option Standing) → slice_get t.standings.items i ≡ o → there_is (slice_get t'.standings.items i) ≡ there_is o
    others_same i other None e = new_has_none i (subst (λ n. n ≤ i) as_many (past t.standings.items i e))
      where
        past : (ss : List Standing) (j : ℕ) → slice_get ss j ≡ None → length ss ≤ j
        past [] j e = omega arith
        past (x ∷ ss) zero e = cc
        past (x ∷ ss) (suc j) e = (let less = past ss j e in omega (arith, less))
    others_same i other (Some standing.Open) e = ap there_is (step.by.still_open i other e)
    others_same i other (Some (standing.Selected src m n)) e = has_one t' i m n src (step.by.later.sources i m n src (inl e))
    others_same i other (Some (standing.Proved k m n)) e = ap there_is (step.by.later.proved i k m n e)

    step_sourced : sourced t'.standings.items ≡ suc (sourced t.standings.items)
    step_sourced =
        one_more t.standings.items t'.standings.items step.at (ap there_is step.is_open)
        (has_one t' step.at (length t.obligations.items) (length step.made.preds.items) step.made.source step.by.source)
        (λ i other. others_same i other (slice_get t.standings.items i) refl)

  steps_sourced : (us : List (State × GoalTree)) (s : State) (t : GoalTree) (s' : State) (t' : GoalTree) → AreSteps raw f us s t s' t' → length t.standings.items ≡ length t.obligations.items → sourced t'.standings.items ≡ length us + sourced t.standings.items
  steps_sourced [] s t s' t' a as_many = (let same = ap (λ (z : GoalTree). sourced z.standings.items) a.1 in omega (arith, same))
  steps_sourced (u ∷ us) s t s' t' a as_many =
      let later = steps_sourced us u.0 u.1 s' t' a.1 a.0.as_many in
      let first = step_sourced s t u.0 u.1 a.0 as_many in
      omega (arith, later, first)

  -- each counts
  pub went_counted : (s : State) (o : Obligations) (s' : State) (o' : Obligations) → Went raw f true s o s' o' → IsTree o.tree → AreCounted o → AreCounted o'
  went_counted s o s' o' went tree counted_ =
      let later = steps_sourced went.states s o.tree s' o'.tree went.steps tree.as_many in
      let count = went.selected in
      omega (arith, later, count, counted_)

-- ---- where none was selected

-- of those that are asked as well none is counted
pub asked_counted : (ss : List Standing) (os : List Obligation) → sourced (ss ++ opens os) ≡ sourced ss
asked_counted [] [] = refl
asked_counted [] (o ∷ os) = asked_counted [] os
asked_counted (s ∷ ss) os = ap (one_if (has_source s)) (asked_counted ss os)

-- there is none
pub none_counted : (t : GoalTree) → IsTree t → t.obligations.items ≡ [] → sourced t.standings.items ≡ 0
none_counted t tree none = no_standing t.standings.items (tree.as_many ∙ ap length none)
  where
    no_standing : (ss : List Standing) → length ss ≡ 0 → sourced ss ≡ 0
    no_standing [] e = refl
    no_standing (s ∷ ss) e = cc
