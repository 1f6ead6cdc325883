-- What holds of all answers.
use Rattle.std.specs.Prelude.{◌≡◌, ℕ, suc, ◌+◌, false, slice_get, Option, Some}
use Rattle.goal_answers.specs.Words.{TypeAliasId, Term, apply}
use Rattle.goal_answers.specs.Reading.{Fill, IsFilling, Aliases}
use Rattle.goal_answers.specs.Goals.{Kind, Asked, Rule, System, asked_at, is_among}
use Rattle.goal_answers.specs.Rows.{CopyYes}
use Rattle.goal_answers.specs.Answers.{answers}
use Rattle.goal_answers.specs.Proofs.{IsSource, HasProof, Says}
use Rattle.goal_answers.specs.Selecting.{Choice, by_clause, by_rule, by_parts, by_size, Selects}

-- an answer at a goal with holes is that at each goal that fills them with types without aliases; and what an alias reads as
-- is filled alike
abbrev pub DecidedAnswersStay : Type 0
DecidedAnswersStay =
    (f : System) (n : ℕ) (s : Fill) → IsFilling s →
    ((g : Asked) → (answers f n).Yes g → (answers f n).Yes (asked_at s g))
    × ((g : Asked) → (answers f n).No g → (answers f n).No (asked_at s g))
    × ((k : TypeAliasId) (w u : Term) → (answers f n).Alias k w u → (answers f n).Alias k (apply s w) (apply s u))

-- an answer is that at each greater depth, and so is what an alias reads as
abbrev pub DeeperAnswersAgree : Type 0
DeeperAnswersAgree =
    (f : System) (n m : ℕ) →
    ((g : Asked) → (answers f n).Yes g → (answers f (m + n)).Yes g)
    × ((g : Asked) → (answers f n).No g → (answers f (m + n)).No g)
    × ((k : TypeAliasId) (w u : Term) → (answers f n).Alias k w u → (answers f (m + n)).Alias k w u)

-- no goal is answered both, at whatever depths, and an alias reads as one thing
abbrev pub AnswersAreOne : Type 0
AnswersAreOne =
    (f : System) (n m : ℕ) →
    ((g : Asked) → (answers f n).Yes g → (answers f m).No g → ⊥)
    × ((k : TypeAliasId) (w u u' : Term) → (answers f n).Alias k w u → (answers f m).Alias k w u' → u ≡ u')

-- by this source. By a clause nothing is said, since it comes before rules that might have proved the goal too
abbrev pub IsProvedThrough : System → Aliases → (Asked → Type 0) → Kind → Term → Choice → Type 0
IsProvedThrough f P Proved c w (by_clause i) = Unit {0}
IsProvedThrough f P Proved c w (by_rule i) = (r : Rule) × (slice_get f.rules i ≡ Some r) × IsSource P Proved c w r
IsProvedThrough f P Proved c w by_parts = CopyYes f Proved c w
IsProvedThrough f P Proved c w by_size = Unit {0}

-- a goal that a rule selects has no other source at any filling without aliases: whatever proof it has there is by that rule,
-- under any table that says what aliases read as at that depth, and of others what it will. The same of one whose parts are copied
abbrev pub SelectedIsTheSource : Type 0
SelectedIsTheSource =
    (f : System) (n : ℕ) (table : TypeAliasId → Term → Option Term) →
    ((k : TypeAliasId) (w u : Term) → (answers f n).Alias k w u → Says table k w u) →
    (g : Asked) (by : Choice) → Selects f n g by → (is_among f.sized g.kind ≡ false) →
    (s : Fill) → IsFilling s → (height : ℕ) → HasProof f (Says table) (suc height) (asked_at s g) →
    IsProvedThrough f (Says table) (HasProof f (Says table) height) g.kind (apply s g.parts) by
