-- A goal without holes whose answer is Yes, as it is read.
use Rattle.std.specs.Prelude.{◌≡◌, ◌⊎◌, ◌+◌, ◌≤◌, ℕ, suc, refl}
use Rattle.std.proofs.Common.{inl, inr, sym, ◌∙◌, subst, arith}
use Rattle.goal_prove.specs.Words.{GenericDefId, Goal, Term, hole, RawFacts, ReadsAs, Asked, System, asked_at, YesAt, answers, known_below, HasHeads, Answer, Sources, asked_of, system, SystemHasHeads, Decides, asked_goal, IsSystemOf}
use Rattle.goal_prove.proofs.Words.{reads_one, reads_within, answers_sound, answers_are_one, reading_done, asked_itself, within}
use Rattle.goal_prove.specs.Words.goal_search.declared.answer.Answer.TheVariants as answer
use Rattle.goal_prove.specs.Words.goal_search.declared.sources.Asked.{Asked as SearchAsked}
use Rattle.goal_prove.specs.Own.{IsWritten, deep_alias, ReadsTo, IsAsked}
use Rattle.goal_prove.proofs.Holes.{whole_stays, written_whole}
use Rattle.goal_prove.proofs.Aliases.{aliases_good}
use Rattle.goal_prove.proofs.Below.{yes_as}
use Rattle.goal_prove.proofs.Typing.{goal_reads}

module _ (raw : RawFacts) (item : GenericDefId) (f : System) (of : IsSystemOf raw item f) (heads : SystemHasHeads f) (n : ℕ) (le : n ≤ raw.limits.goal_depth) (g : Goal) (written : IsWritten (asked_goal g).parts) (yes : (answers f n).Yes (asked_goal g)) where
  -- it reads as something
  pub reads_some : ((u : Term) → ReadsAs (answers f n).Alias (asked_goal g).parts u → ⊥) → ⊥
  reads_some none = let y = yes_as f n (asked_goal g) yes in none y.target y.reads

  module _ (w : Term) (reads : ReadsAs (answers f n).Alias (asked_goal g).parts w) where
    pub whole_reads : ReadsTo raw f g (asked_goal g).kind w
    whole_reads = record {
      kind = refl;
      reads = λ s filling. subst (λ t. ReadsAs (deep_alias raw f) t w) (sym (whole_stays s (asked_goal g).parts (written_whole (asked_goal g).parts written))) (reads_within (answers f n).Alias (deep_alias raw f) (within f n raw.limits.goal_depth le).alias hole (asked_goal g).parts w reads);
    }

    pub whole_asked : HasHeads (asked_goal g).parts → IsAsked raw f n (asked_goal g).kind w
    whole_asked h =
        let y = yes_as f n (asked_goal g) yes in
        let same : y.target ≡ w = reads_one (answers f n).Alias (answers_sound f n).one hole (asked_goal g).parts y.target w y.reads reads in
        record {
          done = reading_done f heads n hole (asked_goal g).parts w h (λ k o. record { read = tt; heads = tt }) reads;
          good = goal_reads (answers f n).Alias (aliases_good raw item f of n) g written w reads;
          yes = subst (YesAt f (answers f n).Alias (known_below f n) (asked_goal g).kind) same y.yes;
          deep = y.deep;
        }

-- ---- the answer

-- after one step more
pub answer_at : (f : System) (n m : ℕ) (g : Asked) (a : Answer) → m ≡ n + 1 → Decides ((known_below f m).Yes (asked_at hole g)) ((known_below f m).No (asked_at hole g)) a → Decides ((answers f n).Yes g) ((answers f n).No g) a
answer_at f n m g a e d =
    let step : m ≡ suc n = omega (arith, e) in
    let at = subst (λ (i : ℕ). Decides ((known_below f i).Yes (asked_at hole g)) ((known_below f i).No (asked_at hole g)) a) step d in
    subst (λ x. Decides ((answers f n).Yes x) ((answers f n).No x) a) (asked_itself g) at

-- what isn't Yes has no proof
pub not_proved : (f : System) (n : ℕ) (g : Asked) (a : Answer) → Decides ((answers f n).Yes g) ((answers f n).No g) a → (a ≡ answer.Yes → ⊥) → (answers f n).Yes g → ⊥
not_proved f n g answer.Yes d other y = other refl
not_proved f n g answer.No d other y = (answers_are_one f n n).0 g y d
not_proved f n g answer.Undecided d other y = d.0 y

-- the same of what was evaluated
pub answered : (s : Sources) (n m : ℕ) (x : SearchAsked) (g : Asked) (a : Answer) → asked_of x ≡ g → m ≡ n + 1 → Decides ((known_below (system s) m).Yes (asked_at hole (asked_of x))) ((known_below (system s) m).No (asked_at hole (asked_of x))) a → Decides ((answers (system s) n).Yes g) ((answers (system s) n).No g) a
answered s n m x g a is e d = subst (λ y. Decides ((answers (system s) n).Yes y) ((answers (system s) n).No y) a) is (answer_at (system s) n m (asked_of x) a e d)

pub is_other : (a : Answer) → (a ≡ answer.No) ⊎ (a ≡ answer.Undecided) → a ≡ answer.Yes → ⊥
is_other a (inl e) y = let clash : answer.No ≡ answer.Yes = sym e ∙ y in cc
is_other a (inr e) y = let clash : answer.Undecided ≡ answer.Yes = sym e ∙ y in cc
