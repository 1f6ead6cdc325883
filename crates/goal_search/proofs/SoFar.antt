-- What the elements before an index decide.
use Rattle.std.proofs.Common.{◌≡◌, ℕ, ◌+◌, ◌<◌, ◌≤◌, List, [], ◌∷◌, ◌++◌, length, take, get_or, Option, Some, None}
use Rattle.goal_search.specs.Words.{TypeAliasId, Term, Each, SomeOf, OneOf, Verdicts, Gives, GivesNone}
use Rattle.goal_search.proofs.Words.{each_more, each_at, each_all, none_of}
use Rattle.goal_search.specs.Own.{Answer, Rule, rule_of, Decides}
use Rattle.goal_search.specs.declared.answer.Answer.TheVariants as answer

-- as the question whether one is so, or all are not, or neither
abbrev pub AnySoFar : {X : Type 0} → (X → Type 0) → (X → Type 0) → List X → ℕ → Answer → Type 0
AnySoFar Y N xs i answer.Yes = ⊥
AnySoFar Y N xs i answer.No = Each (λ x. Y x → ⊥) (take i xs) × Each N (take i xs)
AnySoFar Y N xs i answer.Undecided = Each (λ x. Y x → ⊥) (take i xs) × (Each N xs → ⊥)

-- as the question whether all are so, or one is not, or neither
abbrev pub AllSoFar : {X : Type 0} → (X → Type 0) → (X → Type 0) → List X → ℕ → Answer → Type 0
AllSoFar Y N xs i answer.Yes = Each (λ x. N x → ⊥) (take i xs) × Each Y (take i xs)
AllSoFar Y N xs i answer.No = ⊥
AllSoFar Y N xs i answer.Undecided = Each (λ x. N x → ⊥) (take i xs) × (Each Y xs → ⊥)

-- one gives the type, or none gives any
abbrev pub GivenSoFar : Verdicts → TypeAliasId → Term → List Rule → ℕ → Option Term → Type 0
GivenSoFar v k w rs i (Some u) = OneOf (λ r. Gives v k w u (rule_of r)) (λ r. GivesNone v k w (rule_of r)) (take i rs)
GivenSoFar v k w rs i None = Each (λ r. GivesNone v k w (rule_of r)) (take i rs)

module _ {X : Type 0} (Y N : X → Type 0) (xs : List X) (i : ℕ) where
  module _ (x : X) (within : i < length xs) (is : x ≡ get_or xs i x) where
    pub any_no : (a : Answer) → (Y x → N x → ⊥) → N x → AnySoFar Y N xs i a → AnySoFar Y N xs (i + 1) a
    any_no answer.Yes d n h = h
    any_no answer.No d n h = (each_more (λ y. Y y → ⊥) xs i x within is h.0 (λ y. d y n), each_more N xs i x within is h.1 n)
    any_no answer.Undecided d n h = (each_more (λ y. Y y → ⊥) xs i x within is h.0 (λ y. d y n), h.1)

    pub any_open : (a : Answer) → (Y x → ⊥) → (N x → ⊥) → AnySoFar Y N xs i a → AnySoFar Y N xs (i + 1) answer.Undecided
    any_open answer.Yes y n h = absurd h
    any_open answer.No y n h = (each_more (λ y. Y y → ⊥) xs i x within is h.0 y, λ e. n (each_at N xs i x within is e))
    any_open answer.Undecided y n h = (each_more (λ y. Y y → ⊥) xs i x within is h.0 y, h.1)

    pub all_yes : (a : Answer) → (Y x → N x → ⊥) → Y x → AllSoFar Y N xs i a → AllSoFar Y N xs (i + 1) a
    all_yes answer.Yes d y h = (each_more (λ z. N z → ⊥) xs i x within is h.0 (λ n. d y n), each_more Y xs i x within is h.1 y)
    all_yes answer.No d y h = h
    all_yes answer.Undecided d y h = (each_more (λ z. N z → ⊥) xs i x within is h.0 (λ n. d y n), h.1)

    pub all_open : (a : Answer) → (Y x → ⊥) × (N x → ⊥) → AllSoFar Y N xs i a → AllSoFar Y N xs (i + 1) answer.Undecided
    all_open answer.Yes o h = (each_more (λ z. N z → ⊥) xs i x within is h.0 o.1, λ e. o.0 (each_at Y xs i x within is e))
    all_open answer.No o h = absurd h
    all_open answer.Undecided o h = (each_more (λ z. N z → ⊥) xs i x within is h.0 o.1, h.1)

  pub any_end : (a : Answer) → length xs ≤ i → AnySoFar Y N xs i a → Decides (SomeOf Y xs) (Each N xs) a
  any_end answer.Yes e h = absurd h
  any_end answer.No e h = each_all N xs i e h.1
  any_end answer.Undecided e h = (none_of Y xs (each_all (λ y. Y y → ⊥) xs i e h.0), h.1)

  pub all_end : (a : Answer) → length xs ≤ i → AllSoFar Y N xs i a → Decides (Each Y xs) (SomeOf N xs) a
  all_end answer.Yes e h = each_all Y xs i e h.1
  all_end answer.No e h = absurd h
  all_end answer.Undecided e h = (h.1, none_of N xs (each_all (λ y. N y → ⊥) xs i e h.0))

pub decides_same : {Y N Y' N' : Type 0} (a : Answer) → (Y → Y') → (Y' → Y) → (N → N') → (N' → N) → Decides Y N a → Decides Y' N' a
decides_same answer.Yes f f' g g' h = f h
decides_same answer.No f f' g g' h = g h
decides_same answer.Undecided f f' g g' h = (λ y. h.0 (f' y), λ n. h.1 (g' n))

pub each_append : {X : Type 0} (P : X → Type 0) (xs : List X) (x : X) → Each P xs → P x → Each P (xs ++ x ∷ [])
each_append P [] x h p = (p, tt)
each_append P (y ∷ ys) x h p = (h.0, each_append P ys x h.1 p)
