-- What a proof of a goal is, where aliases read as a table says.
use Rattle.std.specs.Prelude.{◌≡◌, ◌⊎◌, ℕ, zero, suc, [], Option, Some}
use Rattle.goal_answers.specs.Words.{TypeAliasId, Term}
use Rattle.goal_answers.specs.Reading.{Fill, IsFilling, staying, Aliases, Reads, ReadsAs}
use Rattle.goal_answers.specs.Goals.{Kind, projects, Asked, Rule, System, asked_at, args_of, type_of, self_type, only, is_among, OneIf, Each, SomeOf}
use Rattle.goal_answers.specs.Rows.{CopyYes, SizedYes}
use Rattle.goal_answers.specs.Answers.{IsItself, Shadows, answers}

-- one thing of each alias, or nothing
abbrev pub IsOne : Aliases → Type 0
IsOne P = (k : TypeAliasId) (w u u' : Term) → P k w u → P k w u' → u ≡ u'

-- the head is the goal at some arguments, at which each predicate has a proof
pub record IsSource (P : Aliases) (Proved : Asked → Type 0) (c : Kind) (w : Term) (r : Rule) : Type 0 where
  pub kind : r.head.kind ≡ c
  pub at : Fill
  pub head : Reads P at r.head.parts w
  pub preds : Each (λ q. Proved (asked_at at q)) r.preds

-- a clause, or where none shadows them a rule, or that the parts are copied
abbrev pub HasSource : System → Aliases → (Asked → Type 0) → Kind → Term → Type 0
HasSource f P Proved c w =
    SomeOf (IsSource P Proved c w) f.clauses
    ⊎ (Each (λ r. Shadows P c w r → ⊥) f.clauses × (SomeOf (IsSource P Proved c w) f.rules ⊎ CopyYes f Proved c w))

-- a proof of height at most `n`: once aliases are read as `P` says, the two sides are the same, or the goal has a source of
-- which each predicate has a proof that is lower
abbrev pub HasProof : System → Aliases → ℕ → Asked → Type 0
HasProof f P zero g = ⊥
HasProof f P (suc n) g =
    (w : Term) × ReadsAs P g.parts w
    × (IsItself g.kind w ⊎ OneIf (is_among f.sized g.kind)
    (SizedYes f P (λ t. HasSource f P (HasProof f P n) g.kind (only t)) f.tail (self_type w)) (HasSource f P (HasProof f P n) g.kind w))

-- the rule says that the alias is this type, and each predicate has a proof
pub record IsGiven (P : Aliases) (Proved : Asked → Type 0) (k : TypeAliasId) (w u : Term) (r : Rule) : Type 0 where
  pub kind : r.head.kind ≡ projects k
  pub at : Fill
  pub args : Reads P at (args_of r.head.parts) w
  pub type : Reads P at (type_of r.head.parts) u
  pub preds : Each (λ q. Proved (asked_at at q)) r.preds

-- the clause speaks of the alias at these arguments
pub record Claims (P : Aliases) (k : TypeAliasId) (w : Term) (r : Rule) : Type 0 where
  pub kind : r.head.kind ≡ projects k
  pub at : Fill
  pub args : Reads P at (args_of r.head.parts) w
  pub no_preds : r.preds ≡ []

-- what the table says of an alias has a proof too, or is the alias
abbrev pub IsEntry : System → Aliases → ℕ → TypeAliasId → Term → Term → Type 0
IsEntry f P n k w u =
    (u ≡ staying k w)
    ⊎ (SomeOf (IsGiven P (HasProof f P n) k w u) f.clauses
    ⊎ (Each (λ r. Claims P k w r → ⊥) f.clauses × SomeOf (IsGiven P (HasProof f P n) k w u) f.rules))

-- a goal answered Yes has a proof however its holes are filled without aliases, under what aliases read as at that depth, of which
-- each entry has a proof
abbrev pub YesHasProofs : Type 0
YesHasProofs =
    (f : System) (n : ℕ) →
    ((g : Asked) (s : Fill) → IsFilling s → (answers f n).Yes g → HasProof f (answers f n).Alias (suc n) (asked_at s g))
    × ((k : TypeAliasId) (w u : Term) → (answers f n).Alias k w u → IsEntry f (answers f n).Alias n k w u)

-- what a table says of an alias, one thing or nothing
abbrev pub Says : (TypeAliasId → Term → Option Term) → Aliases
Says table k w u = table k w ≡ Some u

-- a goal answered No has none, under any table that says what aliases read as at that depth, and of others what it will
abbrev pub NoHasNoProof : Type 0
NoHasNoProof =
    (f : System) (n : ℕ) (table : TypeAliasId → Term → Option Term) →
    ((k : TypeAliasId) (w u : Term) → (answers f n).Alias k w u → Says table k w u) →
    (g : Asked) (s : Fill) → IsFilling s → (answers f n).No g → (height : ℕ) → HasProof f (Says table) height (asked_at s g) → ⊥
