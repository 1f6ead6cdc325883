-- What the answer to a goal is, and what an alias reads as, at each depth: The Rust Reference, "Trait and lifetime bounds",
-- "Implementations", "Associated items".
use Rattle.std.specs.Prelude.{◌≡◌, ◌⊎◌, ℕ, zero, suc, true, List, []}
use Rattle.goal_answers.specs.Words.{TypeAliasId, Term, pair, apply, Respects}
use Rattle.goal_answers.specs.Reading.{Fill, staying, IsFilling, stands, Aliases, Reads, ReadsAs, MayRead}
use Rattle.goal_answers.specs.Goals.{Kind, implements, projects, Asked, Rule, System, asked_at, args_of, type_of, key, IsKnown, self_type, only, is_among, OneIf, Each, SomeOf, OneOf, IsTold, Verdicts}
use Rattle.goal_answers.specs.Rows.{CopyYes, CopyNo, SizedYes, SizedNo}

-- ---- what is apart

-- no common instance of the read term `h` and the goal's part `w`
abbrev pub NeverSame : Term → Term → Type 0
NeverSame h w = (x s : Fill) → Respects x → Respects s → apply x h ≡ apply s w → ⊥

-- the part `t` of a rule has no common instance with `w`, whatever its aliases read as
abbrev pub IsApart : Term → Term → Type 0
IsApart t w = (q s : Fill) → IsFilling s → MayRead q t (apply s w) → ⊥

-- in each common instance what stands for the holes that `t` tells is an instance of `p`. (Of a goal filled without aliases,
-- so that the answers at `p` are those at the instance.)
abbrev pub IsGeneral : Term → Term → Fill → Type 0
IsGeneral t w p = (q s : Fill) → IsFilling s → MayRead q t (apply s w) → (x : Fill) × IsFilling x
    × ((k : _) → stands k t ≡ true → q k ≡ apply x (p k))

-- at what is general enough the part reads as something else, or a predicate is No
pub record FailsAt (A : Aliases) (v : Verdicts) (t : Term) (preds : List Asked) (w : Term) : Type 0 where
  pub at : Fill
  pub general : IsGeneral t w at
  pub fails : ((h : Term) × Reads A at t h × NeverSame h w) ⊎ SomeOf (λ q. v.No (asked_at at q)) preds

abbrev pub IsRefuted : Aliases → Verdicts → Rule → Term → List Asked → Term → Type 0
IsRefuted A v r t preds w = IsApart t w ⊎ (IsTold r × FailsAt A v t preds w)

-- ---- what aliases read as

-- the rule says that alias `k` at the arguments `w` is the type `u`, and its predicates are Yes
pub record Gives (v : Verdicts) (k : TypeAliasId) (w u : Term) (r : Rule) : Type 0 where
  pub kind : r.head.kind ≡ projects k
  pub told : IsTold r
  pub at : Fill
  pub args : Reads v.Alias at (args_of r.head.parts) w
  pub type : Reads v.Alias at (type_of r.head.parts) u
  pub preds : Each (λ q. v.Yes (asked_at at q)) r.preds

abbrev pub GivesNone : Verdicts → TypeAliasId → Term → Rule → Type 0
GivesNone v k w r = (r.head.kind ≡ projects k → ⊥) ⊎ IsRefuted v.Alias v r (args_of r.head.parts) r.preds w

-- by its one source, or as it stands where it has none
abbrev pub ByRules : Verdicts → List Rule → TypeAliasId → Term → Term → Type 0
ByRules v rs k w u = OneOf (Gives v k w u) (GivesNone v k w) rs ⊎ (Each (GivesNone v k w) rs × (u ≡ staying k w))

-- clauses come before rules
abbrev pub alias_next : System → Verdicts → Aliases
alias_next f v k w u =
    IsKnown w × (OneOf (Gives v k w u) (GivesNone v k w) f.clauses ⊎ (Each (GivesNone v k w) f.clauses × ByRules v f.rules k w u))

abbrev pub CannotGive : TypeAliasId → Term → Rule → Type 0
CannotGive k w r = (r.head.kind ≡ projects k → ⊥) ⊎ IsApart (args_of r.head.parts) w

-- at depth 0 an alias stays that no source could give, and others are open
abbrev pub alias_first : System → Aliases
alias_first f k w u = IsKnown w × Each (CannotGive k w) f.clauses × Each (CannotGive k w) f.rules × (u ≡ staying k w)

-- ---- sources

-- the rule's head reads as the goal, and its predicates are Yes
pub record Proves (A : Aliases) (Yes : Asked → Type 0) (c : Kind) (w : Term) (r : Rule) : Type 0 where
  pub kind : r.head.kind ≡ c
  pub told : IsTold r
  pub at : Fill
  pub head : Reads A at r.head.parts w
  pub preds : Each (λ q. Yes (asked_at at q)) r.preds

abbrev pub RuleIsRefuted : Aliases → Verdicts → Kind → Term → Rule → Type 0
RuleIsRefuted A v c w r = (r.head.kind ≡ c → ⊥) ⊎ IsRefuted A v r r.head.parts r.preds w

-- the key of a clause is the goal's: of projections the alias at the same arguments
pub record Shadows (A : Aliases) (c : Kind) (w : Term) (r : Rule) : Type 0 where
  pub kind : r.head.kind ≡ c
  pub told : IsTold r
  pub at : Fill
  pub head : Reads A at (key c r.head.parts) (key c w)

abbrev pub ShadowsNot : Aliases → Verdicts → Kind → Term → Rule → Type 0
ShadowsNot A v c w r = (r.head.kind ≡ c → ⊥) ⊎ IsRefuted A v r (key c r.head.parts) [] (key c w)

abbrev pub HasSource : System → Aliases → Verdicts → Kind → Term → Type 0
HasSource f A v c w =
    SomeOf (Proves A v.Yes c w) f.clauses
    ⊎ (Each (ShadowsNot A v c w) f.clauses × (SomeOf (Proves A v.Yes c w) f.rules ⊎ CopyYes f v.Yes c w))

abbrev pub HasNoSource : System → Aliases → Verdicts → Kind → Term → Type 0
HasNoSource f A v c w =
    Each (RuleIsRefuted A v c w) f.clauses × (SomeOf (Shadows A c w) f.clauses ⊎ (Each (RuleIsRefuted A v c w) f.rules × CopyNo f v.No c w))

-- ---- answers

-- a projection whose two sides are the same
abbrev pub IsItself : Kind → Term → Type 0
IsItself (implements n) w = ⊥
IsItself (projects k) w = (x : Term) × (w ≡ pair x (staying k x))

abbrev pub IsNeverItself : Kind → Term → Type 0
IsNeverItself (implements n) w = Unit {0}
IsNeverItself (projects k) w = (s : Fill) (x : Term) → Respects s → apply s w ≡ pair x (staying k x) → ⊥

-- the answers to a goal that reads as `w`
abbrev pub YesAt : System → Aliases → Verdicts → Kind → Term → Type 0
YesAt f A v c w =
    IsKnown (key c w) × (IsItself c w
    ⊎ OneIf (is_among f.sized c) (SizedYes f A (λ t. IsKnown (only t) × HasSource f A v c (only t)) f.tail (self_type w))
    (HasSource f A v c w))

abbrev pub NoAt : System → Aliases → Verdicts → Kind → Term → Type 0
NoAt f A v c w =
    IsKnown (key c w) × IsNeverItself c w
    × OneIf (is_among f.sized c) (SizedNo f A (λ t. IsKnown (only t) × HasNoSource f A v c (only t)) f.tail (self_type w))
    (HasNoSource f A v c w)

-- one step deeper: aliases first, in the goal and in the heads of sources
abbrev pub next : System → Verdicts → Verdicts
next f v = record {
  Yes = λ g. (w : Term) × ReadsAs (alias_next f v) g.parts w × YesAt f (alias_next f v) v g.kind w;
  No = λ g. (w : Term) × ReadsAs (alias_next f v) g.parts w × NoAt f (alias_next f v) v g.kind w;
  Alias = alias_next f v;
}

-- before the first step nothing is known
abbrev pub nothing : System → Verdicts
nothing f = record { Yes = λ g. ⊥; No = λ g. ⊥; Alias = alias_first f }

-- and only whether a type has a size is answered
abbrev pub first : System → Verdicts
first f = record {
  Yes = λ g. (w : Term) × ReadsAs (alias_first f) g.parts w × (is_among f.sized g.kind ≡ true)
      × YesAt f (alias_first f) (nothing f) g.kind w;
  No = λ g. (w : Term) × ReadsAs (alias_first f) g.parts w × (is_among f.sized g.kind ≡ true) × NoAt f (alias_first f) (nothing f) g.kind w;
  Alias = alias_first f;
}

abbrev pub answers : System → ℕ → Verdicts
answers f zero = first f
answers f (suc n) = next f (answers f n)
