-- Matching a rule's part: its holes stand for what stands at their place, and its aliases for anything.
use Rattle.std.specs.Prelude.{◌≡◌, Bool, true, false, Some}
use Rattle.goal_terms.specs.Words.{Hole, Term, Log, found, Fill, MayRead}

-- the fill is what the first entries say
abbrev pub Agrees : Fill → Log → Type 0
Agrees p l = (k : Hole) (u : Term) → found l k ≡ Some u → p k ≡ u

-- exactly the fills that agree with `before` and under which `t` may read as `w` agree with `after`
pub record Matched (before after : Log) (t w : Term) : Type 0 where
  pub keeps : (p : Fill) → Agrees p after → Agrees p before
  pub reads : (p : Fill) → Agrees p after → MayRead p t w
  pub general : (p : Fill) → Agrees p before → MayRead p t w → Agrees p after

abbrev pub NoneMatches : Log → Term → Term → Type 0
NoneMatches before t w = (p : Fill) → Agrees p before → MayRead p t w → ⊥

abbrev pub MatchedIf : Bool → Log → Log → Term → Term → Type 0
MatchedIf true before after t w = Matched before after t w
MatchedIf false before after t w = NoneMatches before t w

-- the term may read as `w` under no fill
abbrev pub CannotRead : Term → Term → Type 0
CannotRead t w = (p : Fill) → MayRead p t w → ⊥
