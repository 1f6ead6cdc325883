-- Which source a goal is selected by, as the search finds it.
use Rattle.std.specs.Prelude.{◌≡◌, ℕ, List, Option, Some, None, slice_get}
use Rattle.goal_search.specs.Words.{Term, Kind, Rule, System, Each, SomeOf, Verdicts, CopyNo, Choice as Source, by_clause, by_rule, by_parts, by_size, IsOnlyOf, HasConcreteHead, CopiesParts}
use Rattle.goal_search.specs.declared.choose.Choice.{Choice}
use Rattle.goal_search.specs.declared.choose.Choice.TheVariants as choice
use Rattle.goal_search.specs.declared.choose.Left.{Left}
use Rattle.goal_search.specs.declared.choose.Left.TheVariants as left
use Rattle.goal_search.specs.declared.choose.Row.{Row}
use Rattle.goal_search.specs.declared.choose.Row.TheVariants as row

abbrev pub choice_of : Choice → Source
choice_of (choice.Clause i) = by_clause i
choice_of (choice.Rule i) = by_rule i
choice_of choice.Parts = by_parts
choice_of choice.Size = by_size

-- the entry at the place is so, or none is
abbrev pub IsSomeAt : {X : Type 0} → (X → Type 0) → List X → Option ℕ → Type 0
IsSomeAt {X} P xs (Some i) = (x : X) × (slice_get xs i ≡ Some x) × P x
IsSomeAt {X} P xs None = SomeOf P xs → ⊥

-- which entries are left that aren't out: none, the one at this place, or more than one
abbrev pub IsLeft : {X : Type 0} → (X → Type 0) → List X → Left → Type 0
IsLeft Out xs left.Nothing = Each Out xs
IsLeft Out xs (left.One i) = IsOnlyOf Out xs i
IsLeft Out xs left.Several = (Each Out xs → ⊥) × ((i : ℕ) → IsOnlyOf Out xs i → ⊥)

-- that the self type is copied with its parts: it is refuted; it isn't, and these are the parts; it isn't, and the parts aren't known
abbrev pub IsRow : System → Verdicts → Kind → Term → Row → Type 0
IsRow f v c w row.Refuted = CopyNo f v.No c w
IsRow f v c w row.OfParts = (CopyNo f v.No c w → ⊥) × ((ts : List Term) × CopiesParts f c w ts)
IsRow f v c w row.Unclear = (CopyNo f v.No c w → ⊥) × ((ts : List Term) → CopiesParts f c w ts → ⊥)

-- it is by this, or by nothing
abbrev pub IsBy : (Source → Type 0) → Option Source → Type 0
IsBy P (Some by) = P by
IsBy P None = (by : Source) → P by → ⊥

-- the choice, where the head of the rule at the place is concrete
abbrev pub IsConcreteIf : List Rule → ℕ → Choice → Option Choice → Type 0
IsConcreteIf rs i by (Some x) = HasConcreteHead rs i × (x ≡ by)
IsConcreteIf rs i by None = HasConcreteHead rs i → ⊥
