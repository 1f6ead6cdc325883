-- What selection does to what is found out about a body.
use Rattle.std.specs.Prelude.{◌≤◌, true, false}
use Rattle.infer_obligations.specs.Words.{DefWithBodyId, RawBody, RawFacts, FellBack, State, System, IsSystemOf, system, Obligations, AreKept, Went, NoneLeft, AreCounted, scope_item, Given, InferenceContext, AllAreAsked, OnlyBinds, UnifiesKnown}

-- ---- while a body is walked

-- under the bound of the facts goals were selected one after another until nothing selects any more, by what the goals of the item are
-- answered by, and nothing is recorded
pub record SelectsAlone (g : Given) (old new : InferenceContext) : Type 0 where
  pub of_item : IsSystemOf old.goals.sources.facts old.goals.sources.item (system old.goals.sources.sources)
  pub binds : OnlyBinds g old new
  pub went : Went old.goals.sources.facts (system old.goals.sources.sources) true old.goals.table old.goals.obligations new.goals.table
      new.goals.obligations
  pub none_left : NoneLeft old.goals.sources.facts (system old.goals.sources.sources) true new.goals.table new.goals.obligations

-- and then pairs that have become known were unified
pub record SelectsInWalk (g : Given) (old new : InferenceContext) : Type 0 where
  pub mid : InferenceContext
  pub selects : SelectsAlone g old mid
  pub unifies : UnifiesKnown g mid new
  pub binds : OnlyBinds g old new

-- ---- once it is walked

-- it is selected under the bound of the facts, then open holes for integer types fall back, and it is selected without a bound
pub record AreSelected (raw : RawFacts) (f : System) (before : State) (first : Obligations) (after : State)
    (last : Obligations) : Type 0 where
  pub bounded_table : State
  pub bounded : Obligations
  pub went : Went raw f true before first bounded_table bounded
  pub most : bounded.selected ≤ raw.limits.goal_steps
  pub none_left : NoneLeft raw f true bounded_table bounded
  pub fallen_table : State
  pub fell : FellBack bounded_table fallen_table
  pub went_on : Went raw f false fallen_table bounded after last
  pub none_left_at_last : NoneLeft raw f false after last

-- Exactly what the expressions need was registered for them, each source that a goal has by now is right, those that have one are
-- counted as selected, and then it was selected, by what the goals of the item are answered by.
pub record IsSelection (raw : RawFacts) (d : DefWithBodyId) (b : RawBody) (old new : InferenceContext) : Type 0 where
  pub system : System
  pub of_item : IsSystemOf raw (scope_item raw d) system
  pub asked : AllAreAsked raw b old
  pub kept : AreKept raw system old.goals.table old.goals.obligations
  pub counted : AreCounted old.goals.obligations
  pub selected : AreSelected raw system old.goals.table old.goals.obligations new.goals.table new.goals.obligations
