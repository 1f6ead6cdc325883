-- What trying a closure on a table of goals comes to.
use Rattle.std.specs.Prelude.{◌≡◌, ◌≤◌, Result, Ok, Err}
use Rattle.infer_goals.specs.Words.{Grew, GoesBack as HolesGoBack, system}
use Rattle.infer_goals.specs.declared.table.GoalTable.{GoalTable}
use Rattle.infer_goals.specs.Copying.{IsCopied}
use Rattle.infer_goals.specs.Obligations.{AreKept, HasAllOpen}

-- a closure that is tried undoes nothing that was known of holes, and leaves goals of the same item, of which no more were selected
-- than the facts let be
pub record GoesOn (before after : GoalTable) : Type 0 where
  pub table : Grew before.table after.table
  pub sources : after.sources ≡ before.sources
  pub selected : after.obligations.selected ≤ after.sources.facts.limits.goal_steps

-- what each call on a table of goals takes for granted
pub record KeepsGoals (t : GoalTable) : Type 0 where
  pub kept : AreKept t.sources.facts (system t.sources.sources) t.table t.obligations
  pub all : HasAllOpen (system t.sources.sources) t.table t.obligations

-- holes, goals with what selects them, proofs, uses and entries are as before; what was told stays told, and what was selected stays
-- counted
pub record GoesBack (before during after : GoalTable) : Type 0 where
  pub table : HolesGoBack before.table during.table after.table
  pub bounded : after.bounded ≡ before.bounded
  pub sources : after.sources ≡ before.sources
  pub obligations : IsCopied before.obligations after.obligations
  pub selected : after.obligations.selected ≡ during.obligations.selected
  pub told : after.told ≡ during.told
  pub uses : after.uses.items ≡ before.uses.items
  pub projections : after.projections.items ≡ before.projections.items

-- the closure gave the answer: what it did is kept where that is `Ok`, else it is gone back
abbrev pub CommitsIfOk : {T E O : Type 0} → (Result (Result T E) O → GoalTable → Type 0) → GoalTable → GoalTable → Result T E → Type 0
CommitsIfOk returns before after (Ok x) = returns (Ok (Ok x)) after
CommitsIfOk returns before after (Err e) = (during : GoalTable) × returns (Ok (Err e)) during × GoesBack before during after
