-- What this crate defines, from one place: for its code and proofs, and for the crates above.
pub use Rattle.infer_goals.specs.Copying.{AreCopied, IsCopied}
pub use Rattle.infer_goals.specs.Kept.{all_grows, goal_later, kept_grows, meets_earlier}
pub use Rattle.infer_goals.specs.Obligations.{AreAmongEither, AreAt, AreBelow, AreCounted, AreKept, AreLower, AreScanned, AreSettled, AreSteps, AreThere, AreUsedUp, AreWithin, BoundMore, EndsRound, FallAsleep, HasAllAnyhow, HasAllOf, HasAllOpen, HasAllSince, IsAsleep, IsListedByHoles, IsSettled, IsStep, IsTried, IsVisited, KeepsAllOpen, KeepsOpen, NoneLeft, ScansOpen, SleepsAll, Stays, StaysSettled, WakesAll, Went, counted, has_source, new_numbers, sourced}
pub use Rattle.infer_goals.specs.SelfTy.{Adds, AreForSelfTy, AreListed, AreListedIf, AreOfAll, HasChildren, IsAbout, IsHole, IsListedAs, IsListedIfAbout, IsListedPending, children, levels}
pub use Rattle.infer_goals.specs.Sleepers.{AreWoken, FallsAsleep, HasRoom, IsAmong, IsListed, IsStirred, IsStirredAt, KeepsListed, ListsHoles, Sleeps}
pub use Rattle.infer_goals.specs.Stays.{IsUnused, StaysButHoles, all_still, kept_still, stays_itself, stays_twice, stays_with}
pub use Rattle.infer_goals.specs.Told.{resolved_goal}
pub use Rattle.infer_goals.specs.Undo.{CommitsIfOk, GoesBack, GoesOn, KeepsGoals}
pub use Rattle.infer_goals.specs.declared.obligations.Obligations.{Obligations}
pub use Rattle.infer_goals.specs.declared.sleepers.Sleepers.{Sleepers}
pub use Rattle.infer_goals.specs.declared.table.GoalTable.{GoalTable}
