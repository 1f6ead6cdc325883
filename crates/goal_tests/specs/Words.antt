-- What this crate takes from those below it.
pub use Rattle.hir_types.specs.Own.{arg_term_type, arg_term, leaf, term}
pub use Rattle.infer_goals.specs.Words.{are_of_leaf, are_of_pair, HasMadeIf, AreOf, Grew, State}
pub use Rattle.infer_goals.specs.Words.{HasHeads, term_of}
pub use Rattle.infer_goals.specs.Words.{system}
pub use Rattle.infer_goals.specs.Words.{ItemSources}
pub use Rattle.infer_goals.specs.Words.{GoalIsOf, only_goal}
pub use Rattle.infer_goals.specs.Words.{IsTree}
pub use Rattle.infer_goals.specs.Own.{AreKept, HasAllOpen, StaysButHoles, all_still, kept_still, stays_with, GoesOn, KeepsGoals}
pub use Rattle.infer_goals.specs.declared.obligations.Obligations.{Obligations}
pub use Rattle.infer_goals.specs.declared.table.GoalTable.{GoalTable}
