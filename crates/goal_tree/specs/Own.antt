-- What this crate defines, from one place: for its code and proofs, and for the crates above.
pub use Rattle.goal_tree.specs.Right.{HasRightly, IsRight, filled_goals}
pub use Rattle.goal_tree.specs.Trees.{AreAskedBy, AreChildren, AreProved, AreProvedAs, HasSource, IsAsked, IsAskedBy, IsCopied, IsLater, IsMoreProved, IsOpenAt, IsProofAt, IsProvedAt, IsProvedBy, IsProvedNext, IsProvedUpTo, IsSelectedAt, IsSelectedBy, IsTree, IsTreeBut, IsWaitingAt, SomeUnproved, asked_by, is_pending, opens, pending_of, registered}
pub use Rattle.goal_tree.specs.declared.obligation.Obligation.{Obligation}
pub use Rattle.goal_tree.specs.declared.obligation.Standing.{Standing}
pub use Rattle.goal_tree.specs.declared.tree.GoalTree.{GoalTree}
