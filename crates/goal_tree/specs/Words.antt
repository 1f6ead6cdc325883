-- What this crate takes from those below it.
pub use Rattle.hir_types.specs.Own.{Term}
pub use Rattle.hir_types.specs.declared.goal.Goal.{Goal}
pub use Rattle.hir_types.specs.declared.ids.ExprOrPatId.{ExprOrPatId}
pub use Rattle.goal_facts.specs.Words.{RawFacts}
pub use Rattle.goal_facts.specs.Words.{IsFront}
pub use Rattle.goal_facts.specs.Words.{Asked, System, Aliases, Fill, ReadsAs}
pub use Rattle.goal_facts.specs.Own.{AreProofs, AreProofsOf, Holds, IsProofOf, IsSame, IsSource, MayHaveSource, filled_goal}
pub use Rattle.goal_facts.specs.declared.proof.Proof.{Proof}
pub use Rattle.goal_facts.specs.declared.proof.ProofSource.{ProofSource}
